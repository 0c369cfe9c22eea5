-- The world as the protocol's world with folding, its calls as that world's calls, and what every world of the list keeps: each office's record is
-- sound, is office k's and has the founding's n and weights, and each sent message reads as a content with that n and those weights.
--     shape, call_of     the protocol's world and call
--     view              the same on whole logs, as the protocol's world without folding
-- Assumes nothing.
use mathlib.Core.Path.{◌≡◌, refl, sym, ap, subst, ◌∙◌}
use mathlib.Core.Bool.{Bool, true, false}
use mathlib.Core.List.{List, [], map}
use Rattle.std.specs.Prelude.{Some, slice_get}
use mathlib.Core.Logic.{◌⊎◌, inl, inr}
use Prim.Native.Nat.{ℕ, zero, suc}
use lib.Dec.{eqb}
use lib.ListN as L
use lib.ListN.{length, set, length-map, length-set}
use lib.Seq.{set-get_or}
use borrow.Author.Tests.{lt-ltb}
use Rattle.lists.specs.Tests.{pick}
use Rattle.lists.proofs.Tests.{map-set}
use Rattle.protocol.specs.Folding.{FoldedOffice, Packet}
use Rattle.protocol.proofs.World as P
use Rattle.protocol.proofs.Effects.{Effect}
use Rattle.protocol.proofs.FoldedWorld as F
use Rattle.one_order.proofs.FoldedSound as S
use Rattle.kept.specs.declared.Kept.{Kept}
use Rattle.spelling.specs.Content.{Content, as_packet}
use Rattle.spelling.specs.Reading.{sender_at, content_at, reading}
use Rattle.spelling.proofs.Laws.{reading-is}
use Rattle.frame.specs.State.{folded_by}
use Rattle.frame.specs.Soundness.{Sound}
use Rattle.sending.specs.Sending.{send_of}
use Rattle.agreement.specs.World.{Replica, Posted, World, Call, issue, send, take, elect, fold, replica_at, message_at, on_some, put, post}
use Rattle.agreement.specs.Demand.{says}
use Rattle.agreement.specs.Calls.{carries}
use Rattle.agreement.proofs.Places.{there, there-at, map-there, set_there}

-- ── the view ──
-- what a message's bytes say
pub means : List ℕ → Packet
means s = as_packet (content_at s)

-- what a record keeps
abbrev pub effect_in : Kept → Effect
effect_in k = record { weights = k.summary.present; codes = k.summary.codes; counts = k.counts }

abbrev pub desk_of : Replica → F.Desk
desk_of d = record { now = folded_by d.held d.words; kept = effect_in d.held.kept; former = d.former }

abbrev pub sent_of : Posted → F.Posted
sent_of s = record { message = means s.bytes; former = s.former }

abbrev pub shape : World → F.World
shape w = record { desks = map desk_of w.replicas; sent = map sent_of w.sent }

abbrev pub view : World → P.World
view w = F.view (shape w)

abbrev pub send_done : Replica → List ℕ → Bool
send_done d out = eqb (send_of d.held d.words out).number 0

-- the protocol's call, `idle` where the call names no office that is there, or no message sent; whether the output is long enough is known by
-- the send's number
abbrev pub call_of : World → Call → F.Call
call_of w (issue k line code) = on_some (replica_at w k) F.idle (λ _. F.issue k line code)
call_of w (send k out) = on_some (replica_at w k) F.idle (λ d. F.send k (send_done d out))
call_of w (take k m) = on_some (replica_at w k) F.idle (λ _. on_some (message_at w m) F.idle (λ _. F.take k m))
call_of w (elect k) = on_some (replica_at w k) F.idle (λ _. F.elect k)
call_of w (fold k) = on_some (replica_at w k) F.idle (λ _. F.fold k)

-- ── what is kept ──
-- a sound record of office k, with the founding's n and weights
pub record SoundReplica (n : ℕ) (ws : List ℕ) (k : ℕ) (d : Replica) : Type 0 where
  pub count : d.held.n ≡ n
  pub own : d.held.own ≡ k
  pub weights : d.held.weights ≡ ws
  pub sound : Sound d.held d.words

-- the bytes of a message with this n and these weights
pub record Readable (n : ℕ) (ws : List ℕ) (s : List ℕ) : Type 0 where
  pub content : Content
  pub reads : reading s ≡ Some content
  pub count : content.n ≡ n
  pub weights : content.weights ≡ L.take n ws

pub record SoundWorld (n : ℕ) (ws : List ℕ) (w : World) : Type 0 where
  pub offices : length w.replicas ≡ n
  pub each : (k : ℕ) (d : Replica) → replica_at w k ≡ Some d → SoundReplica n ws k d
  pub readable : (m : ℕ) (s : Posted) → message_at w m ≡ Some s → Readable n ws s.bytes

-- what such bytes say
pub means-content : (n : ℕ) (ws : List ℕ) (s : List ℕ) (x : Readable n ws s) → means s ≡ as_packet x.content
unfolding means
means-content n ws s x = ap as_packet (reading-is s x.content x.reads).1

pub means-sender : (s : List ℕ) → (means s).sender ≡ sender_at s
unfolding means as_packet content_at
means-sender s = refl

-- with what its sender had dropped
pub carried : (s : Posted) → F.whole_message (sent_of s) ≡ carries s
unfolding means
carried s = refl

-- ── the world after a call at a replica ──
pub put-sound : (n : ℕ) (ws : List ℕ) (w : World) (k : ℕ) (d : Replica) → SoundWorld n ws w → SoundReplica n ws k d → SoundWorld n ws (put w k d)
put-sound n ws w k d s m = record {
  offices = length-set w.replicas k d ∙ s.offices;
  each = λ j e q. go j e (set_there w.replicas k d j e q);
  readable = s.readable;
}
  where
    go : (j : ℕ) (e : Replica) → (replica_at w j ≡ Some e) ⊎ ((j ≡ k) × (d ≡ e)) → SoundReplica n ws j e
    go j e (inl q) = s.each j e q
    go j e (inr q) = subst (λ (x : Replica). SoundReplica n ws j x) q.1 (subst (λ (i : ℕ). SoundReplica n ws i d) (sym q.0) m)

pub post-sound : (n : ℕ) (ws : List ℕ) (w : World) (b : Posted) → SoundWorld n ws w → Readable n ws b.bytes → SoundWorld n ws (post w b)
post-sound n ws w b s x = record { offices = s.offices; each = s.each; readable = go }
  where
    go : (m : ℕ) (t : Posted) → message_at (post w b) m ≡ Some t → Readable n ws t.bytes
    go zero t e = subst (λ (y : Posted). Readable n ws y.bytes) (let q : b ≡ t = cc in q) x
    go (suc m) t e = s.readable m t e

-- it has as many offices
pub shape-length : (n : ℕ) (ws : List ℕ) (w : World) → SoundWorld n ws w → length (shape w).desks ≡ n
shape-length n ws w s = length-map w.replicas desk_of ∙ s.offices

-- a message that was sent
pub shape-sent : (w : World) (m : ℕ) (s : Posted) → message_at w m ≡ Some s → slice_get (shape w).sent m ≡ Some (sent_of s)
shape-sent w m s e = map-there sent_of w.sent m s e

-- a replica, and one that holds another state, or the same under a test
module _ (w : World) (k : ℕ) (d : Replica) (here : replica_at w k ≡ Some d) where
  pub shape-there : F.is_there (shape w) k ≡ true
  shape-there = lt-ltb k (length (map desk_of w.replicas)) (rw length-map (there w.replicas k d here))

  pub shape_at : F.desk_at (shape w) k ≡ desk_of d
  shape_at = there-at (map desk_of w.replicas) k (desk_of d) (F.new_desk []) (map-there desk_of w.replicas k d here)

  pub view-at : P.at (view w) k ≡ says d
  view-at = S.view-at (shape w) k ∙ ap F.whole_desk shape_at

  pub put-shape : (d' : Replica) (t : Bool) (f : FoldedOffice) → desk_of d' ≡ pick t (F.leaving (desk_of d) f) (desk_of d) → shape (put w k d') ≡ pick t (F.put (shape w) k f) (shape w)
  unfolding pick
  put-shape d' t f e = ap seen (map-set desk_of w.replicas k d') ∙ go t e
    where
      -- the same with other desks
      seen : List F.Desk → F.World
      seen l = record { desks = l; sent = map sent_of w.sent }

      putting : F.Desk → F.World
      putting x = seen (set (map desk_of w.replicas) k x)

      go : (t : Bool) → desk_of d' ≡ pick t (F.leaving (desk_of d) f) (desk_of d) → putting (desk_of d') ≡ pick t (F.put (shape w) k f) (shape w)
      go true e = ap putting (e ∙ ap (λ (x : F.Desk). F.leaving x f) (sym shape_at))
      go false e = ap putting (e ∙ sym shape_at) ∙ ap seen (set-get_or (map desk_of w.replicas) k (F.new_desk []))
