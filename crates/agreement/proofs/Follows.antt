-- The world follows the protocol's world with folding: its start is the founded one, and each call of it, seen through what the records, words and
-- bytes say, is the protocol's call (`folder`). So after every list of calls what is known of the protocol's world is known of it (`both-after`),
-- and on whole logs it is one that document 01's calls reach (`viewed`). Assumes nothing.
use mathlib.Core.Path.{◌≡◌, refl, sym, ap, ap₂, subst, ◌∙◌}
use mathlib.Core.Bool.{Bool, true, false, ◌&&◌, cond}
use mathlib.Core.List.{List, [], ◌∷◌, map}
use Rattle.std.specs.Prelude.{Option, None, Some}
use Prim.Native.Nat.{ℕ, zero, suc}
use native.Mathlib.Omega.{arith}
use lib.Dec.{eqb, ltb}
use lib.ListN.{length, length-map, replicate}
use Rattle.std.specs.Prelude.{slice_get}
use borrow.Author.Tests.{lt-ltb, eqb-true}
use Rattle.lists.specs.Tests.{pick}
use Rattle.lists.proofs.Tests.{pick-cases}
use Rattle.protocol.specs.Entry.{value}
use Rattle.protocol.specs.SettledRule.{by_settled}
use Rattle.protocol.specs.Folding.{Packet, packet, with_fold, with_folded_issue, refuse_folded_issue, with_folded_elect, with_folded_take, refuse_folded_take}
use Rattle.protocol.proofs.World as P
use Rattle.one_order.proofs.History as H
use Rattle.protocol.proofs.Effects.{rule_behind}
use Rattle.one_order.proofs.Machine.{runs, reached}
use Rattle.protocol.proofs.FoldedWorld as F
use Rattle.protocol.proofs.FoldedWorld.{names, done, number as number_f, step as step_f}
use Rattle.one_order.proofs.FoldedMachine.{Folder, wholly, Both, both_at}
use Rattle.frame.specs.Electing.{elected_of}
use Rattle.frame.specs.State.{folded_by}
use Rattle.sending.specs.Sending.{send_of}
use Rattle.agreement.specs.World.{
  Replica,
  Posted,
  World,
  Call,
  issue,
  send,
  take,
  elect,
  fold,
  replica_at,
  message_at,
  on_some,
  put,
  issued,
  taken,
  elected,
  folded,
  post,
  posted,
  number,
  step,
  after,
}
use Rattle.agreement.specs.Demand.{Founded}
use Rattle.agreement.proofs.Places.{nothing, there}
use Rattle.agreement.proofs.View.{
  means,
  desk_of,
  sent_of,
  shape,
  view,
  send_done,
  call_of,
  SoundReplica,
  SoundWorld,
  put-sound,
  post-sound,
  shape-length,
  shape-sent,
  shape-there,
  shape_at,
  put-shape,
}
use Rattle.agreement.proofs.Founded.{found_replica, founding-sound, founding-desk}
use Rattle.agreement.proofs.Issued.{issue-moves}
use Rattle.agreement.proofs.Sent.{send-readable, send-means}
use Rattle.agreement.proofs.Taken.{take-moves}
use Rattle.agreement.proofs.Elected.{elect-moves}
use Rattle.agreement.proofs.Folded.{fold-moves}
use Rattle.agreement.proofs.Numbers.{numbers}

-- ── the protocol's step ──
step-named : (v : F.World) (c : F.Call) → names v c ≡ true → pick (eqb (number_f v c) 0) (done v c) v ≡ step_f v c
unfolding step_f pick
step-named v c h = go (eqb (number_f v c) 0) ∙ ap (λ (t : Bool). cond (t && eqb (number_f v c) 0) (done v c) v) (sym h)
  where
    go : (t : Bool) → pick t (done v c) v ≡ cond t (done v c) v
    go true = refl
    go false = refl

step-idle : (v : F.World) → v ≡ step_f v F.idle
unfolding step_f names
step-idle v = refl

-- ── the start ──
module _ (n : ℕ) (ws : List ℕ) (start : World) (f : Founded n ws start) where
  founded-so : (k : ℕ) (d : Replica) → replica_at start k ≡ Some d → found_replica n ws k d.words ≡ d
  founded-so k d e = λ i. record { held = sym (f.founded k d e).1 i; words = d.words; former = sym (f.nothing-dropped k d e) i }

  pub sound-start : SoundWorld n ws start
  sound-start = record {
    offices = f.offices;
    each = λ k d e. subst (λ (x : Replica). SoundReplica n ws k x) (founded-so k d e) (founding-sound n ws k d.words (f.founded k d e).0);
    readable = λ m s e. absurd (nothing s (ap (λ (l : List Posted). slice_get l m) (sym f.silent) ∙ e));
  }

  start-desk : (k : ℕ) (d : Replica) → replica_at start k ≡ Some d → desk_of d ≡ F.new_desk ws
  start-desk k d e = ap desk_of (sym (founded-so k d e)) ∙ founding-desk n ws k d.words (f.founded k d e).0

  pub starts : shape start ≡ F.founded ws n
  starts = ap₂ (λ (l : List F.Desk) (s : List Posted). record { desks = l; sent = map sent_of s }) (all start.replicas n f.offices start-desk) f.silent
    where
      all : (l : List Replica) (n : ℕ) → length l ≡ n → ((k : ℕ) (d : Replica) → slice_get l k ≡ Some d → desk_of d ≡ F.new_desk ws) → map desk_of l ≡ replicate n (F.new_desk ws)
      all [] n e h = ap (λ (k : ℕ). replicate k (F.new_desk ws)) e
      all (d ∷ l) zero e h = absurd (omega arith)
      all (d ∷ l) (suc n) e h = ap₂ (λ (x : F.Desk) (r : List F.Desk). x ∷ r) (h 0 d refl) (all l n (omega arith) (λ k x q. h (suc k) x q))

-- ── one call ──
module _ (n : ℕ) (ws : List ℕ) (w : World) (s : SoundWorld n ws w) where
  issue-follows : (k line code : ℕ) → shape (step w (issue k line code)) ≡ step_f (shape w) (call_of w (issue k line code))
  unfolding step names number_f done
  issue-follows k line code = go (replica_at w k) refl
    where
      go : (x : Option Replica) → replica_at w k ≡ x → shape (on_some x w (λ d. put w k (issued d line code))) ≡ step_f (shape w) (on_some x F.idle (λ _. F.issue k line code))
      go None e = step-idle (shape w)
      go (Some d) e =
          let now = folded_by d.held d.words in
          put-shape w k d e (issued d line code) (eqb (refuse_folded_issue n k line code now) 0) (with_folded_issue k (value k line code) now)
          (issue-moves n ws k d (s.each k d e) line code).desk
          ∙ ap₂ (λ (c : ℕ) (x : F.Desk). pick (eqb (refuse_folded_issue c k line code x.now) 0) (F.put (shape w) k (with_folded_issue k (value k line code) x.now)) (shape w))
          (sym (shape-length n ws w s)) (sym (shape_at w k d e))
          ∙ step-named (shape w) (F.issue k line code) (shape-there w k d e)

  send-follows : (k : ℕ) (out : List ℕ) → shape (step w (send k out)) ≡ step_f (shape w) (call_of w (send k out))
  unfolding step names number_f done pick
  send-follows k out = go (replica_at w k) refl
    where
      Goal : Option Replica → Type 0
      Goal x = shape (on_some x w (λ d. pick (send_done d out) (post w (posted d out)) w)) ≡ step_f (shape w) (on_some x F.idle (λ d. F.send k (send_done d out)))

      -- with the office's own message
      sending : F.Desk → F.World
      sending x = record { desks = (shape w).desks; sent = record { message = packet k x.now; former = x.former } ∷ (shape w).sent }

      -- by whether the send is done
      by : (d : Replica) (e : replica_at w k ≡ Some d) (t : Bool) → send_done d out ≡ t
          → shape (pick t (post w (posted d out)) w) ≡ pick (eqb (cond t 0 6) 0) (sending (F.desk_at (shape w) k)) (shape w)
      by d e true q =
          ap (λ (m : Packet). record { desks = (shape w).desks; sent = record { message = m; former = d.former } ∷ (shape w).sent })
          (send-means n ws k d (s.each k d e) out (eqb-true (send_of d.held d.words out).number 0 q))
          ∙ ap sending (sym (shape_at w k d e))
      by d e false q = refl

      go : (x : Option Replica) → replica_at w k ≡ x → Goal x
      go None e = step-idle (shape w)
      go (Some d) e = by d e (send_done d out) refl ∙ step-named (shape w) (F.send k (send_done d out)) (shape-there w k d e)

  take-follows : (k m : ℕ) → shape (step w (take k m)) ≡ step_f (shape w) (call_of w (take k m))
  unfolding step names number_f done
  take-follows k m = go (replica_at w k) refl (message_at w m) refl
    where
      Goal : Option Replica → Option Posted → Type 0
      Goal x y = shape (on_some x w (λ d. on_some y w (λ b. put w k (taken d b.bytes)))) ≡ step_f (shape w) (on_some x F.idle (λ _. on_some y F.idle (λ _. F.take k m)))

      sent : (b : Posted) → message_at w m ≡ Some b → ltb m (length (map sent_of w.sent)) ≡ true
      sent b e = lt-ltb m (length (map sent_of w.sent)) (rw length-map (there w.sent m b e))

      go : (x : Option Replica) → replica_at w k ≡ x → (y : Option Posted) → message_at w m ≡ y → Goal x y
      go None e y f = step-idle (shape w)
      go (Some d) e None f = step-idle (shape w)
      go (Some d) e (Some b) f =
          let i = means b.bytes in
          let now = folded_by d.held d.words in
          put-shape w k d e (taken d b.bytes) (eqb (refuse_folded_take k i now) 0) (with_folded_take k i now) (take-moves n ws k d (s.each k d e) b.bytes (s.readable m b f)).desk
          ∙ ap₂ (λ (x : F.Desk) (y : Option F.Posted). pick (eqb (F.refuse_taking k y x.now) 0) (F.put (shape w) k (F.taking k y x.now)) (shape w))
          (sym (shape_at w k d e)) (sym (shape-sent w m b f))
          ∙ step-named (shape w) (F.take k m) (ap₂ ◌&&◌ (shape-there w k d e) (sent b f))

  elect-follows : (k : ℕ) → shape (step w (elect k)) ≡ step_f (shape w) (call_of w (elect k))
  unfolding step names number_f done
  elect-follows k = go (replica_at w k) refl
    where
      go : (x : Option Replica) → replica_at w k ≡ x → shape (on_some x w (λ d. put w k (elected d))) ≡ step_f (shape w) (on_some x F.idle (λ _. F.elect k))
      go None e = step-idle (shape w)
      go (Some d) e =
          put-shape w k d e (elected d) true (elected_of d.held d.words) (elect-moves n ws k d (s.each k d e)).desk
          ∙ ap (λ (x : F.Desk). pick true (F.put (shape w) k (with_folded_elect (rule_behind x.kept) x.now)) (shape w)) (sym (shape_at w k d e))
          ∙ step-named (shape w) (F.elect k) (shape-there w k d e)

  fold-follows : (k : ℕ) → shape (step w (fold k)) ≡ step_f (shape w) (call_of w (fold k))
  unfolding step names number_f done
  fold-follows k = go (replica_at w k) refl
    where
      go : (x : Option Replica) → replica_at w k ≡ x → shape (on_some x w (λ d. put w k (folded d))) ≡ step_f (shape w) (on_some x F.idle (λ _. F.fold k))
      go None e = step-idle (shape w)
      go (Some d) e =
          put-shape w k d e (folded d) true (with_fold n k (folded_by d.held d.words)) (fold-moves n ws k d (s.each k d e)).desk
          ∙ ap₂ (λ (c : ℕ) (x : F.Desk). pick true (F.put (shape w) k (with_fold c k x.now)) (shape w)) (sym (shape-length n ws w s)) (sym (shape_at w k d e))
          ∙ step-named (shape w) (F.fold k) (shape-there w k d e)

  pub follows : (c : Call) → shape (step w c) ≡ step_f (shape w) (call_of w c)
  follows (issue k line code) = issue-follows k line code
  follows (send k out) = send-follows k out
  follows (take k m) = take-follows k m
  follows (elect k) = elect-follows k
  follows (fold k) = fold-follows k

  -- every call keeps the records sound and the messages readable
  pub keeps : (c : Call) → SoundWorld n ws (step w c)
  unfolding step
  keeps (issue k line code) = go (replica_at w k) refl
    where
      go : (x : Option Replica) → replica_at w k ≡ x → SoundWorld n ws (on_some x w (λ d. put w k (issued d line code)))
      go None e = s
      go (Some d) e = put-sound n ws w k (issued d line code) s (issue-moves n ws k d (s.each k d e) line code).sound
  keeps (send k out) = go (replica_at w k) refl
    where
      go : (x : Option Replica) → replica_at w k ≡ x → SoundWorld n ws (on_some x w (λ d. pick (send_done d out) (post w (posted d out)) w))
      go None e = s
      go (Some d) e =
          pick-cases (SoundWorld n ws) (send_done d out) (post w (posted d out)) w
          (λ q. post-sound n ws w (posted d out) s (send-readable n ws k d (s.each k d e) out (eqb-true (send_of d.held d.words out).number 0 q)))
          (λ _. s)
  keeps (take k m) = go (replica_at w k) refl (message_at w m) refl
    where
      go : (x : Option Replica) → replica_at w k ≡ x → (y : Option Posted) → message_at w m ≡ y → SoundWorld n ws (on_some x w (λ d. on_some y w (λ b. put w k (taken d b.bytes))))
      go None e y f = s
      go (Some d) e None f = s
      go (Some d) e (Some b) f = put-sound n ws w k (taken d b.bytes) s (take-moves n ws k d (s.each k d e) b.bytes (s.readable m b f)).sound
  keeps (elect k) = go (replica_at w k) refl
    where
      go : (x : Option Replica) → replica_at w k ≡ x → SoundWorld n ws (on_some x w (λ d. put w k (elected d)))
      go None e = s
      go (Some d) e = put-sound n ws w k (elected d) s (elect-moves n ws k d (s.each k d e)).sound
  keeps (fold k) = go (replica_at w k) refl
    where
      go : (x : Option Replica) → replica_at w k ≡ x → SoundWorld n ws (on_some x w (λ d. put w k (folded d)))
      go None e = s
      go (Some d) e = put-sound n ws w k (folded d) s (fold-moves n ws k d (s.each k d e)).sound

-- ── every list of calls ──
module _ (n : ℕ) (ws : List ℕ) (start : World) (f : Founded n ws start) where
  -- the world as a machine of the protocol
  abbrev pub folder : Folder ws n
  folder = record {
    W = World;
    C = Call;
    start = start;
    move = step;
    number = number;
    shape = shape;
    call = call_of;
    Sound = SoundWorld n ws;
    sound-start = sound-start n ws start f;
    sound-move = λ w c s. keeps n ws w s c;
    starts = starts n ws start f;
    moves = λ w c s. follows n ws w s c;
    tens = λ w c s h. sym (numbers n ws w s c) ∙ h;
    issues = λ w c k line code s e h. numbers n ws w s c ∙ ap (number_f (shape w)) e ∙ h;
  }

  runs_after : (w : World) (cs : List Call) → runs (wholly folder) w cs ≡ after w cs
  unfolding after
  runs_after w [] = refl
  runs_after w (c ∷ cs) = runs_after (step w c) cs

  pub after_is : (cs : List Call) → reached (wholly folder) cs ≡ after start cs
  after_is cs = runs_after start cs

  -- the world is sound, and shaped like one that the protocol's calls reach
  pub both-after : (cs : List Call) → Both ws n f.any folder (after start cs)
  both-after cs = subst (Both ws n f.any folder) (after_is cs) (both_at ws n f.any folder cs)

-- on whole logs it is viewed as one that document 01's calls have reached
pub viewed : (n : ℕ) (ws : List ℕ) (start : World) → Founded n ws start → (cs : List Call)
    → (SoundWorld n ws (after start cs)) × ((g : List P.Call) × (view (after start cs) ≡ H.after (by_settled ws) n g))
viewed n ws start f cs = let b = both-after n ws start f cs in (b.here, (b.there.history, b.there.reached))
