-- Request (vi) in the world of document 01: the world on records is shaped like the protocol's, where two sent messages that are accepted in both
-- orders may be swapped (`one_order/proofs/FoldedLaws`), and a sound record is known by what it keeps and holds. Behind another message the world is
-- one of the list still, so a message is refused there as anywhere in it. Assumes nothing.
use mathlib.Core.Path.{◌≡◌, refl, sym, ap, ap₂, subst, ◌∙◌}
use mathlib.Core.List.{List, [], ◌∷◌, ◌++◌, map}
use mathlib.Core.Logic.{◌⊎◌}
use Rattle.std.specs.Prelude.{Option, Some}
use Prim.Native.Nat.{ℕ, zero, suc, ◌+◌, ◌<◌}
use native.Mathlib.Omega.{arith}
use lib.ListN.{length, get_or, set}
use Rattle.std.specs.Prelude.{slice_get}
use Rattle.lists.proofs.Tests.{map-set}
use Rattle.protocol.specs.Office.{tail}
use Rattle.protocol.specs.Folding.{refuse_folded_take}
use Rattle.protocol_laws.proofs.Folding.{take_found}
use Rattle.protocol.proofs.FoldedWorld as F
use Rattle.one_order.proofs.FoldedSound as S
use Rattle.one_order.proofs.FoldedLaws.{takes_at, takes_both, FoldedEitherOrder, AcceptedBoth, folded-either-order}
use Rattle.ballots.specs.Ballots.{ballot_of, no_ballot}
use Rattle.ballots.specs.declared.Ballot.{Ballot}
use Rattle.kept.specs.declared.Kept.{Kept}
use Rattle.summary.specs.Summary.{summary_after}
use Rattle.frame.specs.declared.Record.{Record}
use Rattle.frame.specs.State.{held_by, folded_by}
use Rattle.taking.specs.Taking.{take_of}
use Rattle.frame.proofs.State.{held, whole_length}
use Rattle.agreement.specs.World.{Replica, Posted, World, Call, take, replica_at, message_at, on_some, number, taken, put, step, after}
use Rattle.agreement.specs.Demand.{Founded}
use Rattle.agreement.proofs.Places.{there}
use Rattle.agreement.proofs.View.{desk_of, sent_of, shape, SoundReplica, SoundWorld, Readable, means-sender, shape-sent, shape_at}
use Rattle.agreement.proofs.Held.{replica-fine}
use Rattle.agreement.proofs.Taken.{take-number}
use Rattle.agreement.proofs.Follows.{both-after}
use Rattle.agreement.proofs.Calls.{always}
use Rattle.relay.specs.Relay.{Accepts, SameButOwn, Swapped, EitherOrder}
use Rattle.relay.proofs.Twice.{accepted-is, taken-holds, taken-desk, taken-sound}

-- ── two offices that differ in one tail at most ──
all_same : (ts us : List (List ℕ)) → length ts ≡ length us → ((j : ℕ) → get_or ts j [] ≡ get_or us j []) → ts ≡ us
all_same [] [] e f = refl
all_same [] (u ∷ us) e f = absurd (omega arith)
all_same (t ∷ ts) [] e f = absurd (omega arith)
all_same (t ∷ ts) (u ∷ us) e f = ap₂ (λ (x : List ℕ) (xs : List (List ℕ)). x ∷ xs) (f 0) (all_same ts us (omega arith) (λ j. f (suc j)))

-- they are the same with that tail set
others_same : (ts us : List (List ℕ)) (k : ℕ) (t : List ℕ) → length ts ≡ length us → ((j : ℕ) → (j ≡ k → ⊥) → get_or ts j [] ≡ get_or us j []) → set ts k t ≡ set us k t
others_same [] [] k t e f = refl
others_same [] (u ∷ us) k t e f = absurd (omega arith)
others_same (x ∷ ts) [] k t e f = absurd (omega arith)
others_same (x ∷ ts) (u ∷ us) zero t e f = ap (λ (l : List (List ℕ)). t ∷ l) (all_same ts us (omega arith) (λ j. f (suc j) (λ q. omega arith)))
others_same (x ∷ ts) (u ∷ us) (suc k) t e f =
    ap₂ (λ (y : List ℕ) (l : List (List ℕ)). y ∷ l) (f 0 (λ q. omega arith)) (others_same ts us k t (omega arith) (λ j d. f (suc j) (λ q. d (omega arith))))

-- two replicas of office k, of which the protocol's desks differ in the own tail at most
pub record SameDesks (k : ℕ) (x y : F.Desk) : Type 0 where
  pub dropped : x.now.dropped ≡ y.now.dropped
  pub noted : x.now.noted ≡ y.now.noted
  pub log : x.now.held.log ≡ y.now.held.log
  pub ballots : (j : ℕ) → (j ≡ k → ⊥) → tail x.now.held j ≡ tail y.now.held j
  pub former : x.former ≡ y.former
  pub kept : x.kept ≡ y.kept

module _ (n : ℕ) (ws : List ℕ) (k : ℕ) (d e : Replica) (x : SoundReplica n ws k d) (y : SoundReplica n ws k e) (s : SameDesks k (desk_of d) (desk_of e)) where
  abbrev log : Replica → List ℕ
  log r = (held_by r.held r.words).log

  abbrev tails : Replica → List (List ℕ)
  tails r = (held_by r.held r.words).tails

  kept_same : d.held.kept ≡ e.held.kept
  kept_same = λ i. record { dropped = s.dropped i; summary = record { present = (s.kept i).weights; codes = (s.kept i).codes }; counts = (s.kept i).counts }

  done-same : d.held.summary ≡ e.held.summary
  done-same = x.sound.done ∙ ap₂ (λ (q : Kept) (l : List ℕ). summary_after q.summary l) kept_same s.log ∙ sym y.sound.done

  settled_same : d.held.settled ≡ e.held.settled
  settled_same =
      sym (whole_length d.held d.words x.sound) ∙ ap₂ (λ (g : ℕ) (l : List ℕ). g + length l) s.dropped s.log
      ∙ whole_length e.held e.words y.sound

  -- a sound record's ballots are those of its tails
  ballots-of : (r : Replica) → SoundReplica n ws k r → map ballot_of (tails r) ≡ r.held.ballots
  ballots-of r z = ap (λ (q : Record). q.ballots) (held r.held r.words z.sound)

  cells : set d.held.ballots k no_ballot ≡ set e.held.ballots k no_ballot
  cells =
      let many : length (tails d) ≡ length (tails e) = (replica-fine n ws k d x).held.eight ∙ sym (replica-fine n ws k e y).held.eight in
      ap (λ (l : List Ballot). set l k no_ballot) (sym (ballots-of d x)) ∙ sym (map-set ballot_of (tails d) k [])
      ∙ ap (map ballot_of) (others_same (tails d) (tails e) k [] many s.ballots) ∙ map-set ballot_of (tails e) k [] ∙ ap (λ (l : List Ballot). set l k no_ballot) (ballots-of e y)

  same-but-own : SameButOwn k d e
  same-but-own = record {
    log = ap₂ ◌++◌ s.former s.log;
    ballots = s.ballots;
    records = λ i. record {
      n = (x.count ∙ sym y.count) i;
      own = (x.own ∙ sym y.own) i;
      weights = (x.weights ∙ sym y.weights) i;
      kept = kept_same i;
      noted = s.noted i;
      summary = done-same i;
      settled = settled_same i;
      ballots = cells i;
    };
    undropped = s.log;
  }

-- ── one office of the world and two messages ──
module _ (n : ℕ) (ws : List ℕ) (k : ℕ) (d : Replica) (m : SoundReplica n ws k d) (a b : Posted) (x : Readable n ws a.bytes) (y : Readable n ws b.bytes)
    (first : Accepts d a.bytes) (second : Accepts (taken d a.bytes) b.bytes) where
  abbrev e : Replica
  e = taken d a.bytes

  next : SoundReplica n ws k e
  next = taken-sound n ws k d m a.bytes x first

  both-sound : SoundReplica n ws k (taken e b.bytes)
  both-sound = taken-sound n ws k e next b.bytes y second

  both-desk : desk_of (taken e b.bytes) ≡ takes_both k (sent_of a) (sent_of b) (desk_of d)
  both-desk = taken-desk n ws k e next b.bytes y second ∙ ap (takes_at k (sent_of b)) (taken-desk n ws k d m a.bytes x first)

  both-accepted : AcceptedBoth k (sent_of a) (sent_of b) (desk_of d)
  both-accepted = (
    accepted-is n ws k d m a.bytes x first,
    ap (refuse_folded_take k (sent_of b).message) (sym (taken-holds n ws k d m a.bytes x first)) ∙ accepted-is n ws k e next b.bytes y second,
  )

-- ── after every list of calls ──
-- a call more
after_one : (w : World) (cs : List Call) (c : Call) → after w (cs ++ (c ∷ [])) ≡ step (after w cs) c
unfolding after
after_one w [] c = refl
after_one w (f ∷ cs) c = after_one (step w f) cs c

-- an element that was set
set_at : {A : Type 0} (l : List A) (i : ℕ) (x : A) → i < length l → slice_get (set l i x) i ≡ Some x
set_at [] i x h = absurd (omega arith)
set_at (y ∷ l) zero x h = refl
set_at (y ∷ l) (suc i) x h = set_at l i x (omega arith)

module _ (n : ℕ) (ws : List ℕ) (start : World) (f : Founded n ws start) (cs : List Call) where
  abbrev w : World
  w = after start cs

  s : SoundWorld n ws w
  s = (both-after n ws start f cs).here

  t : S.Sound ws n (shape w)
  t = (both-after n ws start f cs).there

  module _ (k i j : ℕ) (d : Replica) (a b : Posted) (here : replica_at w k ≡ Some d) (p : message_at w i ≡ Some a) (q : message_at w j ≡ Some b) where
    m : SoundReplica n ws k d
    m = s.each k d here

    x : Readable n ws a.bytes
    x = s.readable i a p

    y : Readable n ws b.bytes
    y = s.readable j b q

    below : k < n
    below = omega (arith, there w.replicas k d here, s.offices)

    -- the world behind the first message
    moved : after start (cs ++ (take k i ∷ [])) ≡ put w k (taken d a.bytes)
    unfolding step
    moved =
        after_one start cs (take k i)
        ∙ ap₂ (λ (x : Option Replica) (y : Option Posted). on_some x w (λ r. on_some y w (λ s. put w k (taken r s.bytes)))) here p

    behind : Accepts d b.bytes → (Accepts (taken d a.bytes) b.bytes) ⊎ ((take_of (taken d a.bytes).held (taken d a.bytes).words b.bytes).number ≡ 17)
    unfolding number
    behind h =
        let v : World = put w k (taken d a.bytes) in
        let other = (take_found k (sent_of b).message (folded_by d.held d.words) (sym (take-number n ws k d m b.bytes y) ∙ h)).other in
        let at : replica_at v k ≡ Some (taken d a.bytes) = set_at w.replicas k (taken d a.bytes) (there w.replicas k d here) in
        let numbers : number v (take k j) ≡ (take_of (taken d a.bytes).held (taken d a.bytes).words b.bytes).number =
        ap₂ (λ (x : Option Replica) (y : Option Posted). on_some x 0 (λ r. on_some y 0 (λ s. (take_of r.held r.words s.bytes).number))) at q in
        subst (λ (z : ℕ). (z ≡ 0) ⊎ (z ≡ 17)) numbers
        (subst (λ (u : World). (number u (take k j) ≡ 0) ⊎ (number u (take k j) ≡ 17)) moved
        ((always n ws start f (cs ++ (take k i ∷ []))).takes-other k j b (subst (λ (u : World). message_at u j ≡ Some b) (sym moved) q) (λ z. other (means-sender b.bytes ∙ z))))

    swapped : Swapped k d a.bytes b.bytes
    swapped = record {
      behind = behind;
      same = λ h hb g ga.
          let o : FoldedEitherOrder k (sent_of a) (sent_of b) (desk_of d) =
          subst (FoldedEitherOrder k (sent_of a) (sent_of b)) (shape_at w k d here)
          (folded-either-order ws n f.any (shape w) t k below i j (sent_of a) (sent_of b) (shape-sent w i a p) (shape-sent w j b q)
          (subst (AcceptedBoth k (sent_of a) (sent_of b)) (sym (shape_at w k d here)) (both-accepted n ws k d m a b x y h hb))
          (subst (AcceptedBoth k (sent_of b) (sent_of a)) (sym (shape_at w k d here)) (both-accepted n ws k d m b a y x g ga))) in
          let same : SameDesks k (takes_both k (sent_of a) (sent_of b) (desk_of d)) (takes_both k (sent_of b) (sent_of a) (desk_of d)) =
          record { dropped = o.dropped; noted = o.noted; log = o.log; ballots = o.ballots; former = o.former; kept = o.kept } in
          same-but-own n ws k (taken (taken d a.bytes) b.bytes) (taken (taken d b.bytes) a.bytes) (both-sound n ws k d m a b x y h hb) (both-sound n ws k d m b a y x g ga)
          (subst (λ (z : F.Desk). SameDesks k z (desk_of (taken (taken d b.bytes) a.bytes))) (sym (both-desk n ws k d m a b x y h hb))
          (subst (SameDesks k (takes_both k (sent_of a) (sent_of b) (desk_of d))) (sym (both-desk n ws k d m b a y x g ga)) same));
    }

pub either_order : (n : ℕ) (weights : List ℕ) (start : World) → Founded n weights start → (cs : List Call) → EitherOrder (after start cs)
either_order n ws start f cs k i j d a b here p q = swapped n ws start f cs k i j d a b here p q
