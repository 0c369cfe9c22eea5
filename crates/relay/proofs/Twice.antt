-- Request (vi) at one office, whatever its sound record: the protocol's laws (`one_order/proofs/FoldedLaws`) carried to records, words and bytes. What
-- a replica holds after an accepted take is what the protocol's take makes of it; taken again, the message leaves that office as it is, and so all
-- of the replica. Assumes nothing.
use mathlib.Core.Path.{◌≡◌, refl, sym, ap, ap₂, subst, ◌∙◌}
use mathlib.Core.Bool.{Bool, true, false}
use mathlib.Core.List.{List, ◌++◌, append_assoc}
use Prim.Native.Nat.{ℕ, ◌+◌, ◌-◌}
use native.Mathlib.Nat.{add-sub_cancel_left}
use lib.Dec.{eqb}
use lib.ListN as L
use lib.ListN.{drop, take-append-drop}
use borrow.Author.Tests.{eqb-true, eqb-false}
use Rattle.lists.proofs.Tests.{both-0, both-1}
use Rattle.lists.proofs.Same.{same_true}
use Rattle.protocol.specs.Office.{Office, Message, path}
use Rattle.protocol.specs.SettledRule.{rule_from}
use Rattle.protocol.specs.Elect.{elect_count}
use Rattle.protocol.specs.Take.{with_take}
use Rattle.protocol.specs.Folding.{FoldedOffice, Packet, shorn, caught_up, from_there, with_folded_elect, with_folded_take, refuse_folded_take}
use Rattle.protocol_laws.proofs.Office.{OfficeMoves, take-moves, moves-refl}
use Rattle.protocol.proofs.FoldedWorld as F
use Rattle.one_order.proofs.FoldedLaws.{folded-take-twice, folded-elect-twice}
use Rattle.protocol_laws.proofs.Whole.{whole_in, take_whole}
use Rattle.kept.specs.declared.Kept.{Kept}
use Rattle.frame.specs.declared.Record.{Record}
use Rattle.frame.specs.State.{folded_by}
use Rattle.frame.specs.Soundness.{sound_b}
use Rattle.taking.specs.Taking.{same_offices, take_of, take_words}
use Rattle.frame.specs.Electing.{elected_of, elect_of, elect_words}
use Rattle.frame.proofs.Sound.{sound, sound-true}
use Rattle.frame.proofs.State.{kept-stays}
use Rattle.taking.proofs.Takes.{Accepted, accepted}
use Rattle.taking.proofs.Accept.{take-keeps}
use Rattle.frame.proofs.Elect.{elect-done}
use Rattle.agreement.specs.World.{Replica, taken, elected}
use Rattle.agreement.specs.Demand.{says}
use Rattle.agreement.proofs.View.{means, desk_of, SoundReplica, Readable}
use Rattle.agreement.proofs.Held.{Leaves, left-still, left-desk, left-sound, left-same}
use Rattle.agreement.proofs.Taken.{take-number, take-leaves}
use Rattle.agreement.proofs.Elected.{elect-number, elect-leaves}
use Rattle.relay.specs.Relay.{Accepts, TakeTwice, ElectTwice, NeverUnsettles}

-- ── an accepted message, at a replica of n offices with the weights ws, office k's ──
module _ (n : ℕ) (ws : List ℕ) (k : ℕ) (d : Replica) (m : SoundReplica n ws k d) (s : List ℕ) (x : Readable n ws s) (a : Accepts d s) where
  abbrev once : FoldedOffice
  once = with_folded_take k (means s) (folded_by d.held d.words)

  pub accepted-is : refuse_folded_take k (means s) (folded_by d.held d.words) ≡ 0
  accepted-is = sym (take-number n ws k d m s x) ∙ a

  left : Leaves d once (take_of d.held d.words s).«record» (take_words d.held d.words s)
  left = take-leaves n ws k d m s x accepted-is

  pub taken-holds : folded_by (taken d s).held (taken d s).words ≡ once
  taken-holds = left.state

  pub taken-desk : desk_of (taken d s) ≡ F.leaving (desk_of d) once
  taken-desk = left-desk n ws k d m once (take_of d.held d.words s).«record» (take_words d.held d.words s) left

  pub taken-sound : SoundReplica n ws k (taken d s)
  taken-sound = left-sound n ws k d m once (take_of d.held d.words s).«record» (take_words d.held d.words s) left

  -- a message that leaves the office as it was
  pub taken-same : once ≡ folded_by d.held d.words → taken d s ≡ d
  taken-same = left-same n ws k d m once (take_of d.held d.words s).«record» (take_words d.held d.words s) left

-- any sound record is such a one, and any message that it accepts is readable so
sound-replica : (d : Replica) → sound_b d.held d.words ≡ true → SoundReplica d.held.n d.held.weights d.held.own d
sound-replica d h = record { count = refl; own = refl; weights = refl; sound = sound d.held d.words h }

module _ (d : Replica) (s : List ℕ) (a : Accepts d s) where
  found : Accepted d.held d.words s
  unfolding take_of
  found = accepted d.held d.words s a

  mine : SoundReplica d.held.n d.held.weights d.held.own d
  mine = sound-replica d (sound-true d.held d.words found.sounds)

  readable : Readable d.held.n d.held.weights s
  unfolding same_offices
  readable = record {
    content = found.content;
    reads = found.reads;
    count = eqb-true _ _ (both-0 _ _ found.offices);
    weights = same_true _ _ (both-1 _ _ found.offices);
  }

  pub take_twice : TakeTwice d s
  take_twice =
      let n = d.held.n in
      let ws = d.held.weights in
      let k = d.held.own in
      let e : Replica = taken d s in
      let next : SoundReplica n ws k e = taken-sound n ws k d mine s readable a in
      let now = taken-holds n ws k d mine s readable a in
      let p = folded-take-twice k (means s) (folded_by d.held d.words) (accepted-is n ws k d mine s readable a) in
      let again : Accepts e s = take-number n ws k e next s readable ∙ ap (refuse_folded_take k (means s)) now ∙ p.0 in
      record {
        accepted = again;
        same = taken-same n ws k e next s readable again (ap (with_folded_take k (means s)) now ∙ p.1 ∙ sym now);
      }

-- ── elect ──
-- it drops nothing
nothing-drops : (d : Replica) → (elected_of d.held d.words).dropped ≡ d.held.kept.dropped
unfolding with_folded_elect
nothing-drops d = refl

pub elect-twice : (d : Replica) → sound_b d.held d.words ≡ true → ElectTwice d
elect-twice d h =
    let n = d.held.n in
    let ws = d.held.weights in
    let k = d.held.own in
    let mine : SoundReplica n ws k d = sound-replica d h in
    let f : FoldedOffice = elected_of d.held d.words in
    let left = elect-leaves n ws k d mine in
    let e : Replica = elected d in
    let next : SoundReplica n ws k e = left-sound n ws k d mine f (elect_of d.held d.words).«record» (elect_words d.held d.words) left in
    let kept : e.held.kept ≡ d.held.kept = ap (λ (r : Record). r.kept) left.made ∙ kept-stays d.held d.words mine.sound f (nothing-drops d) in
    let p = folded-elect-twice d.held.kept.summary.present d.held.kept.counts (folded_by d.held d.words) in
    let again : elected_of e.held e.words ≡ folded_by e.held e.words =
    ap₂ (λ (x : Kept) (g : FoldedOffice). with_folded_elect (rule_from x.summary.present x.counts) g) kept left.state ∙ p.1 ∙ sym left.state in
    record {
      done = elect-number n ws k e next;
      count = (elect-done e.held e.words (elect-number n ws k e next)).counted
          ∙ ap₂ (λ (x : Kept) (g : FoldedOffice). elect_count (rule_from x.summary.present x.counts) g.held) kept left.state ∙ p.0;
      same = left-same n ws k e next (elected_of e.held e.words) (elect_of e.held e.words).«record» (elect_words e.held e.words) (elect-leaves n ws k e next) again;
    }

-- ── a take never unsettles, whatever the record and the bytes ──
-- the first entries of a log go behind p, and the state is the same as a whole
shorn-whole : (p : List ℕ) (c : ℕ) (o : Office) → F.whole (p ++ L.take c o.log) (shorn c o) ≡ F.whole p o
shorn-whole p c o =
    ap (λ (l : List ℕ). record { log = l; tails = o.tails })
    (append_assoc p (L.take c o.log) (drop c o.log) ∙ ap (λ (l : List ℕ). p ++ l) (take-append-drop c o.log))

-- on whole logs: what goes stands before both
desk-moves : (k : ℕ) (m : Packet) (x : F.Desk) (j : ℕ) → OfficeMoves j (F.whole_desk x) (F.whole_desk (F.leaving x (with_folded_take k m x.now)))
unfolding with_folded_take
desk-moves k m x j =
    let c : ℕ = m.dropped - x.now.dropped in
    let p : List ℕ = x.former ++ L.take c x.now.held.log in
    let i : Message = from_there m x.now in
    let o : Office = caught_up m x.now in
    let went : x.former ++ L.take (x.now.dropped + c - x.now.dropped) x.now.held.log ≡ p =
    ap (λ (y : ℕ). x.former ++ L.take y x.now.held.log) (add-sub_cancel_left x.now.dropped c) in
    let after : with_take k (whole_in p i) (F.whole p o) ≡ F.whole (x.former ++ L.take (x.now.dropped + c - x.now.dropped) x.now.held.log) (with_take k i o) =
    take_whole p k i o ∙ ap (λ (q : List ℕ). F.whole q (with_take k i o)) (sym went) in
    subst (λ (y : Office). OfficeMoves j y (F.whole (x.former ++ L.take (x.now.dropped + c - x.now.dropped) x.now.held.log) (with_take k i o))) (shorn-whole x.former c x.now.held)
    (subst (OfficeMoves j (F.whole p o)) after (take-moves k (whole_in p i) (F.whole p o) j))

refused-still : (d : Replica) (s : List ℕ) → ((take_of d.held d.words s).number ≡ 0 → ⊥) → taken d s ≡ d
refused-still d s h = let q = take-keeps d.held d.words s h in left-still d (take_of d.held d.words s).«record» (take_words d.held d.words s) q.0 q.1

steady : (d d' : Replica) → ((j : ℕ) → OfficeMoves j (says d) (says d')) → NeverUnsettles d d'
steady d d' f = record { log = (f 0).0; paths = λ j. (f j).1 }

pub never-unsettles : (d : Replica) (s : List ℕ) → NeverUnsettles d (taken d s)
never-unsettles d s = steady d (taken d s) (go (eqb (take_of d.held d.words s).number 0) refl)
  where
    go : (b : Bool) → eqb (take_of d.held d.words s).number 0 ≡ b → (j : ℕ) → OfficeMoves j (says d) (says (taken d s))
    go true e j =
        let a : Accepts d s = eqb-true (take_of d.held d.words s).number 0 e in
        let k = d.held.own in
        subst (λ (x : F.Desk). OfficeMoves j (says d) (F.whole_desk x)) (sym (taken-desk d.held.n d.held.weights k d (mine d s a) s (readable d s a) a))
        (desk-moves k (means s) (desk_of d) j)
    go false e j =
        subst (λ (x : Replica). OfficeMoves j (says d) (says x)) (sym (refused-still d s (eqb-false (take_of d.held d.words s).number 0 e)))
        (moves-refl (says d).log (path (says d) j))
