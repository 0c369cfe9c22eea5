-- When a record could follow another: the test as facts by name, and back.
--     followed        what a test that passed says
--     follows-true, follows-not, follows-other, follows-last     the test by the facts
-- Assumes nothing.
use mathlib.Core.Path.{◌≡◌, refl, sym, ap, ◌∙◌}
use mathlib.Core.Bool.{Bool, true, false, true≢false}
use Prim.Native.Nat.{◌≤◌}
use borrow.Author.Tests.{eqb-true, eq-eqb, leb-true, le-leb}
use Rattle.lists.specs.Tests.{same}
use Rattle.lists.proofs.Tests.{both-0, both-1, both_true}
use Rattle.lists.proofs.Same.{same_true, same_refl}
use Rattle.ballots.specs.Ballots.{ballots_fine}
use Rattle.frame.specs.State.{held_length}
use Rattle.frame.specs.declared.Record.{Record}
use Rattle.outcome.specs.Outcome.{follows}

pub record Follows (before after : Record) : Type 0 where
  pub offices : before.n ≡ after.n
  pub own : before.own ≡ after.own
  pub weights : before.weights ≡ after.weights
  pub longer : before.settled ≤ after.settled
  pub was_settled : after.kept.dropped ≤ before.settled
  pub within : before.kept.dropped ≤ before.settled
  pub most : held_length before ≤ 1024
  pub fine : ballots_fine before.n (held_length before) before.ballots ≡ true

module _ (before after : Record) where
  pub followed : follows before after ≡ true → Follows before after
  unfolding follows
  followed t =
      let t1 = both-1 _ _ t in
      let t2 = both-1 _ _ t1 in
      let t3 = both-1 _ _ t2 in
      let t4 = both-1 _ _ t3 in
      let t5 = both-1 _ _ t4 in
      let t6 = both-1 _ _ t5 in
      record {
        offices = eqb-true _ _ (both-0 _ _ t);
        own = eqb-true _ _ (both-0 _ _ t1);
        weights = same_true _ _ (both-0 _ _ t2);
        longer = leb-true _ _ (both-0 _ _ t3);
        was_settled = leb-true _ _ (both-0 _ _ t4);
        within = leb-true _ _ (both-0 _ _ t5);
        most = leb-true _ _ (both-0 _ _ t6);
        fine = both-1 _ _ t6;
      }

  pub follows-true : Follows before after → follows before after ≡ true
  unfolding follows
  follows-true F =
      both_true _ _ (eq-eqb before.n after.n F.offices)
      (both_true _ _ (eq-eqb before.own after.own F.own)
      (both_true _ _ (ap (same before.weights) (sym F.weights) ∙ same_refl before.weights)
      (both_true _ _ (le-leb before.settled after.settled F.longer)
      (both_true _ _ (le-leb after.kept.dropped before.settled F.was_settled)
      (both_true _ _ (le-leb before.kept.dropped before.settled F.within)
      (both_true _ _ (le-leb (held_length before) 1024 F.most) F.fine))))))

  pub follows-not : (Follows before after → ⊥) → false ≡ follows before after
  follows-not n = go (follows before after) refl
    where
      go : (t : Bool) → follows before after ≡ t → false ≡ t
      go true q = absurd (n (followed q))
      go false q = refl

  pub follows-other : same before.weights after.weights ≡ false → false ≡ follows before after
  follows-other q = follows-not (λ F. true≢false (sym (ap (same before.weights) (sym F.weights) ∙ same_refl before.weights) ∙ q))

  -- where the facts hold but for the last, it decides
  pub follows-last : (t : Bool) → t ≡ ballots_fine before.n (held_length before) before.ballots
      → before.n ≡ after.n → before.own ≡ after.own → before.weights ≡ after.weights → before.settled ≤ after.settled
      → after.kept.dropped ≤ before.settled → before.kept.dropped ≤ before.settled → held_length before ≤ 1024 → t ≡ follows before after
  follows-last t q p1 p2 p3 p4 p5 p6 p7 = go t q
    where
      go : (t : Bool) → t ≡ ballots_fine before.n (held_length before) before.ballots → t ≡ follows before after
      go true q = sym (follows-true (record { offices = p1; own = p2; weights = p3; longer = p4; was_settled = p5; within = p6; most = p7; fine = sym q }))
      go false q = follows-not (λ F. absurd (true≢false (sym F.fine ∙ sym q)))
