-- The tests of the definition, in its order; the logs come last.
use mathlib.Core.Bool.{Bool, true, false, not}
use mathlib.Core.List.{List, [], ◌∷◌}
use mathlib.Core.Path.{◌≡◌, refl, sym, ap, ◌∙◌}
use Prim.Native.Nat.{ℕ}
use lib.Dec.{eqb}
use lib.Pointwise.{pointwise}
use Rattle.std.specs.Prelude.{None, Some}
use Rattle.lists.specs.Tests.{both, pick, same}
use Rattle.lists.proofs.Walk.{and_both}
use Rattle.shared_places.specs.FromEnd.{compares}
use Rattle.refusals.specs.declared.Refusal.TheVariants.{NoMessage, OtherOffices, OwnMessage}
use Rattle.acceptance.proofs.Numbers.{Alike, answer-none, not-read, other-count, other-weights, own-message, by-logs}
use Rattle.acceptance.proofs.check.Goals.{After-ne, then-m-n-via-then-m-n, then-m-n-via-else-m-n+then-ne}
use Rattle.acceptance.proofs.check.Goals as goal

-- numbers that come to no comparison
early : (compares 7 ≡ false) × (compares 8 ≡ false) × (compares 9 ≡ false)
unfolding compares pick
early = (refl, refl, refl)

-- `==` on the weights is the definition's test
pointwise-same : (xs ys : List ℕ) → pointwise eqb xs ys ≡ same xs ys
unfolding same both
pointwise-same [] [] = refl
pointwise-same [] (y ∷ ys) = refl
pointwise-same (x ∷ xs) [] = refl
pointwise-same (x ∷ xs) (y ∷ ys) = and_both (eqb x y) (pointwise eqb xs ys) ∙ ap (both (eqb x y)) (pointwise-same xs ys)

tested : (xs ys : List ℕ) (b t : Bool) → b ≡ not (pointwise eqb xs ys) → b ≡ t → same xs ys ≡ not t
tested xs ys b t e q = sym (pointwise-same xs ys) ∙ sym (not-not (pointwise eqb xs ys)) ∙ ap not (sym e ∙ q)
  where
    not-not : (x : Bool) → not (not x) ≡ x
    not-not true = refl
    not-not false = refl

alike : (c : After-ne) → c.ne.result ≡ false → Alike c.args.n c.args.weights c.in-Some.m.now
alike c e = record { count = c.if-m-n.false; same-weights = tested _ _ _ false c.ne.ensures e }

pub returns-in_default : goal.returns-in_default
returns-in_default c = rw c.in_default.is (answer-none _ _ _ _ _ _ None _ NoMessage c.into.ensures early.0 (not-read _ _ _ _ _ _ None refl))

pub returns-then-m-n : goal.returns-then-m-n
returns-then-m-n c =
    rw c.in-Some.is (
    elim c.then-m-n.branch [
      | then-m-n-via-then-m-n w ↦ answer-none _ _ _ _ _ _ (Some c.in-Some.m.now) _ OtherOffices c.into-then-m-n.ensures early.1 (other-count _ _ _ _ _ _ _ w.if-m-n.true)
      | then-m-n-via-else-m-n+then-ne w ↦ answer-none _ _ _ _ _ _ (Some c.in-Some.m.now) _ OtherOffices c.into-then-m-n.ensures early.1 (other-weights _ _ _ _ _ _ _ w.if-m-n.false (tested _ _ _ true w.ne.ensures w.if-ne.true))
    ]
    )

pub returns-then-m-own : goal.returns-then-m-own
returns-then-m-own c =
    rw c.in-Some.is (
    answer-none _ _ _ _ _ _ (Some c.in-Some.m.now) _ OwnMessage c.into-then-m-own.ensures early.2
    (own-message _ _ _ _ _ _ _ (alike (goal.at.returns-then-m-own c).After-ne c.if-ne.false) c.if-m-own.true)
    )

pub returns : goal.returns
returns c = rw c.in-Some.is (by-logs _ _ _ _ _ _ _ (alike (goal.at.returns c).After-ne c.if-ne.false) c.if-m-own.false _ c.check.ensures)
