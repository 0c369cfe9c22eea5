-- A chain over the pairs of two lists that goes on as long as the two are alike.
--     common-taken     what it takes is as long as the common beginning
--     common-few       that is no longer than the first list
--     alike_is         so a length that it tells is that of the common beginning
-- Assumes nothing.
use mathlib.Core.Path.{◌≡◌, refl, sym, ap, ◌∙◌}
use mathlib.Core.Bool.{Bool, true, false}
use mathlib.Core.List.{List, [], ◌∷◌}
use Prim.Native.Nat.{ℕ, suc, ◌≤◌, zero-le, suc-le-suc}
use native.Mathlib.Omega.{arith}
use lib.Dec.{eqb}
use lib.ListN.{length}
use Rattle.std.specs.Prelude.{◌==◌, take_while}
use Rattle.std.specs.List.{zip}
use Rattle.std.proofs.lemmas.List.Sums.{take_while-cons}
use Rattle.lists.proofs.Tests.{if-cases}
use Rattle.own_entries.specs.Parts.{common}

pub common-taken : (a b : List ℕ) → length (common a b) ≡ length (take_while (λ (p : ℕ × ℕ). p.0 == p.1) (zip a b))
unfolding common
common-taken [] b = refl
common-taken (x ∷ a) [] = refl
common-taken (x ∷ a) (y ∷ b) = step (eqb x y) refl (common-taken a b)
  where
    step : (t : Bool) → eqb x y ≡ t → length (common a b) ≡ length (take_while (λ (p : ℕ × ℕ). p.0 == p.1) (zip a b))
        → length (common (x ∷ a) (y ∷ b)) ≡ length (take_while (λ (p : ℕ × ℕ). p.0 == p.1) (zip (x ∷ a) (y ∷ b)))
    step true e h = rw (take_while-cons, e) (ap suc h)
    step false e h = rw (take_while-cons, e)

pub common-few : (a b : List ℕ) → length (common a b) ≤ length a
unfolding common
common-few [] b = zero-le
common-few (x ∷ a) [] = zero-le
common-few (x ∷ a) (y ∷ b) = if-cases (λ r. length r ≤ suc (length a)) (eqb x y) (x ∷ common a b) [] (λ _. suc-le-suc (common-few a b)) (λ _. zero-le)

pub alike_is : (a b : List ℕ) (n : ℕ) → n ≡ length (take_while (λ (p : ℕ × ℕ). p.0 == p.1) (zip a b)) → (n ≡ length (common a b)) × (n ≤ length a)
alike_is a b n h = let same = h ∙ sym (common-taken a b) in (same, omega (arith, same, common-few a b))
