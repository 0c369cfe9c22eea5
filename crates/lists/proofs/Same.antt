-- The test whether two lists of numbers are the same: what it says, and that `==` of two arrays is it. Assumes nothing.
use mathlib.Core.Path.{◌≡◌, refl, sym, ap, ap₂, ◌∙◌}
use mathlib.Core.Bool.{true, false, not, true≢false}
use mathlib.Core.List.{List, [], ◌∷◌}
use Prim.Native.Nat.{ℕ}
use lib.Dec.{eqb}
use borrow.Author.Tests.{eqb-true, eq-eqb, not-true, not-false}
use Rattle.std.specs.Cmp.Lexicographic.{pointwise}
use Rattle.lists.specs.Tests.{both, same}
use Rattle.lists.proofs.Tests.{both-0, both-1, both_true}
use Rattle.lists.proofs.Walk.{and_both}

pub same_true : (ws vs : List ℕ) → same ws vs ≡ true → ws ≡ vs
unfolding same
same_true [] [] e = refl
same_true [] (v ∷ vs) e = absurd (true≢false (sym e))
same_true (w ∷ ws) [] e = absurd (true≢false (sym e))
same_true (w ∷ ws) (v ∷ vs) e = ap₂ (λ (x : ℕ) (l : List ℕ). x ∷ l) (eqb-true w v (both-0 _ _ e)) (same_true ws vs (both-1 _ _ e))

pub same_refl : (ws : List ℕ) → same ws ws ≡ true
unfolding same
same_refl [] = refl
same_refl (w ∷ ws) = both_true _ _ (eq-eqb w w refl) (same_refl ws)

-- what `==` of two arrays answers
pub same_is : (ws vs : List ℕ) → pointwise eqb ws vs ≡ same ws vs
unfolding same
same_is [] [] = refl
same_is [] (v ∷ vs) = refl
same_is (w ∷ ws) [] = refl
same_is (w ∷ ws) (v ∷ vs) = and_both (eqb w v) (pointwise eqb ws vs) ∙ ap (both (eqb w v)) (same_is ws vs)

-- the same of `!=`
pub same_not : (ws vs : List ℕ) → not (pointwise eqb ws vs) ≡ true → same ws vs ≡ false
same_not ws vs e = sym (same_is ws vs) ∙ not-true (pointwise eqb ws vs) e

pub same_still : (ws vs : List ℕ) → not (pointwise eqb ws vs) ≡ false → same ws vs ≡ true
same_still ws vs e = sym (same_is ws vs) ∙ not-false (pointwise eqb ws vs) e
