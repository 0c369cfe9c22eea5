-- What chains of iterators give, in this repository's words. Assumes nothing.
use mathlib.Core.Path.{◌≡◌, refl, sym, ap, ap₂, ◌∙◌}
use mathlib.Core.Bool.{Bool, ◌&&◌}
use mathlib.Core.List.{List, [], ◌∷◌}
use Prim.Native.Nat.{ℕ}
use lib.Dec.{eqb}
use borrow.Author.Tests.{eqb-true, eq-eqb}
use Rattle.std.specs.List.{list_all}
use Rattle.lists.specs.Tests.{all_b, both}
use Rattle.lists.proofs.Tests.{alike}
use Rattle.lists.proofs.Walk.{and_both}

pub list_all_is : {A : Type 0} (t : A → Bool) (xs : List A) → list_all t xs ≡ all_b t xs
unfolding all_b
list_all_is t [] = refl
list_all_is t (x ∷ xs) = and_both (t x) (list_all t xs) ∙ ap (both (t x)) (list_all_is t xs)

-- what `all` answers
pub all_is : {A : Type 0} {r : Bool} (t : A → Bool) (xs : List A) → r ≡ list_all t xs → r ≡ all_b t xs
all_is t xs e = e ∙ list_all_is t xs

eqb-comm : (x y : ℕ) → eqb x y ≡ eqb y x
eqb-comm x y = alike (eqb x y) (eqb y x) (λ e. eq-eqb y x (sym (eqb-true x y e))) (λ e. eq-eqb x y (sym (eqb-true y x e)))

zero_or : (xs : List ℕ) → list_all (λ x. eqb x 0) xs ≡ list_all (eqb 0) xs
zero_or [] = refl
zero_or (x ∷ xs) = ap₂ (◌&&◌) (eqb-comm x 0) (zero_or xs)

-- what `all(|x| *x == 0)` answers
pub zeros_are : {r : Bool} (xs : List ℕ) → r ≡ list_all (λ x. eqb x 0) xs → r ≡ all_b (eqb 0) xs
zeros_are xs e = e ∙ zero_or xs ∙ list_all_is (eqb 0) xs
