-- Loops that walk a list: the invariant says that what is left of it answers as the whole list does.
--     rest-step                        the rest at i is the element at i and the rest at i + 1
--     rest_part, take-from             the part of a list from a place on, and up to another
--     all-next, all-stop, all_done     of `all_b`, up to the first element that fails: one passes, one fails, the list is at its end
--     with-next, with-done             of `all_b`, testing every element: one more, the list is at its end
-- Assumes nothing.
use mathlib.Core.Path.{◌≡◌, refl, sym, ap, ◌∙◌}
use mathlib.Core.Bool.{Bool, true, false, ◌&&◌}
use mathlib.Core.List.{List, [], ◌∷◌}
use Prim.Native.Nat.{ℕ, zero, suc, ◌+◌, ◌-◌, ◌<◌, ◌≤◌}
use native.Mathlib.Numerals.{add-one, unary_clauses}
use lib.ListN.{length, get_or, take, drop, drop_of_length-le, length-drop}
use lib.Seq.{drop-cons, take_all}
use native.Mathlib.Omega.{arith}
use Rattle.lists.specs.Tests.{all_b, both}

pub rest-step : {A : Type 0} (d : A) (xs : List A) (i : ℕ) → i < length xs → drop i xs ≡ get_or xs i d ∷ drop (i + 1) xs
rest-step d xs i h = rw (add-one, drop-cons xs i d)

-- the part `&xs[a..]` of a list of n elements is the rest at a
pub rest_part : {A : Type 0} (n a : ℕ) (xs : List A) → length xs ≡ n → take (n - a) (drop a xs) ≡ drop a xs
rest_part n a xs h = take_all (n - a) (drop a xs) (simp length-drop (omega arith))

-- the part `&xs[from..k]`
pub take-from : (from k : ℕ) (l : List ℕ) → take (k - from) (drop from l) ≡ drop from (take k l)
take-from zero k l = simp unary_clauses
take-from (suc from) zero l = ap (λ (j : ℕ). take j (drop (suc from) l)) none
  where
    none : 0 - suc from ≡ 0
    none = omega arith
take-from (suc from) (suc k) [] = nothing (suc k - suc from)
  where
    nothing : (j : ℕ) → take {A = ℕ} j [] ≡ []
    nothing zero = refl
    nothing (suc j) = refl
take-from (suc from) (suc k) (x ∷ l) = simp unary_clauses (take-from from k l)

-- a walk of `all_b t`: the invariant is that the rest gives the answer b
abbrev pub AllRest : {A : Type 0} → Bool → (A → Bool) → List A → ℕ → Type 0
AllRest b t xs i = b ≡ all_b t (drop i xs)

module _ {A : Type 0} {b : Bool} (t : A → Bool) (d : A) (xs : List A) (i : ℕ) (inv : AllRest b t xs i) where
  pub all-next : i < length xs → t (get_or xs i d) ≡ true → AllRest b t xs (i + 1)
  unfolding all_b both
  all-next h e = inv ∙ rw (rest-step d xs i h, e)

  pub all-stop : i < length xs → t (get_or xs i d) ≡ false → false ≡ b
  unfolding all_b both
  all-stop h e = sym (inv ∙ rw (rest-step d xs i h, e))

  pub all_done : length xs ≤ i → true ≡ b
  unfolding all_b both
  all_done h = sym (inv ∙ rw (drop_of_length-le xs h))

-- the code's conjunction
pub and_both : (a b : Bool) → (a && b) ≡ both a b
unfolding both
and_both true b = refl
and_both false b = refl

both-again : (a b c : Bool) → both a (both b c) ≡ both (a && b) c
unfolding both
both-again true b c = refl
both-again false b c = refl

-- a walk of `all_b t` that makes every test: what was found so far and the rest give the answer b
abbrev pub AllWith : {A : Type 0} → Bool → (A → Bool) → List A → Bool → ℕ → Type 0
AllWith b t xs good i = b ≡ both good (all_b t (drop i xs))

module _ {A : Type 0} {b : Bool} (t : A → Bool) (d : A) (xs : List A) (good : Bool) (i : ℕ) (inv : AllWith b t xs good i) where
  pub with-next : i < length xs → (g : Bool) → g ≡ t (get_or xs i d) → AllWith b t xs (good && g) (i + 1)
  unfolding all_b
  with-next h g e = inv ∙ rw (rest-step d xs i h, sym e) (both-again good g (all_b t (drop (i + 1) xs)))

  pub with-done : length xs ≤ i → good ≡ b
  unfolding all_b both
  with-done h = sym (inv ∙ rw (drop_of_length-le xs h) (both_end good))
    where
      both_end : (a : Bool) → both a true ≡ a
      both_end true = refl
      both_end false = refl
