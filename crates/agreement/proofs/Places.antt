-- What stands at a place of a list, and of a list that is mapped or set.
--     there, there-at, find    a place where something stands is below the length, and is read with any default; and the other way
--     not_there                a place where nothing stands is past the end
--     map-there                the same place of the mapped list
--     set_there, set_same      a place of a list with one element set
-- Assumes nothing.
use mathlib.Core.Path.{◌≡◌, refl, sym, ap}
use mathlib.Core.List.{List, [], ◌∷◌, map}
use Rattle.std.specs.Prelude.{Option, None, Some}
use mathlib.Core.Logic.{◌⊎◌, inl, inr}
use Prim.Native.Nat.{ℕ, zero, suc, ◌<◌, ◌≤◌}
use native.Mathlib.Omega.{arith}
use lib.ListN.{length, get_or, set}
use Rattle.std.specs.Prelude.{slice_get}

pub nothing : {A : Type 0} (x : A) → ◌≡◌ {A = Option A} None (Some x) → ⊥
nothing x e = let z : ◌≡◌ {A = ℕ} 0 1 = cc in omega arith

pub there : {A : Type 0} (l : List A) (i : ℕ) (x : A) → slice_get l i ≡ Some x → i < length l
there [] i x e = absurd (nothing x e)
there (y ∷ l) zero x e = omega arith
there (y ∷ l) (suc i) x e = let h = there l i x e in omega arith

pub there-at : {A : Type 0} (l : List A) (i : ℕ) (x d : A) → slice_get l i ≡ Some x → get_or l i d ≡ x
there-at [] i x d e = absurd (nothing x e)
there-at (y ∷ l) zero x d e = cc
there-at (y ∷ l) (suc i) x d e = there-at l i x d e

pub find : {A : Type 0} (l : List A) (k : ℕ) → k < length l → (x : A) × (slice_get l k ≡ Some x)
find [] k h = absurd (omega arith)
find (x ∷ l) zero h = (x, refl)
find (x ∷ l) (suc k) h = find l k (omega arith)

pub not_there : {A : Type 0} (l : List A) (i : ℕ) → slice_get l i ≡ None → length l ≤ i
not_there [] i e = omega arith
not_there (y ∷ l) zero e = absurd (nothing y (sym e))
not_there (y ∷ l) (suc i) e = let h = not_there l i e in omega arith

pub map-there : {A B : Type 0} (f : A → B) (l : List A) (i : ℕ) (x : A) → slice_get l i ≡ Some x → slice_get (map f l) i ≡ Some (f x)
map-there f [] i x e = absurd (nothing x e)
map-there f (y ∷ l) zero x e = let q : y ≡ x = cc in ap (λ z. Some (f z)) q
map-there f (y ∷ l) (suc i) x e = map-there f l i x e

pub set_there : {A : Type 0} (l : List A) (i : ℕ) (y : A) (j : ℕ) (x : A) → slice_get (set l i y) j ≡ Some x → (slice_get l j ≡ Some x) ⊎ ((j ≡ i) × (y ≡ x))
set_there [] i y j x e = absurd (nothing x e)
set_there (a ∷ l) zero y zero x e = inr (refl, cc)
set_there (a ∷ l) zero y (suc j) x e = inl e
set_there (a ∷ l) (suc i) y zero x e = inl e
set_there (a ∷ l) (suc i) y (suc j) x e = go (set_there l i y j x e)
  where
    go : (slice_get l j ≡ Some x) ⊎ ((j ≡ i) × (y ≡ x)) → (slice_get l j ≡ Some x) ⊎ ((suc j ≡ suc i) × (y ≡ x))
    go (inl q) = inl q
    go (inr q) = inr (ap suc q.0, q.1)

-- an element set to what stands there
pub set_same : {A : Type 0} (l : List A) (i : ℕ) (x : A) → slice_get l i ≡ Some x → set l i x ≡ l
set_same [] i x e = refl
set_same (y ∷ l) zero x e = cc
set_same (y ∷ l) (suc i) x e = ap (λ (r : List _). y ∷ r) (set_same l i x e)
