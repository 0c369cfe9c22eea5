-- Laws of every line named.
--     all-mem, all-each     a test of every element, and the test of each
--     map_each              two functions that agree on each
-- Assumes nothing.
use mathlib.Core.Path.{◌≡◌, refl, ap₂}
use mathlib.Core.List.{List, [], ◌∷◌, map, Memᴰ}
use mathlib.Core.Bool.{Bool, true}
use Prim.Native.Nat.{ℕ}
use Rattle.lists.specs.Tests.{all_b}
use Rattle.lists.proofs.Tests.{both-0, both-1, both_true}

pub all-mem : (t : ℕ → Bool) {x : ℕ} {xs : List ℕ} → Memᴰ x xs → all_b t xs ≡ true → t x ≡ true
unfolding all_b
all-mem t (Memᴰ.head q) e = rw q (both-0 _ _ e)
all-mem t (Memᴰ.tail m) e = all-mem t m (both-1 _ _ e)

pub all-each : (t : ℕ → Bool) (xs : List ℕ) → ((x : ℕ) → Memᴰ x xs → t x ≡ true) → all_b t xs ≡ true
unfolding all_b
all-each t [] h = refl
all-each t (x ∷ xs) h = both_true (t x) (all_b t xs) (h x (Memᴰ.head refl)) (all-each t xs (λ z m. h z (Memᴰ.tail m)))

pub map_each : {B : Type 0} (f g : ℕ → B) (xs : List ℕ) → ((x : ℕ) → Memᴰ x xs → f x ≡ g x) → map f xs ≡ map g xs
map_each f g [] h = refl
map_each {B} f g (x ∷ xs) h = ap₂ (λ (y : B) (ys : List B). y ∷ ys) (h x (Memᴰ.head refl)) (map_each f g xs (λ z m. h z (Memᴰ.tail m)))
