-- The sum of the standard library is the total; and a walk that sums a list from the front.
use mathlib.Core.Path.{◌≡◌, refl, ap, ◌∙◌}
use mathlib.Core.List.{List, [], ◌∷◌}
use Prim.Native.Nat.{ℕ, ◌+◌, ◌<◌, ◌≤◌}
use lib.ListN.{length, get_or, drop, drop_of_length-le}
use Rattle.lists.proofs.Walk.{rest-step}
use Rattle.std.specs.List.{sum}
use Rattle.std.proofs.lemmas.List.Sums.{sum_by-cons}
use Rattle.protocol.specs.Limits.{total}

pub sum_is : (xs : List ℕ) → sum xs ≡ total xs
unfolding total
sum_is [] = refl
sum_is (x ∷ xs) = sum_by-cons (λ (y : ℕ). y) x xs ∙ ap (λ (k : ℕ). x + k) (sum_is xs)

pub sum-next : (xs : List ℕ) (i : ℕ) → i < length xs → total (drop i xs) ≡ get_or xs i 0 + total (drop (i + 1) xs)
unfolding total
sum-next xs i h = rw (rest-step 0 xs i h)

pub sum_done : (xs : List ℕ) (i : ℕ) → length xs ≤ i → total (drop i xs) ≡ 0
unfolding total
sum_done xs i h = rw (drop_of_length-le xs h)
