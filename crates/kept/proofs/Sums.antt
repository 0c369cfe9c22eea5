-- Sums of lists.
--     within-total, no-total      no element is above the sum; where that is 0 so are they
-- Assumes nothing.
use mathlib.Core.Path.{◌≡◌, refl, ap₂}
use mathlib.Core.List.{List, [], ◌∷◌}
use Prim.Native.Nat.{ℕ, zero, suc, ◌≤◌}
use native.Mathlib.Omega.{arith}
use lib.ListN.{length, get_or, replicate}
use Rattle.protocol.specs.Limits.{total}

pub within-total : (xs : List ℕ) (k : ℕ) → get_or xs k 0 ≤ total xs
unfolding total
within-total [] k = omega arith
within-total (x ∷ xs) zero = omega arith
within-total (x ∷ xs) (suc k) = omega (arith, within-total xs k)

pub no-total : (xs : List ℕ) → total xs ≡ 0 → xs ≡ replicate (length xs) 0
unfolding total
no-total [] e = refl
no-total (x ∷ xs) e = ap₂ (λ (y : ℕ) (l : List ℕ). y ∷ l) (omega arith) (no-total xs (omega arith))
