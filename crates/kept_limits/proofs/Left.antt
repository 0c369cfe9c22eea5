-- A walk that takes each element of a list from what is left of a number.
--     left-next, left-short, left_end      one element more, one above what is left, the list's end
-- Assumes nothing.
use mathlib.Core.Path.{◌≡◌, sym}
use mathlib.Core.Bool.{false}
use mathlib.Core.List.{List}
use Prim.Native.Nat.{ℕ, ◌+◌, ◌<◌, ◌≤◌}
use native.Mathlib.Omega.{arith}
use lib.Dec.{eqb}
use lib.ListN.{length, get_or, drop}
use borrow.Author.Tests.{eqb-true, eq-eqb, ne_eqb}
use Rattle.lists.proofs.Tests.{alike}
use Rattle.limits.proofs.Sums.{sum-next, sum_done}
use Rattle.protocol.specs.Limits.{total}

-- what is left of x beside the whole sum is x beside the sum of what is left
abbrev pub Left : ℕ → List ℕ → ℕ → ℕ → Type 0
Left x xs left i = left + total xs ≡ x + total (drop i xs)

module _ (x : ℕ) (xs : List ℕ) (left i : ℕ) (inv : Left x xs left i) where
  pub left-next : i < length xs → (rest : ℕ) → rest + get_or xs i 0 ≡ left → Left x xs rest (i + 1)
  left-next h rest e = omega (arith, inv, sum-next xs i h)

  pub left-short : i < length xs → left < get_or xs i 0 → false ≡ eqb (total xs) x
  left-short h more = sym (ne_eqb (total xs) x (λ e. omega (arith, inv, sum-next xs i h)))

  pub left_end : length xs ≤ i → eqb left 0 ≡ eqb (total xs) x
  left_end h =
      alike (eqb left 0) (eqb (total xs) x)
      (λ e. let z = eqb-true left 0 e in eq-eqb (total xs) x (omega (arith, inv, sum_done xs i h)))
      (λ e. let z = eqb-true (total xs) x e in eq-eqb left 0 (omega (arith, inv, sum_done xs i h)))
