-- What the bytes of households keep within: lines of the frame, and weights that add up to less than 2^52.
--     lines-below       every line is below 64
--     weights-below     the weights of all households together
-- Assumes nothing.
use mathlib.Core.Path.{◌≡◌, refl}
use mathlib.Core.Bool.{true}
use mathlib.Core.List.{List}
use Prim.Native.Nat.{ℕ, zero, suc, ◌*◌, ◌/◌, ◌≤◌, ◌<◌}
use native.Mathlib.Omega.{arith}
use lib.Dec.{ltb}
use lib.ListN.{length, get_or, drop}
use borrow.Author.Tests.{lt-ltb, leb-true}
use Rattle.lists.specs.Tests.{all_b}
use Rattle.lists.proofs.Tests.{both-0, both-1, both_true}
use Rattle.numbers.specs.Numbers.{Bytes, be32, run_ok}
use Rattle.numbers.proofs.Runs.{bytes_drop}
use Rattle.households.specs.Households.{Household, record_here, households_at, are_households, households_in, weights_read}

run-lines : (k : ℕ) (s : List ℕ) → run_ok 7 record_here k s ≡ true → all_b (λ (h : Household). ltb h.line 64) (households_at k s) ≡ true
unfolding run_ok record_here households_at all_b
run-lines zero s e = refl
run-lines (suc k) s e =
    both_true _ _ (lt-ltb (get_or s 2 0) 64 (omega (arith, leb-true (get_or s 2 0) 63 (both-1 _ _ (both-1 _ _ (both-0 _ _ e)))))) (run-lines k (drop 7 s) (both-1 _ _ e))

be32-most : (s : List ℕ) → Bytes s → be32 s ≤ 4294967295
unfolding be32
be32-most s b = omega (arith, b 0, b 1, b 2, b 3)

run-weights : (k : ℕ) (s : List ℕ) → Bytes s → weights_read (households_at k s) ≤ 4294967295 * k
unfolding households_at weights_read
run-weights zero s b = omega arith
run-weights (suc k) s b = omega (arith, be32-most (drop 3 s) (bytes_drop 3 s b), run-weights k (drop 7 s) (bytes_drop 7 s b))

pub lines-below : (s : List ℕ) → are_households s ≡ true → all_b (λ (h : Household). ltb h.line 64) (households_in s) ≡ true
unfolding are_households
lines-below s e = run-lines (length s / 7) s (both-1 _ _ (both-1 _ _ e))

pub weights-below : (s : List ℕ) → Bytes s → are_households s ≡ true → weights_read (households_in s) < 4503599627370496
unfolding are_households
weights-below s b e = omega (arith, leb-true (length s / 7) 1000000 (both-0 _ _ (both-1 _ _ e)), run-weights (length s / 7) s b)
