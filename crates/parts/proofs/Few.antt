-- A short tail.
--     few-fair      a tail no longer than a part is fair
-- Assumes nothing.
use mathlib.Core.Path.{◌≡◌, sym}
use mathlib.Core.Bool.{true}
use mathlib.Core.List.{List}
use Prim.Native.Nat.{ℕ, ◌≤◌}
use native.Mathlib.Omega.{arith}
use lib.ListN.{length}
use Rattle.protocol.specs.Fair.{part, fair}
use Rattle.protocol_laws.proofs.Counts.{count-of, count_most}
use Rattle.protocol_laws.proofs.Fair.{fair-of}

pub few-fair : (n : ℕ) → n ≤ 8 → (tail : List ℕ) → length tail ≤ part n → true ≡ fair n tail
few-fair n most tail h = sym (fair-of n tail (λ k b. omega (arith, count-of 8 tail k (omega arith), count_most 8 tail k)))
