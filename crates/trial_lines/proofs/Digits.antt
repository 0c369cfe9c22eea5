-- What reading a line byte by byte gives.
--     digit-behind      a digit behind a number that has room for it
--     line_read      a line of the example in docs/TRIALS.md, computed
-- Assumes nothing.
use Rattle.std.proofs.Common.{◌≡◌, ℕ, ◌+◌, ◌*◌, ◌%◌, ◌<◌, [], ◌∷◌, take, refl, mod-eq_of_lt, arith}
use mathlib.Core.List.{foldl}
use Rattle.lists.specs.Tests.{pick}
use Rattle.trial_lines.specs.declared.line.Line.{Line}
use Rattle.trial_lines.specs.Line.{no_line, with_digit, with_byte}

pub digit-behind : (x digit : ℕ) → x * 10 + digit < 18446744073709551616 → with_digit x digit ≡ x * 10 + digit
digit-behind x digit h =
    let few : x % 1844674407370955162 ≡ x = mod-eq_of_lt (omega arith) in
    rw few (mod-eq_of_lt h)

-- `k 5 121`
abbrev example : Line
example = foldl with_byte no_line (107 ∷ 32 ∷ 53 ∷ 32 ∷ 49 ∷ 50 ∷ 49 ∷ [])

line_read : (example.letter ≡ 107) × (example.count ≡ 2) × (take 3 example.numbers ≡ 0 ∷ 5 ∷ 121 ∷ [])
unfolding with_byte pick
line_read = (refl, refl, refl)
