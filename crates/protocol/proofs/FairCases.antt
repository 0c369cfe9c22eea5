-- Request (v), computed on the definitions: tails at the part and one past it, and the number of an issue behind them. Assumes nothing.
use mathlib.Core.Path.{◌≡◌, refl}
use mathlib.Core.List.{List, [], ◌∷◌, ◌++◌}
use mathlib.Core.Bool.{true, false}
use Prim.Native.Nat.{ℕ, zero, suc}
use lib.ListN.{replicate}
use Rattle.lists.specs.Tests.{both, pick, all_b}
use Rattle.protocol.specs.Entry.{value, proper}
use Rattle.protocol.specs.Counts.{count_in, counts_after}
use Rattle.protocol.specs.Fair.{part, fair}
use Rattle.protocol.specs.Limits.{length_limit}
use Rattle.protocol.specs.Issue.{refusal_at}
use Rattle.protocol.specs.Folding.{refuse_folded_issue}
use Rattle.protocol.specs.Office.{Office}
use Rattle.protocol.proofs.Cases.{a, b, c, state, behind}

-- office 0 hands 5 to office 1
abbrev handed : ℕ
handed = value 0 65 5

pub parts : (part 1 ≡ 32) × (part 2 ≡ 16) × (part 3 ≡ 10) × (part 4 ≡ 8) × (part 5 ≡ 6) × (part 6 ≡ 5) × (part 7 ≡ 4) × (part 8 ≡ 4)
parts = (refl, refl, refl, refl, refl, refl, refl, refl)

-- a, b and c in turn, so many times: no two neighbours are one office's
abbrev scattered : ℕ → List ℕ
scattered zero = []
scattered (suc k) = a ∷ b ∷ c ∷ scattered k

pub tails :
    -- together
    (fair 1 (replicate 32 a) ≡ true) × (fair 2 (replicate 16 a ++ replicate 16 b) ≡ true) × (fair 2 (replicate 17 a) ≡ false) ×
    (fair 3 (replicate 10 a ++ replicate 10 b ++ replicate 10 c) ≡ true) × (fair 3 (replicate 11 a) ≡ false) ×
    (fair 5 (replicate 6 a) ≡ true) × (fair 5 (replicate 7 a) ≡ false) × (fair 6 (replicate 5 a) ≡ true) × (fair 6 (replicate 6 a) ≡ false) ×
    (fair 7 (replicate 4 a) ≡ true) × (fair 7 (replicate 5 a) ≡ false) × (fair 8 (replicate 4 a) ≡ true) × (fair 8 (replicate 5 a) ≡ false) ×
    -- scattered
    (fair 3 (scattered 10) ≡ true) × (fair 3 (scattered 10 ++ (b ∷ [])) ≡ false) ×
    -- moves count
    (fair 8 (a ∷ b ∷ a ∷ a ∷ handed ∷ []) ≡ true) × (fair 8 (a ∷ b ∷ a ∷ a ∷ handed ∷ handed ∷ []) ≡ false)
unfolding both all_b counts_after fair
tails = (refl, refl, refl, refl, refl, refl, refl, refl, refl, refl, refl, refl, refl, refl, refl, refl, refl)

-- with nothing dropped
abbrev number : ℕ → ℕ → ℕ → ℕ → Office → ℕ
number n k line code o = refuse_folded_issue n k line code (behind 0 o)

pub issues :
    -- the busy office is refused while another still adds behind the same tail
    (number 3 0 5 1 (state [] (replicate 10 a) [] []) ≡ 11) × (number 3 1 5 1 (state [] [] (replicate 10 a) []) ≡ 0) ×
    (number 3 0 5 1 (state [] (replicate 9 a ++ (handed ∷ [])) [] []) ≡ 11) × (number 3 0 5 1 (state [] (replicate 9 a ++ replicate 10 b) [] []) ≡ 0) ×
    -- 3 and 5 come first
    (number 3 0 66 0 (state [] (replicate 10 a) [] []) ≡ 3) × (number 3 0 5 1 (state (replicate 1014 b) (replicate 10 a) [] []) ≡ 5) ×
    -- the part of the tail, and not of the path
    (number 3 0 5 1 (state (replicate 20 a) (replicate 9 a) [] []) ≡ 0)
unfolding both pick proper count_in length_limit refusal_at refuse_folded_issue
issues = (refl, refl, refl, refl, refl, refl, refl)
