-- Sheets computed: households of lines 5, 8, 6, 9 and 5, where line 5 has the code 140, line 8 the code 0, line 6 the code 7, and line 9 is uncoded; a
-- weight of 0 makes its class met. Bytes that are cut, of another mark, or of line 64 are no households. Assumes nothing.
use mathlib.Core.Path.{◌≡◌, refl}
use mathlib.Core.Bool.{true, false}
use mathlib.Core.List.{List, [], ◌∷◌, ◌++◌}
use Prim.Native.Nat.{ℕ}
use Rattle.lists.specs.Tests.{both, pick}
use Rattle.numbers.specs.Numbers.{be32, run_ok}
use Rattle.households.specs.Households.{record_here, households_at, are_households, households_in}
use Rattle.tabulation.specs.Rows.{pool, pooled}
use Rattle.tabulation.specs.Sheet.{sheet_by}
use Rattle.tabulation.specs.declared.Row.{Row}

abbrev codes : List ℕ
codes = 0 ∷ 0 ∷ 0 ∷ 0 ∷ 0 ∷ 141 ∷ 8 ∷ 0 ∷ 1 ∷ 0 ∷ []

-- a household's bytes, of a weight below 65536
abbrev bytes : ℕ → ℕ → ℕ → List ℕ
bytes line high low = 0x48 ∷ 0x52 ∷ line ∷ 0 ∷ 0 ∷ high ∷ low ∷ []

abbrev five : List ℕ
five = bytes 5 0 10 ++ bytes 8 1 1 ++ bytes 6 0 0 ++ bytes 9 0 2 ++ bytes 5 0 30

abbrev row : ℕ → ℕ → Row
row class total = record { class = class; total = total }

pub on-sheet : (are_households five ≡ true) × (sheet_by codes (households_in five) ≡ row 0 2 ∷ row 1 257 ∷ row 8 0 ∷ row 141 40 ∷ []) ×
    ((are_households [] ≡ true) × (sheet_by codes (households_in []) ≡ []))
unfolding are_households run_ok record_here households_at be32 both pick pool pooled
on-sheet = (refl, refl, (refl, refl))

pub no-households :
    (are_households (bytes 5 0 10 ++ (0x48 ∷ [])) ≡ false) × (are_households (0x52 ∷ 0x48 ∷ 5 ∷ 0 ∷ 0 ∷ 0 ∷ 1 ∷ []) ≡ false) ×
    ((are_households (bytes 63 0 1) ≡ true) × (are_households (bytes 64 0 1) ≡ false))
unfolding are_households run_ok record_here both
no-households = (refl, refl, (refl, refl))
