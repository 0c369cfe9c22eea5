-- Request (vii): "A record is the mark 0x48 0x52, line (1 byte), grossing weight (4, most significant byte first), at most 1,000,000 records."
-- Assumes nothing.
use Rattle.std.specs.Prelude.{Bool, List, [], ◌∷◌, ℕ, zero, suc, ◌+◌, ◌/◌, ◌%◌, eqb, leb, length, get_or, drop}
use Rattle.lists.specs.Tests.{both}
use Rattle.numbers.specs.Numbers.{be32, run_ok}

pub record Household : Type 0 where
  pub line : ℕ
  pub weight : ℕ

-- a record stands at the start, of a line of the frame
unfoldable pub record_here : List ℕ → Bool
record_here s = both (eqb (get_or s 0 0) 0x48) (both (eqb (get_or s 1 0) 0x52) (leb (get_or s 2 0) 63))

-- what it says
abbrev pub household_at : List ℕ → Household
household_at s = record { line = get_or s 2 0; weight = be32 (drop 3 s) }

-- what k records say, seven bytes each
unfoldable pub households_at : ℕ → List ℕ → List Household
households_at zero s = []
households_at (suc k) s = household_at s ∷ households_at k (drop 7 s)

-- 12: "the records aren't of that layout, have a line above 63, or are too many"; this is where none of it holds
unfoldable pub are_households : List ℕ → Bool
are_households s = both (eqb (length s % 7) 0) (both (leb (length s / 7) 1000000) (run_ok 7 record_here (length s / 7) s))

-- the households that the bytes say
abbrev pub households_in : List ℕ → List Household
households_in s = households_at (length s / 7) s

-- the weights that they have together
unfoldable pub weights_read : List Household → ℕ
weights_read [] = 0
weights_read (h ∷ hs) = h.weight + weights_read hs
