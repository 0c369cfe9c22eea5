-- The bytes of households, written: what the reading is judged by. Assumes nothing.
use Rattle.std.specs.Prelude.{Bool, List, [], ◌∷◌, ◌++◌, ℕ, leb, ltb}
use Rattle.lists.specs.Tests.{both}
use Rattle.numbers.specs.Numbers.{bytes32}
use Rattle.households.specs.Households.{Household}

-- "the mark 0x48 0x52, line (1 byte), grossing weight (4, most significant byte first)"
unfoldable pub spelled : List Household → List ℕ
spelled [] = []
spelled (h ∷ hs) = 0x48 ∷ 0x52 ∷ h.line ∷ (bytes32 h.weight ++ spelled hs)

-- a line of the frame, and a weight that four bytes hold
unfoldable pub is_household : Household → Bool
is_household h = both (leb h.line 63) (ltb h.weight 4294967296)
