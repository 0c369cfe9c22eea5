-- "Decimal numbers .. with no leading zeros", up to a number `most`. Bytes are ASCII codes: 48 to 57 are the digits. Assumes nothing.
use Rattle.std.specs.Prelude.{ℕ, ◌+◌, ◌-◌, ◌*◌, Bool, Option, Some, None, List, [], ◌∷◌, ltb, leb, eqb, length, get_or, option_and_then}
use Rattle.lists.specs.Tests.{both, pick}

unfoldable pub is_digit : ℕ → Bool
is_digit byte = both (leb 48 byte) (leb byte 57)

-- the number `v` with one more digit behind it
abbrev pub appended : ℕ → ℕ → ℕ
appended v byte = v * 10 + (byte - 48)

-- the same where the byte is a digit and the number stays within `most`
unfoldable pub digit_of : ℕ → ℕ → ℕ → Option ℕ
digit_of most v byte = pick (both (is_digit byte) (leb (appended v byte) most)) (Some (appended v byte)) None

-- the number `v` with all these digits behind it
unfoldable pub digits_of : ℕ → ℕ → List ℕ → Option ℕ
digits_of most v [] = Some v
digits_of most v (b ∷ bs) = option_and_then (λ (w : ℕ). digits_of most w bs) (digit_of most v b)

-- more than one byte, and the first is a zero
unfoldable pub leading_zero : List ℕ → Bool
leading_zero field = both (ltb 1 (length field)) (eqb (get_or field 0 0) 48)

-- the number that a field spells
unfoldable pub number_of : ℕ → List ℕ → Option ℕ
number_of most field = pick (eqb (length field) 0) None (pick (leading_zero field) None (digits_of most 0 field))
