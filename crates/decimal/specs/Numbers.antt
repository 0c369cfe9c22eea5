-- "Single spaces, decimal numbers up to 65535": a text's fields are what stands between its spaces (32). Two spaces together, and one at an
-- end, make an empty field, which is no number. Assumes nothing.
use Rattle.std.specs.Prelude.{ℕ, ◌+◌, Option, Some, None, List, [], ◌∷◌, leb, eqb, length, drop, replicate, set, option_and_then}
use Rattle.lists.specs.Tests.{pick}
use Rattle.decimal.specs.declared.numbers.Numbers.{Numbers}
use Rattle.decimal.specs.Number.{number_of}

-- the fields with a byte more at the front of the first
unfoldable pub in_first : ℕ → List (List ℕ) → List (List ℕ)
in_first b [] = (b ∷ []) ∷ []
in_first b (f ∷ fs) = (b ∷ f) ∷ fs

unfoldable pub fields : List ℕ → List (List ℕ)
fields [] = [] ∷ []
fields (b ∷ bs) = pick (eqb b 32) ([] ∷ fields bs) (in_first b (fields bs))

-- the fields from a place on, none past the text's end
unfoldable pub fields_from : List ℕ → ℕ → List (List ℕ)
fields_from bytes at = pick (leb at (length bytes)) (fields (drop at bytes)) []

-- the number that a field spells, up to 65535
abbrev pub field_number : List ℕ → Option ℕ
field_number f = number_of 65535 f

-- the numbers of these fields after `count` others, which fill the first cells; none where a field is no number, or there are more
-- than eight
unfoldable pub numbers_after : ℕ → List ℕ → List (List ℕ) → Option Numbers
numbers_after count cells [] = Some (record { count = count; cells = cells })
numbers_after count cells (f ∷ fs) =
    pick (eqb count 8) None (option_and_then (λ (v : ℕ). numbers_after (count + 1) (set cells count v) fs) (field_number f))

-- the numbers that these fields spell
abbrev pub numbers_of : List (List ℕ) → Option Numbers
numbers_of fs = numbers_after 0 (replicate 8 0) fs

-- the numbers of the fields from a place on
abbrev pub numbers_from : List ℕ → ℕ → Option Numbers
numbers_from bytes start = numbers_of (fields_from bytes start)
