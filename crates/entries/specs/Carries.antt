-- A word's three limits tested by sums: each number of the word is raised so that it carries where it is past its limit. Assumes nothing.
use Rattle.std.specs.Prelude.{ℕ, ◌+◌, ◌-◌, ◌*◌, ◌/◌, ◌%◌, Bool, eqb, ltb, leb}
use Rattle.lists.specs.Tests.{both, pick}
use Rattle.protocol.specs.Entry.{office_of, line_of, code_of}

-- v is the value of an entry for n offices that codes a line, as each did in document 01; all other entries are moves of weight
unfoldable pub is_coding : ℕ → ℕ → Bool
is_coding n v = both (ltb (office_of v) n) (both (leb (line_of v) 63) (leb (code_of v) 9999))

-- a word's office, the upper two bits of its line and half its code, raised for n offices: the office carries into bit 31, the code into
-- bit 15, and the line's two bits stand at bits 21 and 22
unfoldable pub raised : ℕ → ℕ → ℕ
raised n word = word / 16777216 * 8388608 + (word / 4194304 % 4 * 2097152 + word % 65536 / 2) + ((256 - pick (leb n 256) n 256) * 8388608 + 27768)

-- none of these bits is 1
unfoldable pub no_carry : ℕ → Bool
no_carry bits = both (eqb (bits / 32768 % 2) 0) (both (eqb (bits / 2097152 % 4) 0) (ltb bits 2147483648))
