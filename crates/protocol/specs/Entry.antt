-- "An entry is office (0 to n−1), line (0 to 63), code (0 to 9999). Its value is office × 16777216 + line × 65536 + code."
-- Request (i): "An entry with line 64 + j, j below n, moves its code, 1 to 9999, as weight from the issuing office to office j."
-- An entry is its value everywhere below. Assumes nothing.
use Rattle.std.specs.Prelude.{ℕ, ◌+◌, ◌*◌, ◌/◌, ◌%◌, Bool, ltb, leb}
use Rattle.lists.specs.Tests.{both, pick}

abbrev pub value : ℕ → ℕ → ℕ → ℕ
value office line code = office * 16777216 + line * 65536 + code

-- the three parts of a value
abbrev pub office_of : ℕ → ℕ
office_of v = v / 16777216

abbrev pub line_of : ℕ → ℕ
line_of v = v / 65536 % 256

abbrev pub code_of : ℕ → ℕ
code_of v = v % 65536

-- (i) "number 3 and the entry limits follow the wider line range and, for moves, the codes 1 to 9999"
unfoldable pub proper : ℕ → ℕ → ℕ → Bool
proper n line code = pick (leb line 63) (leb code 9999) (both (ltb line (64 + n)) (both (leb 1 code) (leb code 9999)))

-- v is the value of an entry for n offices
unfoldable pub is_entry : ℕ → ℕ → Bool
is_entry n v = both (ltb (office_of v) n) (proper n (line_of v) (code_of v))
