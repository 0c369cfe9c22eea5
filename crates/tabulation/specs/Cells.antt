-- Up to 64 rows in an array, with their count: "no rows, zeros" past them. Assumes nothing.
use Rattle.std.specs.Prelude.{◌≡◌, List, [], ◌∷◌, ℕ, suc, ◌+◌, ◌<◌, ltb, length, take}
use Rattle.lists.specs.Tests.{pick}
use Rattle.lists.specs.Padded.{padded}
use Rattle.tabulation.specs.Rows.{pool, total_of}
use Rattle.tabulation.specs.declared.Row.{Row}
use Rattle.tabulation.specs.declared.Rows.{Rows}

abbrev pub no_row : Row
no_row = record { class = 0; total = 0 }

-- rows as an array holds them
unfoldable pub cells_of : List Row → List Row
cells_of rows = padded 64 no_row rows

abbrev pub rows_of : List Row → Rows
rows_of rows = record { count = length rows; rows = cells_of rows }

-- the rows that an array with a count holds
abbrev pub held : Rows → List Row
held sheet = take sheet.count sheet.rows

-- how many rows at the front have a class below this one
unfoldable pub place_of : ℕ → List Row → ℕ
place_of class [] = 0
place_of class (s ∷ rows) = pick (ltb s.class class) (suc (place_of class rows)) 0

abbrev pub pool_into : Rows → Row → Rows
pool_into sheet row = rows_of (pool row (held sheet))

-- the rows are made as above, one more has room, and totals fit
pub record RoomFor (sheet : Rows) (row : Row) : Type 0 where
  pub made : sheet ≡ rows_of (held sheet)
  pub room : sheet.count < 64
  pub fits : row.total + total_of (held sheet) < 18446744073709551616

abbrev pub Fitting : List Row → Type 0
Fitting rows = total_of rows < 18446744073709551616
