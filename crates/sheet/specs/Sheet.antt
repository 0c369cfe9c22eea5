-- Request (vii): "Weights are pooled under the settled code of their line. The sheet lists class and 64-bit total, codes rising, only codes met."
-- Assumes nothing.
use Rattle.std.specs.Prelude.{List, [], ℕ, eqb, length}
use Rattle.lists.specs.Tests.{pick}
use Rattle.households.specs.Households.{are_households, households_in}
use Rattle.tabulation.specs.Cells.{cells_of}
use Rattle.tabulation.specs.Sheet.{sheet_by}
use Rattle.tabulation.specs.declared.Row.{Row}
use Rattle.frame.specs.Soundness.{sound_b}
use Rattle.both_frames.specs.Frames.{all_lines_of}
use Rattle.frame.specs.declared.Record.{Record}
use Rattle.sheet.specs.declared.Sheet.{Sheet}

-- 1: "record unsound, or log below 1024 words"; 12, "after number 1": "when the records aren't of that layout, have a line above 63, or are too many"
unfoldable pub sheet_number : Record → List ℕ → List ℕ → ℕ
sheet_number r words s = pick (sound_b r words) (pick (are_households s) 0 12) 1

-- the settled codes of the lines, as they are stored: (ix) 0 for a line no one has coded, code + 1 otherwise
abbrev pub settled_codes : Record → List ℕ → List ℕ
settled_codes r words = (all_lines_of r words).codes

-- "a refused sheet is empty"
unfoldable pub sheet_rows : Record → List ℕ → List ℕ → List Row
sheet_rows r words s = pick (eqb (sheet_number r words s) 0) (sheet_by (settled_codes r words) (households_in s)) []

-- rows as a sheet holds them
abbrev pub sheet_with : ℕ → List Row → Sheet
sheet_with number rows = record { number = number; count = length rows; rows = cells_of rows }

abbrev pub no_sheet : ℕ → Sheet
no_sheet number = sheet_with number []

unfoldable pub sheet_of : Record → List ℕ → List ℕ → Sheet
sheet_of r words s = sheet_with (sheet_number r words s) (sheet_rows r words s)
