-- What request (vii) claims of a sheet that is done. The theorem is `done` in proofs/Claims.antt; that a refused sheet is empty, and that equal
-- settled codes give equal sheets, stand there as laws of their own. Assumes nothing.
use Rattle.std.specs.Prelude.{◌≡◌, List, ℕ, ◌≤◌, ◌<◌, get_or, take}
use Rattle.numbers.specs.Numbers.{Bytes}
use Rattle.households.specs.Households.{households_in}
use Rattle.tabulation.specs.Rows.{total_of}
use Rattle.tabulation.specs.Sheet.{IsSheet}
use Rattle.shown_edits.specs.Shown.{stored_edit}
use Rattle.both_frames.specs.Frames.{settled_frame_of}
use Rattle.frame.specs.declared.Record.{Record}
use Rattle.both_frames.specs.Framed.{Framed}
use Rattle.sheet.specs.Sheet.{settled_codes, sheet_rows, sheet_of}

pub record Claims (r : Record) (words s : List ℕ) : Type 0 where
  -- its rows are the sheet of the households by the settled codes: classes rise, a class is listed exactly if some household's line has that code,
  -- a total is the weights of those households, and "the totals add up to the weights read". No other rows are (`sheet-one` of tabulation)
  pub is : IsSheet (settled_codes r words) (households_in s) (sheet_rows r words s)
  -- a class says what the settled frame answers of its lines: (ix) 0 that no one has coded them, code + 1 their code. So the uncoded households, "if
  -- any, are totalled first on the sheet, as uncoded", apart from code 0
  pub settled : (line : ℕ) → line ≤ 63 → ◌≡◌ {A = Framed} (record { number = 0; edit = stored_edit (get_or (settled_codes r words) line 0) }) (settled_frame_of r words line)
  -- its rows are the first `count` of the answer's, at most 64
  pub rows : take (sheet_of r words s).count (sheet_of r words s).rows ≡ sheet_rows r words s
  pub few : (sheet_of r words s).count ≤ 64
  -- no sum wraps: the totals, of bytes that are bytes, together stay below 2^52
  pub fits : Bytes s → total_of (sheet_rows r words s) < 4503599627370496
