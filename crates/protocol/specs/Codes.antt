-- Request (ii): "The record is to hold the 64 settled codes", and (ix): they too tell "no edit yet" from a code. Codes follow from a start and the
-- entries of a log. Assumes nothing.
use mathlib.Core.List.{List, foldl}
use Rattle.std.specs.Prelude.{Option, None, Some}
use Rattle.std.specs.Prelude.{ℕ, zero, suc, get_or, set, replicate}
use Rattle.protocol.specs.Entry.{line_of, code_of}

-- the number that is stored: 0 for no edit yet, else the code + 1, so that a record of zeros has no edits
abbrev pub cell : Option ℕ → ℕ
cell None = 0
cell (Some code) = suc code

-- what a stored number says
abbrev pub of_cell : ℕ → Option ℕ
of_cell zero = None
of_cell (suc code) = Some code

-- the edit of a line that codes tell, as they are stored
abbrev pub edit_in : List ℕ → ℕ → Option ℕ
edit_in codes line = of_cell (get_or codes line 0)

-- no line has an edit yet
abbrev pub no_codes : List ℕ
no_codes = replicate 64 (cell None)

-- entry e is settled: the code of its line is its code. There is no place for a move's line, so a move changes no code
abbrev pub coded : List ℕ → ℕ → List ℕ
coded codes e = set codes (line_of e) (cell (Some (code_of e)))

-- the codes, one for each line: from the codes that stood before, after the entries of a log
unfoldable pub codes_after : List ℕ → List ℕ → List ℕ
codes_after codes log = foldl coded codes log
