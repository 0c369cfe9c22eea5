-- (xiii) "For weights read from input, one line of three numbers as `rehearse` reads them .. Weights that founding refuses print 2 alone, any other
-- input `?` alone." Bytes are ASCII codes. Assumes nothing.
use Rattle.std.specs.Prelude.{List, [], ◌∷◌, ◌++◌, Bool, false, Option, Some, None, ℕ, eqb}
use Rattle.lists.specs.Tests.{pick}
use Rattle.decimal.specs.Numbers.{fields, numbers_of}
use Rattle.printing.specs.Printing.{decimal_of}
use Rattle.decimal.specs.declared.numbers.Numbers.{Numbers}
use Rattle.rehearsal_lines.specs.Feeding as Feeding
use Rattle.frame.specs.Founding.{found_of}
use Rattle.frame.specs.declared.founding.Founded.{Founded}
use Rattle.tables.specs.Tables.{tables}
use Rattle.table_lines.specs.Lines.{empty_log, lines_of}

-- the numbers of an input of one line; a second line, even an empty one, is other input
abbrev pub only_line : List (List ℕ) → Option Numbers
only_line [] = None
only_line (line ∷ []) = numbers_of (fields line)
only_line (line ∷ next ∷ more) = None

-- of its lines as the rehearsal has them: the last may lack its newline
abbrev pub numbers_in : List ℕ → Option Numbers
numbers_in input = only_line (Feeding.lines_of input)

-- "three numbers"
unfoldable pub three_numbers : Option Numbers → Bool
three_numbers (Some ns) = eqb ns.count 3
three_numbers None = false

-- three offices with these weights, office 0's record
abbrev pub founded : List ℕ → Founded
founded ws = found_of 3 0 ws empty_log

-- what is printed for weights: a line for each table, or the number that founding gives
unfoldable pub printed_for : List ℕ → List ℕ
printed_for ws = pick (eqb (founded ws).number 0) (lines_of (founded ws).«record» tables) (decimal_of (founded ws).number ++ (10 ∷ []))

-- what is printed for the numbers of an input
unfoldable pub answer_for : Option Numbers → List ℕ
answer_for (Some ns) = pick (three_numbers (Some ns)) (printed_for ns.cells) (63 ∷ 10 ∷ [])
answer_for None = 63 ∷ 10 ∷ []

-- what is printed for an input
unfoldable pub answer_to : List ℕ → List ℕ
answer_to input = answer_for (numbers_in input)
