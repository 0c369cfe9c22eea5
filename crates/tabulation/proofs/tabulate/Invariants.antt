-- The invariant: the array holds the pooled rows of the lines from the turn's on.
use mathlib.Core.Path.{◌≡◌}
use Rattle.tabulation.specs.Rows.{pooled}
use Rattle.tabulation.specs.Cells.{rows_of}
use Rattle.tabulation.proofs.LinesFrom.{lines_from}
use Rattle.tabulation.proofs.tabulate.Given as goal

abbrev pub invariant-loop-i : goal.invariant-loop-i
invariant-loop-i l = l.sheet ≡ rows_of (pooled (lines_from l.codes l.met l.totals l.i))
