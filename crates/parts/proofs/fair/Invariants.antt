-- A tail no longer than a part at once; else a walk over all the cells.
use Rattle.parts.proofs.Bytes.{Raised}
use Rattle.parts.proofs.fair.Given as goal

abbrev pub invariant-loop-cell : goal.invariant-loop-cell
invariant-loop-cell l = Raised l.n l.len l.fn.cells l.counts l.cell-index
