-- A cell is 1 until its line is named, and 0 then: so what it holds is what naming the line adds to the number of cells that are 0.
use Rattle.backward.proofs.Cells.{Asking}
use Rattle.backward.proofs.ask.Given as goal

abbrev pub invariant-loop-named : goal.invariant-loop-named
invariant-loop-named l = Asking l.lines l.left l.cells l.named-index
