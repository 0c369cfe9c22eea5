-- The invariant: what is left to read, from the edits so far, gives what the whole walk gives. A cell is 0 exactly if a line named has no edit yet, so
-- `left` says when the walk of the definition stops.
use Rattle.backward.proofs.Cells.{Walking}
use Rattle.backward.proofs.walk.Given as goal

abbrev pub invariant-loop-left : goal.invariant-loop-left
invariant-loop-left l = Walking l.lines l.words l.left l.cells l.end

abbrev pub decreases-loop-left : goal.decreases-loop-left
decreases-loop-left l = l.end
