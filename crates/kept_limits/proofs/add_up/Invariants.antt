-- A walk from the front that takes each count from what is left of the dropped count.
use Rattle.kept_limits.proofs.Left.{Left}
use Rattle.kept_limits.proofs.add_up.Given as goal

abbrev pub invariant-loop-count : goal.invariant-loop-count
invariant-loop-count l = Left l.dropped l.fn.counts l.left l.count-index
