-- The invariant: the first i weights are those of the line.
use Rattle.std.proofs.Common.{◌≡◌}
use Rattle.lists.proofs.Fill.{filled}
use Rattle.trial_lines.specs.Writing.{weights_from}
use Rattle.trial_lines.proofs.writing.weights.Given as goal

abbrev pub invariant-loop-i : goal.invariant-loop-i
invariant-loop-i l = l.weight-items ≡ filled (weights_from l.fn.line l.from) l.initial.weight-items l.i
