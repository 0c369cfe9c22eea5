-- The invariant: the first i elements of the part are those that are written.
use Rattle.std.proofs.Common.{◌≡◌}
use Rattle.lists.proofs.Fill.{filled}
use Rattle.std.specs.Prelude.{length}
use Rattle.trial_lines.specs.Writing.{written}
use Rattle.trial_lines.proofs.writing.put.Given as goal

abbrev pub invariant-loop-i : goal.invariant-loop-i
invariant-loop-i g l = l.x-items ≡ filled (written g.T.LowPart.low l.fn.line l.fn.from l.fn.times l.fn.at (length l.fn.to)) l.initial.x-items l.i
