-- The bytes that came lie within the input; those that are left are the measure.
use Rattle.std.proofs.Common.{◌-◌, ◌≤◌}
use Rattle.ballot_tables.proofs.fill.Given as goal

abbrev pub invariant-loop-used : goal.invariant-loop-used
invariant-loop-used g l = l.used ≤ 19

abbrev pub decreases-loop-used : goal.decreases-loop-used
decreases-loop-used g l = 19 - l.used
