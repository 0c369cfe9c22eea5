-- A walk over the offices: the first counts are raised by their entries, the others still those of the start.
use mathlib.Core.Path.{◌≡◌}
use Rattle.lists.proofs.Fill.{filled}
use Rattle.protocol.specs.Counts.{counts_after}
use Rattle.counting.proofs.counts_after.Given as goal

abbrev pub invariant-loop-k : goal.invariant-loop-k
invariant-loop-k l = l.count-items ≡ filled (counts_after l.initial.count-items l.words) l.initial.count-items l.k
