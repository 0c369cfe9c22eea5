-- A walk over the offices: the first counts are those after a log of the one entry, the others still those before it.
use mathlib.Core.Path.{◌≡◌}
use mathlib.Core.List.{[], ◌∷◌}
use Rattle.lists.proofs.Fill.{filled}
use Rattle.protocol.specs.Counts.{counts_after}
use Rattle.counting.proofs.one_more.Given as goal

abbrev pub invariant-loop-k : goal.invariant-loop-k
invariant-loop-k l = l.count-items ≡ filled (counts_after l.initial.count-items (l.word ∷ [])) l.initial.count-items l.k
