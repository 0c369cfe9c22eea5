-- At once where there are no ballots; else a walk over the lengths, then the cells of four ballots and of four.
use mathlib.Core.Path.{◌≡◌}
use lib.ListN.{drop}
use Rattle.lists.specs.Tests.{both}
use Rattle.eight_ballots.proofs.Eight.{fit_from}
use Rattle.eight_ballots.proofs.fine.Given as goal

abbrev pub invariant-loop-place : goal.invariant-loop-place
invariant-loop-place l = fit_from l.n l.held 0 l.fn.all ≡ both l.fit (fit_from l.n l.held l.place (drop l.place l.fn.all))
