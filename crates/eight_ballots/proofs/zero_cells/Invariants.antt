-- A walk from the front that makes every test.
use lib.Dec.{eqb}
use Rattle.lists.specs.Tests.{all_b}
use Rattle.lists.proofs.Walk.{AllWith}
use Rattle.eight_ballots.proofs.zero_cells.Given as goal

abbrev pub invariant-loop-cell : goal.invariant-loop-cell
invariant-loop-cell l = AllWith (all_b (eqb 0) l.fn.cells) (eqb 0) l.fn.cells l.good l.cell-index
