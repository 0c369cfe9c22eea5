-- A walk from the front that makes every test.
use Rattle.lists.specs.Tests.{all_b}
use Rattle.lists.proofs.Walk.{AllWith}
use Rattle.protocol.specs.Entry.{is_entry}
use Rattle.eight_ballots.proofs.entry_cells.Given as goal

abbrev pub invariant-loop-cell : goal.invariant-loop-cell
invariant-loop-cell l = AllWith (all_b (is_entry l.n) l.fn.b.cells) (is_entry l.n) l.fn.b.cells l.good l.cell-index
