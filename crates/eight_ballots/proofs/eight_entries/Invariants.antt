-- A walk that makes every test: what was found so far and the rest give the answer.
use Rattle.lists.specs.Tests.{all_b}
use Rattle.lists.proofs.Walk.{AllWith}
use Rattle.eight_ballots.specs.Fours.{entry_cells}
use Rattle.eight_ballots.proofs.eight_entries.Given as goal

abbrev pub invariant-loop-b : goal.invariant-loop-b
invariant-loop-b l = AllWith (all_b (entry_cells l.n) l.fn.all) (entry_cells l.n) l.fn.all l.good l.b-index
