-- A walk that makes every test: what was found so far and the rest give the answer.
use Rattle.lists.specs.Tests.{all_b}
use Rattle.lists.proofs.Walk.{AllWith}
use Rattle.ballots.specs.Ballots.{empty_ballot}
use Rattle.eight_ballots.proofs.no_ballots.Given as goal

abbrev pub invariant-loop-b : goal.invariant-loop-b
invariant-loop-b l = AllWith (all_b empty_ballot l.fn.all) empty_ballot l.fn.all l.none l.b-index
