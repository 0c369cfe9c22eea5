-- Far below the limit no tail matters; past it nothing helps; else a walk that makes every test.
use Rattle.lists.specs.Tests.{all_b}
use Rattle.lists.proofs.Walk.{AllWith}
use Rattle.lengths.proofs.Limit.{in_room}
use Rattle.lengths.proofs.within.Given as goal

abbrev pub invariant-loop-ballot : goal.invariant-loop-ballot
invariant-loop-ballot l = AllWith (all_b (in_room l.settled) l.fn.ballots) (in_room l.settled) l.fn.ballots l.good l.ballot-index
