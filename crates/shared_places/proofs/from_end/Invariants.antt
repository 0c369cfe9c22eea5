-- The invariant: the places passed are the same in both.
use Rattle.numbers.specs.Numbers.{run_at}
use Rattle.spelling.specs.Reading.{record_at}
use Rattle.shared_places.proofs.Walk.{Walked}
use Rattle.shared_places.proofs.from_end.Given as goal

abbrev pub invariant-loop-j : goal.invariant-loop-j
invariant-loop-j l = Walked l.k l.log (run_at 6 record_at l.k l.rest) l.j
