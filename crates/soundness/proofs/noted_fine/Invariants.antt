-- A walk that makes every test: each place by the most that may be noted there.
use Rattle.soundness.proofs.Noted.{Walked}
use Rattle.soundness.proofs.noted_fine.Given as goal

abbrev pub invariant-loop-place : goal.invariant-loop-place
invariant-loop-place l = Walked l.n l.own l.settled l.fn.noted l.good l.place
