-- The walk counts what the ballots take.
use Rattle.writer.proofs.Ballots.{ToCount}
use Rattle.writer.proofs.Message.size.Given as goal

abbrev pub invariant-loop-b : goal.invariant-loop-b
invariant-loop-b l = ToCount l.initial.size l.self.n l.self.ballots.now l.size l.b-index
