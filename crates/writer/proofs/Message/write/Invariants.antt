-- The ballots are stored one after the other, each where the one before ends.
use Rattle.writer.proofs.Ballots.{ToPut}
use Rattle.writer.proofs.Message.write.Given as goal

abbrev pub invariant-loop-o : goal.invariant-loop-o
invariant-loop-o l = ToPut l.initial.out l.initial.p l.self.n l.self.ballots.now l.out l.p l.o
