-- With room the log's vector is stored, and then the paths', each where the one before ends.
use lib.ListN.{take}
use Rattle.vectors.proofs.Vectors.{ToWrite}
use Rattle.vectors.proofs.Versions.write.Given as goal

abbrev pub invariant-loop-b : goal.invariant-loop-b
invariant-loop-b l = ToWrite l.initial.out l.initial.p l.self.n (take l.self.n l.base) l.self.ballots.now l.out l.p l.b-index
