-- The log's answer is stored first, and then the paths', each in the cell behind its office's number.
use lib.ListN.{take}
use Rattle.versions.proofs.Paths.{ToAnswer}
use Rattle.versions.proofs.answers.Given as goal

abbrev pub invariant-loop-o : goal.invariant-loop-o
invariant-loop-o l = ToAnswer l.initial.answers l.n (take l.n l.base) (take l.n l.given) l.of.ballots.now l.answers l.o
