-- The invariant: what is left, from the digest so far, gives what all of it gives.
use Rattle.trial_digests.proofs.Digests.{AllLeft}
use Rattle.trial_digests.proofs.with_all.Given as goal

abbrev pub invariant-loop-x : goal.invariant-loop-x
invariant-loop-x g l = AllLeft g.T.Digested.numbers l.start l.xs l.h l.x-index
