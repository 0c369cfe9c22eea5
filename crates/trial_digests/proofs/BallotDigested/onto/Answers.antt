use Rattle.trial_digests.proofs.Digests.{of-numbers}
use Rattle.trial_digests.proofs.BallotDigested.onto.Goals as goal

pub returns : goal.returns
returns c = of-numbers _ c.with_all.ensures c.with.ensures
