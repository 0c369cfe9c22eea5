-- The digest before is taken as its remainder.
use Rattle.trial_digests.proofs.Digests.{remainder}
use Rattle.trial_digests.proofs.with.Goals as goal

pub returns : goal.returns
returns c = remainder c.args.h c.args.x
