-- The entry's three numbers fit their places in its value.
use mathlib.Core.Path.{ap, ◌∙◌}
use Rattle.ballots.specs.Ballots.{pushed}
use Rattle.issuance.proofs.issued.Goals as goal

pub returns : goal.returns
returns c = c.push.ensures ∙ ap (pushed _) c.pack.ensures
