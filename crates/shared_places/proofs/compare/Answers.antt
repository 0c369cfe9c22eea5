-- The shorter of the two logs has the shared places.
use mathlib.Core.Path.{◌∙◌}
use Rattle.shared_places.proofs.Walk.{compared-whole}
use Rattle.shared_places.proofs.compare.Goals as goal

pub returns : goal.returns
returns c = let a = c.args in c.from_end.ensures ∙ compared-whole a.log.now a.rest.now a.k c.min.result c.min.ensures
