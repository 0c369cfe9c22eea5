-- An edit, or none: then the kept one.
use Rattle.backward.proofs.Cells.{kept-none, kept-some}
use Rattle.backward.proofs.or_kept.Goals as goal

pub returns-then-edit-ne0 : goal.returns-then-edit-ne0
returns-then-edit-ne0 c = kept-some _ _ c.if-edit-ne0.true

pub returns : goal.returns
returns c = kept-none _ _ c.if-edit-ne0.false
