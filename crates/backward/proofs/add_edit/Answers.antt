-- The line has an edit, or it is not named: nothing is stored. Else the word's.
use Rattle.backward.proofs.Cells.{added-kept, added-stored}
use Rattle.backward.proofs.add_edit.Goals as goal

pub returns-then-cells-line-ne0 : goal.returns-then-cells-line-ne0
returns-then-cells-line-ne0 c = added-kept c.args.cells.now c.args.word c.line_of-line.result c.line_of-line.ensures.0 c.if-cells-line-ne0.true

pub returns : goal.returns
returns c = added-stored c.args.cells.now c.args.word c.line_of-line.result c.line_of-line.ensures.0 c.if-cells-line-ne0.false
