-- The second test counts where there is more than one byte.
use borrow.Author.Tests.{lt-ltb, le-ltb}
use lib.ListN.{length}
use Rattle.lists.specs.Tests.{both}
use Rattle.decimal.specs.Number.{leading_zero}
use Rattle.decimal.proofs.number.leading_zero.Goals as goal

pub returns-then-field-gt1 : goal.returns-then-field-gt1
unfolding leading_zero both
returns-then-field-gt1 c = rw (lt-ltb 1 (length c.args.field.now) c.if-field-gt1.true)

pub returns-else-field-gt1 : goal.returns-else-field-gt1
unfolding leading_zero both
returns-else-field-gt1 c = rw (le-ltb 1 (length c.args.field.now) c.if-field-gt1.false)
