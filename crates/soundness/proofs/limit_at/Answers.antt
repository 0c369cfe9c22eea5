-- The test of the definition.
use mathlib.Core.Path.{sym}
use Rattle.lists.proofs.Tests.{pick_true, pick-false}
use Rattle.soundness.specs.Noted.{limit_at}
use Rattle.soundness.proofs.limit_at.Goals as goal

pub returns-then-place-own : goal.returns-then-place-own
unfolding limit_at
returns-then-place-own c = sym (pick_true _ 0 _ c.if-place-own.true)

pub returns : goal.returns
unfolding limit_at
returns c = sym (pick-false _ 0 _ c.if-place-own.false)
