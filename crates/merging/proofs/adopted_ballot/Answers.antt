-- The test is on the two tails.
use mathlib.Core.Path.{sym, ◌∙◌}
use Rattle.merging.proofs.Walks.{adopted-yes, adopted-no}
use Rattle.merging.proofs.adopted_ballot.Goals as goal

pub returns-then-extends : goal.returns-then-extends
returns-then-extends c = let a = c.args in adopted-yes a.b a.offer _ _ c.tail-2.ensures c.tail.ensures (sym c.extends.ensures ∙ c.if-extends.true)

pub returns : goal.returns
returns c = let a = c.args in adopted-no a.b a.offer _ _ c.tail-2.ensures c.tail.ensures (sym c.extends.ensures ∙ c.if-extends.false)
