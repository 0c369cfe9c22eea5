use borrow.Author.Rules.{rules}
use Rattle.trial_digests.proofs.Digests.{all-next, all-done}
use Rattle.trial_digests.proofs.with_all.Goals as goal

pub loop-x-preserved : goal.loop-x-preserved
loop-x-preserved g c = all-next _ _ _ _ _ c.loop-x.invariant c.loop-x-test.true _ (search rules) _ c.onto-h.ensures

pub returns : goal.returns
returns g c = all-done _ _ _ _ _ c.loop-x.invariant c.loop-x-test.false
