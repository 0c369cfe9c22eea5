use Rattle.numbers.proofs.Steps.{storing-again, storing-ends}
use Rattle.put_numbers.proofs.put_run.Goals as goal

pub loop-x-preserved : goal.loop-x-preserved
loop-x-preserved g c = rw c.SIZE-p.ensures (storing-again c.loop-x.invariant g.met.I.Item.sized c.loop-x-test.true c.x-item.is c.put.ensures)

pub returns : goal.returns
returns g c = storing-ends c.loop-x.invariant c.loop-x-test.false
