use mathlib.Core.Path.{refl}
use native.Mathlib.Omega.{arith}
use Rattle.numbers.proofs.Steps.{filling-again, filling-ends}
use Rattle.numbers.proofs.read_run.Goals as goal

pub loop-cell-preserved : goal.loop-cell-preserved
loop-cell-preserved g c =
    let inv = c.loop-cell.invariant in
    let long = c.loop-cell.auto.cell-items in
    rw c.SIZE-at.ensures (filling-again inv (omega arith) c.read_at.ensures)

pub returns : goal.returns
returns g c = filling-ends c.loop-cell.invariant (omega arith) refl
