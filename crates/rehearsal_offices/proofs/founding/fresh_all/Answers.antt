use mathlib.Core.Path.{ap, ◌∙◌}
use native.Mathlib.Omega.{arith}
use lib.ListN.{set}
use Rattle.rehearsal_offices.proofs.Fresh.{fresh-next, fresh-ends}
use Rattle.rehearsal_offices.proofs.founding.fresh_all.Goals as goal

pub loop-k-preserved : goal.loop-k-preserved
loop-k-preserved c =
    let a = c.args in
    let l = c.loop-k in (
      omega arith,
      l.invariant.1,
      ap (λ s. set s l.k c.fresh_at.result) l.invariant.2
          ∙ fresh-next a.n a.weights a.logs.now a.records l.invariant.1 l.k c.fresh_at.result (omega arith) c.fresh_at.ensures,
    )

pub returns : goal.returns
returns c = let a = c.args in let l = c.loop-k in l.invariant.2 ∙ fresh-ends a.n a.weights a.logs.now a.records l.invariant.1 l.k (omega arith)
