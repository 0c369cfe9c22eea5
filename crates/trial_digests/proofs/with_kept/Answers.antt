use mathlib.Core.List.{◌++◌}
use mathlib.Core.Path.{refl}
use Rattle.trial_digests.proofs.Digests.{of-numbers, behind}
use Rattle.trial_digests.proofs.with_kept.Goals as goal

pub returns : goal.returns
returns c =
    let k = c.args.kept in
    behind _ k.summary.present (k.summary.codes ++ k.counts) (of-numbers _ c.with_all-weighed.ensures c.with.ensures)
    (behind _ k.summary.codes k.counts (of-numbers _ c.with_all.ensures refl) (of-numbers _ c.with_all-2.ensures refl))
