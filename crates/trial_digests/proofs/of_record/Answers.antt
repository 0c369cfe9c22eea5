-- Each list from where the one before it ends.
use Prim.Native.Nat.{ℕ}
use mathlib.Core.List.{◌∷◌}
use mathlib.Core.Path.{refl, ap, ◌∙◌}
use Rattle.trial_digests.specs.Digest.{digest_with, kept_numbers}
use Rattle.trial_digests.proofs.Digests.{of-numbers, behind}
use Rattle.trial_digests.proofs.of_record.Goals as goal

pub returns : goal.returns
returns c =
    let r = c.args.«record» in
    let head = c.with-head.ensures ∙ ap (λ (n : ℕ). digest_with n r.own) c.with.ensures in
    behind _ r.weights _ (of-numbers _ c.with_all.ensures head)
    (behind _ r.summary.present _ (of-numbers _ c.with_all-weighed.ensures refl)
    (behind _ (r.settled ∷ r.summary.codes) _ (of-numbers _ c.with_all-coded.ensures c.with-2.ensures)
    (behind _ (kept_numbers r.kept) _ c.with_kept.ensures
    (behind _ r.noted _ (of-numbers _ c.with_all-2.ensures refl) c.with_all-3.ensures))))
