-- At each letter the definition picks what the arm makes.
use mathlib.Core.List.{List}
use mathlib.Core.Path.{sym, ap, ◌∙◌}
use native.Mathlib.Omega.{arith}
use Prim.Native.Nat.{ℕ}
use Rattle.trial_records.specs.Setting.{with_present, with_kept_summary}
use Rattle.trial_records.proofs.Letters.{kept-f, kept-q, kept-j, kept-t}
use Rattle.trial_records.proofs.set_kept.Goals as goal

pub returns-in-102 : goal.returns-in-102
returns-in-102 c = sym (kept-f _ _ c.in-102.is)

pub returns-in-113 : goal.returns-in-113
returns-in-113 c =
    let k = c.args.kept in
    ap (with_kept_summary k) (c.with_present.ensures ∙ ap (with_present k.summary) c.weights.ensures) ∙ sym (kept-q _ _ c.in-113.is)

pub returns-in-106 : goal.returns-in-106
returns-in-106 c = ap (with_kept_summary c.args.kept) c.with_codes.ensures ∙ sym (kept-j _ _ c.in-106.is)

pub returns-in_default : goal.returns-in_default
returns-in_default c =
    let k = c.args.kept in
    ap (λ (counts : List ℕ). record { dropped = k.dropped; summary = k.summary; counts = counts }) c.with_numbers.ensures ∙
    sym (kept-t _ _ (λ e. omega arith) (λ e. omega arith) (λ e. omega arith))
