-- At each letter the definition picks what the arm makes.
use borrow.Author.Rules.{rules}
use mathlib.Core.Path.{sym, ap, ◌∙◌}
use native.Mathlib.Omega.{arith}
use Rattle.frame.specs.State.{with_kept, with_noted, with_ballots}
use Rattle.trial_records.specs.Setting.{with_present, with_summary}
use Rattle.trial_records.proofs.Letters.{OfKept, set-r, set_p, set-k, set-n, set-kept, set-ballots}
use Rattle.trial_records.proofs.set.Goals as goal

pub returns-in-114 : goal.returns-in-114
returns-in-114 c = c.set_head.ensures ∙ sym (set-r _ _ c.in-114.is)

pub returns-in-112 : goal.returns-in-112
returns-in-112 c =
    let r = c.args.«record» in
    ap (with_summary r) (c.with_present.ensures ∙ ap (with_present r.summary) c.weights.ensures) ∙ sym (set_p _ _ c.in-112.is)

pub returns-in-107 : goal.returns-in-107
returns-in-107 c = ap (with_summary c.args.«record») c.with_codes.ensures ∙ sym (set-k _ _ c.in-107.is)

pub returns-in-110 : goal.returns-in-110
returns-in-110 c = ap (with_noted c.args.«record») c.with_numbers.ensures ∙ sym (set-n _ _ c.in-110.is)

pub returns-in-102 : goal.returns-in-102
returns-in-102 c = ap (with_kept c.args.«record») c.set_kept.ensures ∙ sym (set-kept _ _ c.in-102.is)

pub returns-in_default : goal.returns-in_default
returns-in_default c =
    let none : OfKept c.args.line c.args.«record» → ⊥ = search rules in
    ap (with_ballots c.args.«record») c.set_ballots.ensures ∙
    sym (set-ballots _ _ (λ e. omega arith) (λ e. omega arith) (λ e. omega arith) (λ e. omega arith) none)
