-- The tests that led to each return are those by which the definition picks.
use mathlib.Core.Path.{sym, ◌∙◌}
use Rattle.lists.specs.Tests.{pick}
use Rattle.decimal.specs.Number.{number_of}
use Rattle.decimal.proofs.number.number_of.Goals as goal
use Rattle.decimal.proofs.number.number_of.Goals.{then-is_empty-via-then-is_empty, then-is_empty-via-else-is_empty+then-leading_zero}

pub returns-then-is_empty : goal.returns-then-is_empty
unfolding number_of pick
returns-then-is_empty c =
    elim c.then-is_empty.branch [
      | then-is_empty-via-then-is_empty w ↦ rw (sym c.is_empty.ensures ∙ w.if-is_empty.true)
      | then-is_empty-via-else-is_empty+then-leading_zero w ↦
          rw (sym c.is_empty.ensures ∙ w.if-is_empty.false, sym w.leading_zero.ensures ∙ w.if-leading_zero.true)
    ]

pub returns : goal.returns
unfolding number_of pick
returns c =
    c.digits_of.ensures ∙ rw (sym c.is_empty.ensures ∙ c.if-is_empty.false, sym c.leading_zero.ensures ∙ c.if-leading_zero.false)
