use mathlib.Core.Path.{sym, ap, ◌∙◌}
use Rattle.protocol.specs.Codes.{cell}
use Rattle.protocol_laws.proofs.Codes.{cell-of}
use Rattle.last_edits.proofs.LastEdit.{word-here, word-past, no-word}
use Rattle.last_edits.proofs.last_edit.Goals as goal

pub returns-then-is_for : goal.returns-then-is_for
returns-then-is_for c =
    c.cell_of.ensures ∙ sym (ap cell (c.loop-word.invariant ∙ word-here _ _ _ _ _ c.in-Some.ensures.steps (sym c.is_for.ensures ∙ c.if-is_for.true)))

pub loop-word-preserved : goal.loop-word-preserved
loop-word-preserved c = c.loop-word.invariant ∙ word-past _ _ _ _ _ c.in-Some.ensures.steps (sym c.is_for.ensures ∙ c.if-is_for.false)

pub returns : goal.returns
returns c = sym (ap cell (c.loop-word.invariant ∙ no-word _ _ _ c.in-None.ensures.steps.0) ∙ cell-of c.args.before)
