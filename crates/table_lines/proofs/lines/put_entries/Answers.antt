use borrow.Author.Rules.{rules}
use borrow.Author.Tests.{eqb-true, eqb-false}
use mathlib.Core.Path.{sym, ◌∙◌}
use Rattle.table_lines.proofs.Shown.{digits-next, digits-ends, put-dash}
use Rattle.table_lines.proofs.lines.put_entries.Goals as goal

pub loop-entry-preserved : goal.loop-entry-preserved
loop-entry-preserved c =
    let l = c.loop-entry in
    digits-next l.invariant c.requires.0 c.requires.1 (search rules) _ c.office_of.ensures.0 c.put_number-next.ensures.end c.put_number-next.ensures.output

pub returns : goal.returns
returns c = let e = digits-ends c.loop-entry.invariant (eqb-false _ 0 (sym c.is_empty.ensures ∙ c.if-is_empty.false)) (search rules) in record { end = e.0; output = e.1 }

pub returns-then-is_empty : goal.returns-then-is_empty
returns-then-is_empty c =
    let e = put-dash c.args.entries.now c.args.out.now c.args.at (eqb-true _ 0 (sym c.is_empty.ensures ∙ c.if-is_empty.true)) in
    record { end = e.0; output = e.1 }
