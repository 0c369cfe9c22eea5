use borrow.Author.Rules.{rules}
use Rattle.table_lines.proofs.Written.{lines_next, lines-ends}
use Rattle.table_lines.proofs.lines.put_lines.Goals as goal

pub loop-place-preserved : goal.loop-place-preserved
loop-place-preserved c =
    let l = c.loop-place in
    lines_next l.invariant (search rules) c.put_line-next.ensures.end c.put_line-next.ensures.output

pub returns : goal.returns
returns c = lines-ends c.loop-place.invariant (search rules)
