-- The place of the row's class among the rows says whether one of them has it; else the row is put in there.
use Rattle.std.proofs.Common.{◌≡◌, ◌<◌, get_or, arith}
use Rattle.tabulation.specs.Cells.{no_row}
use Rattle.tabulation.proofs.Cells.{into-fits, into-same, into_new}
use Rattle.tabulation.proofs.pool.Goals as goal
use Rattle.tabulation.proofs.pool.Goals.{then-at-count+else-here-class, else-at-count}

pub overflow_add-rows : goal.overflow_add-rows
overflow_add-rows c = omega (arith, into-fits _ _ c.requires _ c.place-at.ensures.0 (omega arith))

pub returns-then-here-class : goal.returns-then-here-class
returns-then-here-class c = into-same _ _ c.requires _ c.place-at.ensures.0 (omega arith) c.if-here-class.true

pub returns : goal.returns
returns c =
    let other : c.place-at.result < c.args.sheet.count → (get_or c.args.sheet.rows c.place-at.result no_row).class ≡ c.args.row.class → ⊥ =
    λ b d. elim c.if-at-count.branch [ then-at-count+else-here-class w ↦ w.if-here-class.false d | else-at-count w ↦ absurd (omega (arith, b)) ] in
    into_new _ _ c.requires _ c.place-at.ensures.0 _ c.place-at.ensures.1 other c.insert-next.ensures
