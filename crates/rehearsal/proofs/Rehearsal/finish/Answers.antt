-- A newline is fed where a line is held.
use mathlib.Core.Path.{◌≡◌, sym, ◌∙◌}
use lib.ListN.{length}
use borrow.Author.Tests.{eqb-true, eqb-false}
use Rattle.rehearsal_lines.specs.Held.{line_held}
use Rattle.rehearsal_lines.proofs.Feeding.{finish-line}
use Rattle.rehearsal.specs.Feeding.{world_of}
use Rattle.rehearsal.specs.Lines.{say_line}
use Rattle.rehearsal.proofs.Feeds.{finish-answers}
use Rattle.rehearsal.proofs.Rehearsal.finish.Goals as goal

pub returns-then-is_none : goal.returns-then-is_none
returns-then-is_none c =
    let a = c.args in
    let z : length (line_held a.self.held) ≡ 0 = eqb-true _ 0 (sym c.is_none.ensures ∙ c.if-is_none.true) in
    finish-answers (world_of a.self a.logs.now a.slots.now) (line_held a.self.held) a.out.now c.none.result z c.none.ensures

pub returns : goal.returns
returns c =
    let a = c.args in
    let z : length (line_held a.self.held) ≡ 0 → ⊥ = eqb-false _ 0 (sym c.is_none.ensures ∙ c.if-is_none.false) in
    rw (← finish-line say_line (world_of a.self a.logs.now a.slots.now) (line_held a.self.held) z) c.feed_all.ensures
