use mathlib.Core.Path.{◌≡◌}
use mathlib.Core.Logic.{◌⊎◌, inl, inr}
use Prim.Native.Nat.{suc, ◌-◌}
use native.Mathlib.Omega.{arith}
use Rattle.backward.proofs.Cells.{walking-begins, walking-again, new-within, walking-ends}
use Rattle.backward.proofs.walk.Goals.{else-loop-left-test, then-loop-left-test+then-end-eq0}
use Rattle.backward.proofs.walk.Goals as goal

pub loop-left-init : goal.loop-left-init
loop-left-init c = walking-begins c.args.lines.now c.args.words.now c.requires _ c.ask-asked.ensures

pub overflow_sub-left : goal.overflow_sub-left
overflow_sub-left c =
    let before_last : c.loop-left.end ≡ suc (c.loop-left.end - 1) = omega (arith, c.if-end-eq0.false) in
    let l = c.loop-left in
    new-within c.args.lines.now c.args.words.now c.requires l.left l.cells l.end l.invariant (omega (arith, c.loop-left-test.true))
    (l.end - 1) before_last _ c.add_edit-left.result c.add_edit-left.ensures.0 c.add_edit-left.ensures.1

pub loop-left-preserved : goal.loop-left-preserved
loop-left-preserved c =
    let before_last : c.loop-left.end ≡ suc (c.loop-left.end - 1) = omega (arith, c.if-end-eq0.false) in
    let l = c.loop-left in
    walking-again c.args.lines.now c.args.words.now c.requires l.left l.cells l.end l.invariant (omega (arith, c.loop-left-test.true))
    (l.end - 1) before_last _ c.add_edit-left.result c.add_edit-left.ensures.0 c.add_edit-left.ensures.1

pub returns : goal.returns
returns c =
    let l = c.loop-left in
    let over : (l.left ≡ 0) ⊎ (l.end ≡ 0) =
    elim c.loop-left-test.branch [
      | else-loop-left-test w ↦ inl (omega (arith, w.loop-left-test.false))
      | then-loop-left-test+then-end-eq0 w ↦ inr w.if-end-eq0.true
    ] in
    walking-ends c.args.lines.now c.args.words.now c.requires l.left l.cells l.end l.invariant over c.args.codes _ c.answers-edits.ensures

pub add_edit-left-requires : goal.add_edit-left-requires
add_edit-left-requires c = c.loop-left.invariant.long

pub overflow_sub-result : goal.overflow_sub-result
overflow_sub-result c = omega (arith, c.loop-left.invariant.within)
