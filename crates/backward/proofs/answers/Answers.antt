use borrow.Author.Rules.{rules}
use mathlib.Core.Path.{◌≡◌, refl}
use Prim.Native.Nat.{◌≤◌}
use native.Mathlib.Omega.{arith}
use lib.ListN.{length, get_or}
use Rattle.backward.proofs.Placed.{named-at, placing-again, placing-ends}
use Rattle.backward.proofs.answers.Goals as goal

pub loop-i-init : goal.loop-i-init
loop-i-init c = (search rules, refl)

pub overflow_cast-line : goal.overflow_cast-line
overflow_cast-line c =
    let line-most : get_or c.args.lines.now c.loop-i.i 0 ≤ 63 = named-at c.args.lines.now c.requires c.loop-i.i c.loop-i-test.true in
    omega (arith, line-most)

pub bounds-cells-line : goal.bounds-cells-line
bounds-cells-line c =
    let line-most : get_or c.args.lines.now c.loop-i.i 0 ≤ 63 = named-at c.args.lines.now c.requires c.loop-i.i c.loop-i-test.true in
    omega (arith, line-most)

pub bounds-codes-line : goal.bounds-codes-line
bounds-codes-line c =
    let line-most : get_or c.args.lines.now c.loop-i.i 0 ≤ 63 = named-at c.args.lines.now c.requires c.loop-i.i c.loop-i-test.true in
    omega (arith, line-most)

pub bounds-edits-i : goal.bounds-edits-i
bounds-edits-i c = omega (arith, c.loop-i-test.true, c.requires.few)

pub loop-i-preserved : goal.loop-i-preserved
loop-i-preserved c =
    let a = c.args in
    let l = c.loop-i in
    (search rules, placing-again a.codes a.cells.now a.lines.now l.edits l.i l.invariant.1 c.loop-i-test.true c.requires.few c.or_kept.result c.or_kept.ensures)

pub returns : goal.returns
returns c =
    let a = c.args in
    let l = c.loop-i in
    let e : l.i ≡ length a.lines.now = omega (arith, l.invariant.0, c.loop-i-test.false) in
    placing-ends a.codes a.cells.now a.lines.now l.edits l.i l.invariant.1 e

pub offset_bounds-cells-line : goal.offset_bounds-cells-line
offset_bounds-cells-line c =
    let line-most : get_or c.args.lines.now c.loop-i.i 0 ≤ 63 = named-at c.args.lines.now c.requires c.loop-i.i c.loop-i-test.true in
    search (rules, line-most)

pub offset_bounds-codes-line : goal.offset_bounds-codes-line
offset_bounds-codes-line c =
    let line-most : get_or c.args.lines.now c.loop-i.i 0 ≤ 63 = named-at c.args.lines.now c.requires c.loop-i.i c.loop-i-test.true in
    search (rules, line-most)
