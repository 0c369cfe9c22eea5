use borrow.Author.Rules.{rules}
use Prim.Native.Nat.{ℕ, ◌≤◌}
use native.Mathlib.Omega.{arith}
use lib.ListN.{get_or}
use Rattle.backward.proofs.Cells.{lacking-most, asking-begins, asking-again, asking-ends}
use Rattle.backward.proofs.Placed.{named-at}
use Rattle.backward.proofs.ask.Goals as goal

pub overflow_cast-line : goal.overflow_cast-line
overflow_cast-line c =
    let line : ℕ = get_or c.args.lines.now c.loop-named.named-index 0 in
    let line-most : line ≤ 63 = named-at c.args.lines.now c.requires c.loop-named.named-index c.loop-named-test.true in
    omega (arith, line-most)

pub bounds-cells-line : goal.bounds-cells-line
bounds-cells-line c =
    let line : ℕ = get_or c.args.lines.now c.loop-named.named-index 0 in
    let line-most : line ≤ 63 = named-at c.args.lines.now c.requires c.loop-named.named-index c.loop-named-test.true in
    omega (arith, line-most)

pub overflow_add-left : goal.overflow_add-left
overflow_add-left c =
    let line : ℕ = get_or c.args.lines.now c.loop-named.named-index 0 in
    let a = c.loop-named.invariant in omega (arith, a.count, a.long, lacking-most c.loop-named.cells, a.most line)

pub bounds-cells-line-in-loop-named : goal.bounds-cells-line-in-loop-named
bounds-cells-line-in-loop-named c =
    let line : ℕ = get_or c.args.lines.now c.loop-named.named-index 0 in
    let line-most : line ≤ 63 = named-at c.args.lines.now c.requires c.loop-named.named-index c.loop-named-test.true in
    omega (arith, line-most)

pub loop-named-preserved : goal.loop-named-preserved
loop-named-preserved c =
    let line : ℕ = get_or c.args.lines.now c.loop-named.named-index 0 in
    let line-most : line ≤ 63 = named-at c.args.lines.now c.requires c.loop-named.named-index c.loop-named-test.true in
    asking-again c.loop-named.invariant c.loop-named-test.true (omega (arith, line-most))

pub returns : goal.returns
returns c = asking-ends c.loop-named.invariant c.loop-named-test.false

pub loop-named-init : goal.loop-named-init
loop-named-init c = asking-begins _

pub offset_bounds-cells-line : goal.offset_bounds-cells-line
offset_bounds-cells-line c =
    let line : ℕ = get_or c.args.lines.now c.loop-named.named-index 0 in
    let line-most : line ≤ 63 = named-at c.args.lines.now c.requires c.loop-named.named-index c.loop-named-test.true in
    search (rules, line-most)

pub offset_bounds-cells-line-in-loop-named : goal.offset_bounds-cells-line-in-loop-named
offset_bounds-cells-line-in-loop-named c =
    let line : ℕ = get_or c.args.lines.now c.loop-named.named-index 0 in
    let line-most : line ≤ 63 = named-at c.args.lines.now c.requires c.loop-named.named-index c.loop-named-test.true in
    search (rules, line-most)
