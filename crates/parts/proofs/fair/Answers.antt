use borrow.Author.Rules.{rules}
use native.Mathlib.Omega.{arith}
use mathlib.Core.Path.{◌≡◌, ◌∙◌}
use Prim.Native.Nat.{◌<◌}
use lib.ListN.{length}
use lib.Seq.{length-take-le}
use Rattle.parts.proofs.Few.{few-fair}
use Rattle.parts.proofs.Bytes.{part-most, raised-first, office-below, raised-next, raised-room, raised-fair}
use Rattle.parts.proofs.fair.Goals as goal

pub returns-then-len-part : goal.returns-then-len-part
returns-then-len-part c =
    let full : length c.args.cells ≡ 32 = search rules in
    few-fair c.args.n c.requires.1.0 _ (omega (arith, length-take-le c.args.len c.args.cells (omega (arith, full, c.requires.1.1.0))))

pub loop-cell-init : goal.loop-cell-init
loop-cell-init c =
    let full : length c.args.cells ≡ 32 = search rules in
    raised-first c.args.n c.args.len c.args.cells full c.requires.1.1

pub bounds-units-office_of : goal.bounds-units-office_of
bounds-units-office_of c =
    let full : length c.args.cells ≡ 32 = search rules in
    let l = c.loop-cell in
    office-below c.args.n c.args.len c.args.cells full c.requires.1.1 l.counts l.cell-index l.invariant (omega arith) _ c.office_of.ensures.0 c.requires.1.0

pub overflow_add-counts : goal.overflow_add-counts
overflow_add-counts c =
    let full : length c.args.cells ≡ 32 = search rules in
    let l = c.loop-cell in
    let below : c.office_of.result < 8 = office-below c.args.n c.args.len c.args.cells full c.requires.1.1 l.counts l.cell-index l.invariant (omega arith) _ c.office_of.ensures.0 c.requires.1.0 in
    omega (arith, raised-room c.args.n c.args.len c.args.cells full c.requires.1.1 l.counts l.cell-index l.invariant (omega arith) _ c.office_of.ensures.0 below)

pub loop-cell-preserved : goal.loop-cell-preserved
loop-cell-preserved c =
    let full : length c.args.cells ≡ 32 = search rules in
    let l = c.loop-cell in
    let below : c.office_of.result < 8 = office-below c.args.n c.args.len c.args.cells full c.requires.1.1 l.counts l.cell-index l.invariant (omega arith) _ c.office_of.ensures.0 c.requires.1.0 in
    raised-next c.args.n c.args.len c.args.cells full c.requires.1.1 l.counts l.cell-index l.invariant (omega arith) _ c.office_of.ensures.0 below

pub returns : goal.returns
returns c =
    let full : length c.args.cells ≡ 32 = search rules in
    let l = c.loop-cell in
    c.low_bytes.ensures ∙ raised-fair c.args.n c.args.len c.args.cells full c.requires.1.1 c.requires.1.0 l.counts l.cell-index (omega arith) l.invariant

pub overflow_sub-counts : goal.overflow_sub-counts
overflow_sub-counts c = omega (arith, part-most c.args.n)

pub overflow_mul-counts : goal.overflow_mul-counts
overflow_mul-counts c = omega (arith, part-most c.args.n)

pub overflow_sub-counts-2 : goal.overflow_sub-counts-2
overflow_sub-counts-2 c = omega (arith, c.requires.1.1.0)

pub overflow_sub-counts-3 : goal.overflow_sub-counts-3
overflow_sub-counts-3 c = omega (arith, part-most c.args.n)
