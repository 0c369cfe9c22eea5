-- The tail is cut at the two lengths that are walked for; what is counted and written are the office's entries of the parts.
use borrow.Author.Rules.{rules}
use mir.Syntax.{w64}
use mir.Val.{Fits}
use Prim.Native.Nat.{◌*◌}
use mathlib.Core.Path.{sym}
use mathlib.Core.List.{◌++◌}
use native.Mathlib.Omega.{arith}
use lib.ListN.{length}
use lib.Seq.{length-take-le}
use Rattle.protocol_laws.proofs.Beginning.{⊑-append}
use Rattle.own_entries.proofs.Telling.{Cut, tell-short, tell-room, tell-done}
use Rattle.pending.proofs.tell.Goals as goal

pub slice_bounds-count_of-end : goal.slice_bounds-count_of-end
slice_bounds-count_of-end c = sym (length-take-le _ _ c.alike-first.ensures.1)

pub returns-then-rest-pending : goal.returns-then-rest-pending
returns-then-rest-pending c =
    let cut : let a = c.args in Cut a.own a.tail.now a.log.now (a.log.now ++ a.after.now) c.alike-first.result c.kept-both.result c.count_of-settled.result c.count_of-pending.result c.count_of-lost.result = let a = c.args in record { low = ⊑-append a.log.now a.after.now; first = c.alike-first.ensures.0; both = c.kept-both.ensures.0; of-settled = c.count_of-settled.ensures.0; of-pending = c.count_of-pending.ensures.0; of-lost = c.count_of-lost.ensures.0 } in
    let both = tell-short cut c.args.rest.now c.if-rest-pending.true in record { told = both.0; words = both.1 }

pub write_of-requires : goal.write_of-requires
write_of-requires c =
    let cut : let a = c.args in Cut a.own a.tail.now a.log.now (a.log.now ++ a.after.now) c.alike-first.result c.kept-both.result c.count_of-settled.result c.count_of-pending.result c.count_of-lost.result = let a = c.args in record { low = ⊑-append a.log.now a.after.now; first = c.alike-first.ensures.0; both = c.kept-both.ensures.0; of-settled = c.count_of-settled.ensures.0; of-pending = c.count_of-pending.ensures.0; of-lost = c.count_of-lost.ensures.0 } in
    tell-room cut c.args.rest.now c.if-rest-pending.false

pub returns : goal.returns
returns c =
    let cut : let a = c.args in Cut a.own a.tail.now a.log.now (a.log.now ++ a.after.now) c.alike-first.result c.kept-both.result c.count_of-settled.result c.count_of-pending.result c.count_of-lost.result = let a = c.args in record { low = ⊑-append a.log.now a.after.now; first = c.alike-first.ensures.0; both = c.kept-both.ensures.0; of-settled = c.count_of-settled.ensures.0; of-pending = c.count_of-pending.ensures.0; of-lost = c.count_of-lost.ensures.0 } in
    let both = tell-done cut c.args.rest.now c.if-rest-pending.false c.write_of.new.out c.write_of.ensures in record { told = both.0; words = both.1 }

pub kept-both-requires : goal.kept-both-requires
kept-both-requires c = c.alike-first.ensures

pub offset_bounds-tail-first : goal.offset_bounds-tail-first
offset_bounds-tail-first c =
    let tail-fits : Fits w64 (length c.args.tail.now * 4) = search rules in
    omega (arith, c.alike-first.ensures.1, tail-fits)

pub slice_bounds-count_of-count : goal.slice_bounds-count_of-count
slice_bounds-count_of-count c = c.kept-both.ensures.1.0

pub slice_bounds-count_of-start : goal.slice_bounds-count_of-start
slice_bounds-count_of-start c = c.kept-both.ensures.1.0

pub slice_bounds-count_of-end-2 : goal.slice_bounds-count_of-end-2
slice_bounds-count_of-end-2 c = c.kept-both.ensures.1.1

pub offset_bounds-tail-both : goal.offset_bounds-tail-both
offset_bounds-tail-both c =
    let tail-fits : Fits w64 (length c.args.tail.now * 4) = search rules in
    omega (arith, c.kept-both.ensures.1.1, tail-fits)

pub slice_bounds-count_of-count-2 : goal.slice_bounds-count_of-count-2
slice_bounds-count_of-count-2 c = c.kept-both.ensures.1.1

pub slice_bounds-count_of-start-2 : goal.slice_bounds-count_of-start-2
slice_bounds-count_of-start-2 c = c.kept-both.ensures.1.1

pub offset_bounds-tail-first-2 : goal.offset_bounds-tail-first-2
offset_bounds-tail-first-2 c =
    let tail-fits : Fits w64 (length c.args.tail.now * 4) = search rules in
    omega (arith, c.alike-first.ensures.1, tail-fits)

pub slice_bounds-write_of-count : goal.slice_bounds-write_of-count
slice_bounds-write_of-count c = c.alike-first.ensures.1

pub slice_bounds-write_of-start : goal.slice_bounds-write_of-start
slice_bounds-write_of-start c = c.alike-first.ensures.1
