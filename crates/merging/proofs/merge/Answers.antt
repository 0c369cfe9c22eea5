use borrow.Author.Rules.{rules}
use native.Mathlib.Omega.{arith}
use mathlib.Core.Path.{◌≡◌, refl, ap, ◌∙◌}
use Prim.Native.Nat.{◌≤◌}
use lib.ListN.{length, get_or, set}
use Rattle.ballots.specs.Ballots.{off_end}
use Rattle.merging.specs.Merging.{past_ballot, adopted_ballot}
use Rattle.merging.proofs.Turn.{all-merged, left-past, left-offer, next-merged}
use Rattle.merging.proofs.merge.Goals.{then-len-grown, else-len-grown, then-offer_len-between, else-offer_len-between}
use Rattle.merging.proofs.merge.Goals as goal

none_yet : 0 ≤ 8
none_yet = omega arith

pub loop-i-init : goal.loop-i-init
loop-i-init c = (none_yet, refl)

pub loop-i-preserved : goal.loop-i-preserved
loop-i-preserved c =
    let full : (length c.args.ballots ≡ 8) × (length c.args.offers ≡ 8) = (search rules, search rules) in
    let l = c.loop-i in
    let a = c.args in
    let g = c.giver-giver in
    let first = c.if-len-grown.next in
    let here = c.loop-i-test.true in
    let left = left-past a.grown.now a.between.now a.ballots a.offers a.own a.sender l.i (omega (arith, full, here)) l.next l.invariant.1 c.requires.1 in
    let brought : first ≡ set l.next l.i (past_ballot a.grown.now (get_or l.next l.i off_end)) =
    elim c.if-len-grown.branch [
      | then-len-grown w ↦ w.next-is ∙ ap (set l.next l.i) w.past_ballot.ensures
      | else-len-grown w ↦ w.next-is ∙ left w.if-len-grown.false
    ] in
    let offered : c.if-offer_len-between.next ≡ set first l.i (adopted_ballot (get_or first l.i off_end) (past_ballot a.between.now (get_or a.offers g.result off_end))) =
    elim c.if-offer_len-between.branch [
      | then-offer_len-between w ↦ w.next-is ∙ ap (set first l.i) w.offered.ensures
      | else-offer_len-between w ↦ w.next-is ∙ left-offer a.between.now first l.i (get_or a.offers g.result off_end) (omega (arith, w.if-offer_len-between.false))
    ] in (
      omega (arith, here),
      next-merged a.grown.now a.between.now a.ballots a.offers a.own a.sender l.i (omega (arith, full, here)) l.next l.invariant.1
          (omega (arith, full, here)) g.result g.ensures.0 first c.if-offer_len-between.next brought offered,
    )

pub returns : goal.returns
returns c =
    let eight : (length c.args.ballots ≡ 8) × (length c.args.offers ≡ 8) = (search rules, search rules) in
    let l = c.loop-i in
    let a = c.args in
    let full = eight in
    l.invariant.1 ∙ all-merged a.grown.now a.between.now a.ballots a.offers a.own a.sender l.i (omega (arith, full, c.loop-i-test.false))

pub offset_bounds-next-i : goal.offset_bounds-next-i
offset_bounds-next-i c = omega (arith, c.loop-i-test.true)

pub bounds-next-i : goal.bounds-next-i
bounds-next-i c = c.loop-i-test.true

pub offset_bounds-next-i-then-len-grown : goal.offset_bounds-next-i-then-len-grown
offset_bounds-next-i-then-len-grown c = omega (arith, c.loop-i-test.true)

pub bounds-next-i-then-len-grown : goal.bounds-next-i-then-len-grown
bounds-next-i-then-len-grown c = c.loop-i-test.true

pub offset_bounds-next-i-then-len-grown-2 : goal.offset_bounds-next-i-then-len-grown-2
offset_bounds-next-i-then-len-grown-2 c = omega (arith, c.loop-i-test.true)

pub bounds-next-i-then-len-grown-2 : goal.bounds-next-i-then-len-grown-2
bounds-next-i-then-len-grown-2 c = c.loop-i-test.true

pub giver-giver-requires : goal.giver-giver-requires
giver-giver-requires c = (c.loop-i-test.true, c.requires.0)

pub offset_bounds-offers-giver : goal.offset_bounds-offers-giver
offset_bounds-offers-giver c = omega (arith, c.giver-giver.ensures.1)

pub bounds-offers-giver : goal.bounds-offers-giver
bounds-offers-giver c = c.giver-giver.ensures.1

pub offset_bounds-next-i-then-offer_len-between : goal.offset_bounds-next-i-then-offer_len-between
offset_bounds-next-i-then-offer_len-between c = omega (arith, c.loop-i-test.true)

pub bounds-next-i-then-offer_len-between : goal.bounds-next-i-then-offer_len-between
bounds-next-i-then-offer_len-between c = c.loop-i-test.true

pub offset_bounds-offers-giver-then-offer_len-between : goal.offset_bounds-offers-giver-then-offer_len-between
offset_bounds-offers-giver-then-offer_len-between c = omega (arith, c.giver-giver.ensures.1)

pub bounds-offers-giver-then-offer_len-between : goal.bounds-offers-giver-then-offer_len-between
bounds-offers-giver-then-offer_len-between c = c.giver-giver.ensures.1

pub offset_bounds-next-i-then-offer_len-between-2 : goal.offset_bounds-next-i-then-offer_len-between-2
offset_bounds-next-i-then-offer_len-between-2 c = omega (arith, c.loop-i-test.true)

pub bounds-next-i-then-offer_len-between-2 : goal.bounds-next-i-then-offer_len-between-2
bounds-next-i-then-offer_len-between-2 c = c.loop-i-test.true

pub overflow_step-i : goal.overflow_step-i
overflow_step-i c = omega (arith, c.loop-i-test.true)

pub loop-i-smaller : goal.loop-i-smaller
loop-i-smaller c = omega (arith, c.loop-i-test.true)
