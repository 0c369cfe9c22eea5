-- The letter, the three items and a newline, each behind the other. The buffer keeps its length, and an item takes at most 21 bytes, so that there is
-- room for the next and for the newline.
use native.Mathlib.Omega.{arith}
use mathlib.Core.Path.{◌≡◌}
use Prim.Native.Nat.{ℕ, ◌<◌}
use lib.ListN.{length, length-set}
use Rattle.rehearsal_answers.proofs.Printing.{item-short, print-whole}
use Rattle.rehearsal_answers.proofs.put_answer.Goals as goal
use Rattle.rehearsal_answers.proofs.put_answer.Goals.{After-put_item-last}

pub returns : goal.returns
returns c =
    let a = c.args in
    print-whole a.answer a.at c.put_item-behind.result c.put_item-next.result c.put_item-last.result
    a.out.now c.put_item-behind.new.out c.put_item-next.new.out c.put_item-last.new.out
    c.put_item-behind.ensures.end c.put_item-behind.ensures.output c.put_item-next.ensures.end c.put_item-next.ensures.output c.put_item-last.ensures.end c.put_item-last.ensures.output

pub put_item-next-requires : goal.put_item-next-requires
put_item-next-requires c = omega (arith, c.put_item-behind.ensures.end, c.put_item-behind.auto.out, length-set {A = ℕ}, item-short c.args.answer.first)

pub put_item-last-requires : goal.put_item-last-requires
put_item-last-requires c =
    let a = c.args.answer in
    omega (
      arith,
      c.put_item-behind.ensures.end,
      c.put_item-behind.auto.out,
      c.put_item-next.ensures.end,
      c.put_item-next.auto.out,
      length-set {A = ℕ},
      item-short a.first,
      item-short a.second,
    )

-- the last item ends before the buffer does
ends : (c : After-put_item-last) → (length c.put_item-last.new.out ≡ length c.args.out.now) × (c.put_item-last.result < length c.args.out.now)
ends c =
    let a = c.args.answer in
    let kept : length c.put_item-last.new.out ≡ length c.args.out.now =
    omega (arith, c.put_item-behind.auto.out, c.put_item-next.auto.out, c.put_item-last.auto.out, length-set {A = ℕ}) in
    let end : c.put_item-last.result < length c.args.out.now = omega (
      arith,
      c.put_item-behind.ensures.end,
      c.put_item-next.ensures.end,
      c.put_item-last.ensures.end,
      item-short a.first,
      item-short a.second,
      item-short a.third,
    ) in
    (kept, end)

pub bounds-out-last : goal.bounds-out-last
bounds-out-last c = let e = ends (goal.at.bounds-out-last c).After-put_item-last in omega (arith, e)

pub overflow_add-result : goal.overflow_add-result
overflow_add-result c = let e = ends (goal.at.overflow_add-result c).After-put_item-last in omega (arith, e, c.well_formed.0.0)
