-- What is counted in the lent bytes is the part; past the end there is none.
use mathlib.Core.Path.{ap}
use native.Mathlib.Omega.{arith}
use Prim.Native.Nat.{ℕ, ◌+◌}
use lib.ListN.{drop, length-drop}
use Rattle.text_parts.proofs.Ends.{part-short, part-lent, part-past}
use Rattle.text_parts.proofs.part_end.Goals as goal

pub overflow_add-result : goal.overflow_add-result
overflow_add-result c =
    let a = c.args in
    let s = drop a.at a.bytes.now in
    omega (arith, part-lent a.mark a.bytes.now a.at c.part_length.result c.part_length.ensures, part-short a.mark s, length-drop a.at a.bytes.now)

pub returns-then-at-bytes : goal.returns-then-at-bytes
returns-then-at-bytes c = part-past c.args.mark c.args.bytes.now c.args.at c.if-at-bytes.true

pub returns : goal.returns
returns c = ap (λ (k : ℕ). c.args.at + k) (part-lent c.args.mark c.args.bytes.now c.args.at c.part_length.result c.part_length.ensures)
