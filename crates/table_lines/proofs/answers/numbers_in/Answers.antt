-- Bytes behind the first newline are a second line; else what is before it is the only one.
use native.Mathlib.Omega.{arith}
use mathlib.Core.Path.{◌≡◌, sym, ap, ◌∙◌}
use Prim.Native.Nat.{ℕ}
use lib.ListN.{take}
use lib.Seq.{length-take-le}
use Rattle.decimal.specs.Numbers.{numbers_from}
use Rattle.text_parts.specs.Parts.{part_length}
use Rattle.text_parts.proofs.Ends.{part-within}
use Rattle.table_lines.proofs.Input.{second-line, only-line}
use Rattle.table_lines.proofs.answers.numbers_in.Goals as goal

pub returns-then-end-input : goal.returns-then-end-input
returns-then-end-input c =
    let first : c.part_end-end.result ≡ part_length 10 c.args.input.now = omega (arith, c.part_end-end.ensures) in
    sym (second-line c.args.input.now (omega (arith, first, c.if-end-input.true)))

pub slice_bounds-numbers_from-end : goal.slice_bounds-numbers_from-end
slice_bounds-numbers_from-end c =
    let first : c.part_end-end.result ≡ part_length 10 c.args.input.now = omega (arith, c.part_end-end.ensures) in
    let s = c.args.input.now in
    sym (length-take-le c.part_end-end.result s (omega (arith, first, part-within 10 s 0 (omega arith))))

pub returns : goal.returns
returns c =
    let first : c.part_end-end.result ≡ part_length 10 c.args.input.now = omega (arith, c.part_end-end.ensures) in
    let s = c.args.input.now in
    c.numbers_from.ensures ∙ ap (λ (k : ℕ). numbers_from (take k s) 0) first ∙ sym (only-line s (omega (arith, first, c.if-end-input.false)))

pub overflow_add-end : goal.overflow_add-end
overflow_add-end c =
    let first : c.part_end-end.result ≡ part_length 10 c.args.input.now = omega (arith, c.part_end-end.ensures) in
    omega (arith, first, part-within 10 c.args.input.now 0 (omega arith))
