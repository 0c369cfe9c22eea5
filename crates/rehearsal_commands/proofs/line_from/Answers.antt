-- The first field's number, then those of the fields behind it.
use native.Mathlib.Omega.{arith}
use mathlib.Core.Path.{◌≡◌, sym, ◌∙◌}
use lib.Seq.{length-take-le}
use Rattle.text_parts.specs.Parts.{part_length}
use Rattle.text_parts.proofs.Ends.{part-short}
use Rattle.decimal.proofs.Walks.{number-within}
use Rattle.rehearsal_commands.specs.Command.{with_more}
use Rattle.rehearsal_commands.proofs.Lines.{line_step}
use Rattle.rehearsal_commands.proofs.line_from.Goals as goal

pub slice_bounds-number_of-end : goal.slice_bounds-number_of-end
slice_bounds-number_of-end c =
    let s = c.args.rest.now in
    sym (length-take-le c.part_end-end.result s (omega (arith, c.part_end-end.ensures, part-short 32 s)))

pub returns-in_default : goal.returns-in_default
returns-in_default c =
    let a = c.args in
    let end : c.part_end-end.result ≡ part_length 32 a.rest.now = omega (arith, c.part_end-end.ensures) in
    sym (line_step a.letter a.rest.now _ end ∙ rw (sym c.in_default.ensures))

pub overflow_add-end : goal.overflow_add-end
overflow_add-end c = omega (arith, c.part_end-end.ensures, part-short 32 c.args.rest.now)

pub returns-in_default-numbers_from : goal.returns-in_default-numbers_from
unfolding with_more
returns-in_default-numbers_from c =
    let a = c.args in
    let end : c.part_end-end.result ≡ part_length 32 a.rest.now = omega (arith, c.part_end-end.ensures) in
    sym (line_step a.letter a.rest.now _ end ∙ rw (sym c.in-Some.ensures, sym c.in_default-numbers_from.ensures))

pub overflow_cast-first : goal.overflow_cast-first
overflow_cast-first c = omega (arith, number-within 65535 _ _ (sym c.in-Some.ensures))

pub returns : goal.returns
unfolding with_more
returns c =
    let a = c.args in
    let end : c.part_end-end.result ≡ part_length 32 a.rest.now = omega (arith, c.part_end-end.ensures) in
    c.command_by.ensures ∙ sym (line_step a.letter a.rest.now _ end ∙ rw (sym c.in-Some.ensures, sym c.in-Some-numbers_from.ensures))
