-- Frame's answer says whether the record is sound, the sums whether the bytes are households; the lines pooled by their codes are the sheet.
use mathlib.Core.Path.{sym, ap, ◌∙◌}
use borrow.Author.Rules.{rules}
use native.Mathlib.Omega.{arith}
use Rattle.both_frames.specs.declared.Lines.{Lines}
use Rattle.numbers.specs.Numbers.{Bytes}
use Rattle.households.specs.Households.{households_in}
use Rattle.tabulation.specs.Cells.{rows_of}
use Rattle.tabulation.specs.Sheet.{sheet_by}
use Rattle.sheet.proofs.Made.{sound-of, unsound-of, sheet-unsound, sheet-no-households, sheet-made, no-sums, some-sums, lines-sheet, lines_fit}
use Rattle.sheet.proofs.household_sheet.Goals as goal

pub returns-then-lines-ne0 : goal.returns-then-lines-ne0
returns-then-lines-ne0 c =
    let number = ap (λ (l : Lines). l.number) c.all_lines-lines.ensures in
    c.refused.ensures ∙ sheet-unsound _ _ _ (unsound-of _ _ (λ e. c.if-lines-ne0.true (number ∙ e)))

pub returns-in_default : goal.returns-in_default
returns-in_default c =
    let sound = sound-of _ _ (sym (ap (λ (l : Lines). l.number) c.all_lines-lines.ensures) ∙ c.if-lines-ne0.false) in
    c.refused-in_default.ensures ∙ sheet-no-households _ _ _ sound (no-sums _ c.in_default.ensures)

pub tabulate-count-requires : goal.tabulate-count-requires
tabulate-count-requires c =
    let bytes = c.args.bytes.now in
    let all : Bytes bytes = λ i. omega (arith, c.type_inv.bytes i) in
    lines_fit bytes c.all_lines-lines.result.codes (search rules) (some-sums bytes c.in-Some.ensures) all

pub returns : goal.returns
returns c =
    let bytes = c.args.bytes.now in
    let summed = some-sums bytes c.in-Some.ensures in
    let sound = sound-of _ _ (sym (ap (λ (l : Lines). l.number) c.all_lines-lines.ensures) ∙ c.if-lines-ne0.false) in
    sheet-made _ _ _ sound summed.are _ (c.tabulate-count.ensures
    ∙ ap rows_of (lines-sheet bytes c.all_lines-lines.result.codes (search rules) summed
    ∙ ap (λ (l : Lines). sheet_by l.codes (households_in bytes)) c.all_lines-lines.ensures))
