-- Why the code isn't held, or what it says.
use borrow.Author.Rules.{rules}
use mathlib.Core.Path.{◌≡◌, sym, ap, ◌∙◌}
use Rattle.std.specs.Prelude.{Err}
use Rattle.frame.proofs.Sound.{sound}
use Rattle.shown_edits.specs.Shown.{stored_edit}
use Rattle.both_frames.specs.Framed.{framed_of}
use Rattle.both_frames.proofs.Shown.{frame-shown, shown-done, stored-shown, held-is, held-refused}
use Rattle.both_frames.proofs.settled_frame.Goals as goal

pub returns-in_err-code : goal.returns-in_err-code
returns-in_err-code c =
    let e : c.from_residual.result ≡ Err c.in_err-code.field-0.0 = search rules in
    ap framed_of e ∙ held-refused _ _ _ _ (sym c.code_held.ensures ∙ c.in_err-code.was) _

pub returns : goal.returns
returns c =
    let line = c.args.line in
    let h = held-is c.args.office c.args.log.now line c.in_ok-code.code (sym c.code_held.ensures ∙ c.in_ok-code.was) in
    shown-done line _ _ h.1.0 _ (c.stored_edit.ensures ∙ ap stored_edit h.1.1 ∙ stored-shown _ _ (sound _ _ h.0) line h.1.0) ∙ frame-shown _ _ line _ h.0
