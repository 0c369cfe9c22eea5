-- Why the code isn't held; or the last edit in the own tail, behind it.
use borrow.Author.Rules.{rules}
use native.Mathlib.Omega.{arith}
use mathlib.Core.Path.{◌≡◌, refl, sym, ap, ◌∙◌}
use mathlib.Core.List.{List, ◌++◌}
use Rattle.std.specs.Prelude.{Err}
use Prim.Native.Nat.{ℕ}
use Rattle.ballots.specs.Ballots.{tail_of}
use Rattle.ballots.proofs.Laws.{Fine}
use Rattle.frame.specs.State.{held_length, held_by, own_ballot}
use Rattle.frame.proofs.Sound.{sound}
use Rattle.frame.proofs.State.{tail_at, own-fine}
use Rattle.protocol.specs.Frames.{edit_after}
use Rattle.both_frames.specs.Framed.{framed_of}
use Rattle.both_frames.specs.Frames.{kept_edit}
use Rattle.both_frames.proofs.Shown.{frame-shown, shown-done, stored-code, behind-shown, held-is, held-refused}
use Rattle.both_frames.proofs.tentative_frame.Goals as goal

pub returns-in_err-base : goal.returns-in_err-base
returns-in_err-base c =
    let e : c.from_residual.result ≡ Err c.in_err-base.field-0.0 = search rules in
    ap framed_of e ∙ held-refused _ _ _ _ (sym c.code_held.ensures ∙ c.in_err-base.was) _

pub offset_bounds-office-office : goal.offset_bounds-office-office
offset_bounds-office-office c =
    let h = held-is c.args.office c.args.log.now c.args.line c.in_ok-base.base (sym c.code_held.ensures ∙ c.in_ok-base.was) in
    let S = sound _ _ h.0 in omega arith

pub bounds-office-office : goal.bounds-office-office
bounds-office-office c =
    let h = held-is c.args.office c.args.log.now c.args.line c.in_ok-base.base (sym c.code_held.ensures ∙ c.in_ok-base.was) in
    let S = sound _ _ h.0 in omega arith

pub shared_ref_as_front-last_edit : goal.shared_ref_as_front-last_edit
shared_ref_as_front-last_edit c =
    let h = held-is c.args.office c.args.log.now c.args.line c.in_ok-base.base (sym c.code_held.ensures ∙ c.in_ok-base.was) in
    let r = c.args.office in
    let F : Fine r.n (held_length r) (own_ballot r) = own-fine _ _ (sound _ _ h.0) _ refl in omega arith

pub returns : goal.returns
returns c = let a = c.args in
    let r = a.office in
    let h = held-is r a.log.now a.line c.in_ok-base.base (sym c.code_held.ensures ∙ c.in_ok-base.was) in
    let x = (held_by r a.log.now).log in
    let before = kept_edit r a.line in
    shown-done a.line before _ h.1.0 _
    (c.stored_edit.ensures ∙ behind-shown a.line before _ _ x (tail_of (own_ballot r)) (h.1.1 ∙ stored-code r a.log.now (sound _ _ h.0) a.line h.1.0) c.last_edit-last.ensures ∙
    ap (λ (t : List ℕ). edit_after a.line before (x ++ t)) (sym (tail_at r a.log.now r.own)))
    ∙ frame-shown _ _ a.line _ h.0
