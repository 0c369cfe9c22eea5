-- The calls' promises and the answer's.
use mathlib.Core.Path.{◌≡◌, refl, sym, ap, ◌∙◌}
use Prim.Native.Nat.{ℕ}
use Rattle.std.specs.Prelude.{Option, None, Result, Ok, Err}
use Rattle.std.specs.Result.{result_unwrap_or}
use Rattle.refusals.specs.declared.Refusal.{Refusal}
use Rattle.rehearsal_turns.proofs.Turning.{viewed-turn}
use Rattle.rehearsal_replies.specs.Answers.{says_frames}
use Rattle.both_frames.specs.Framed.{framed_of}
use Rattle.rehearsal_turns.proofs.view_turn.Goals.{in-Ok, in-Err}
use Rattle.rehearsal_turns.proofs.view_turn.Goals as goal

-- a refused frame shows no edit
edit_shown : (framed : Result (Option ℕ) Refusal) → result_unwrap_or framed None ≡ (framed_of framed).edit
edit_shown (Ok edit) = refl
edit_shown (Err refusal) = refl

abbrev number_shown : Result (Option ℕ) Refusal → ℕ
number_shown framed = (framed_of framed).number

pub returns : goal.returns
returns c =
    let a = c.args in
    let s = c.settled_frame-settled.result in
    let t = c.tentative_frame-tentative.result in
    let number : c.match-settled.number ≡ number_shown s =
    elim c.match-settled.branch [
      | in-Ok w ↦ w.number-is ∙ ap number_shown (sym w.in-Ok.is)
      | in-Err w ↦ w.number-is ∙ w.number-number.ensures ∙ ap number_shown (sym w.in-Err.is)
    ] in
    let same : c.match-settled.settled ≡ s = elim c.match-settled.branch [ in-Ok w ↦ w.settled-is | in-Err w ↦ w.settled-is ∙ sym w.in-Err.is ] in
    let now = c.unwrap_or.ensures ∙ ap (λ (x : Result (Option ℕ) Refusal). result_unwrap_or x None) same ∙ edit_shown s in
    let soon = c.unwrap_or-2.ensures ∙ edit_shown t in
    viewed-turn a.record a.lengths a.log.now c.says_frames-answer.result a.line (framed_of s) (framed_of t) c.settled_frame-settled.ensures
    c.tentative_frame-tentative.ensures (c.says_frames-answer.ensures ∙ λ i. says_frames 118 (number i) (now i) (soon i))
