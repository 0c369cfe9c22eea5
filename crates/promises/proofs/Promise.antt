-- The promise to the two users. The supervisor: "an edit shows in its office's tentative frame when made". The tabulator: the settled frame
-- is changed by no issue, done or refused. (Send hands back no record and writes no log; so only take and elect change a settled frame.)
--     edit-shows          after a done issue of (line, code), the line one of the frame, the tentative frame of the line shows the code
--     settled-stays       after any issue the settled frame of every line is as it was
-- Assumes nothing.
use mathlib.Core.Path.{◌≡◌, refl, sym, ap, ap₂, ◌∙◌}
use mathlib.Core.Bool.{Bool, true, false}
use mathlib.Core.List.{List, [], ◌∷◌, ◌++◌, append_assoc}
use Rattle.std.specs.Prelude.{Option, Some}
use Prim.Native.Nat.{ℕ, ◌<◌, ◌≤◌}
use native.Mathlib.Omega.{arith}
use lib.Dec.{eqb}
use lib.ListN.{length, get_or}
use lib.Seq.{get_or-set_same}
use borrow.Author.Tests.{eq-eqb, eqb-true, eqb-false}
use Rattle.lists.specs.Tests.{pick}
use Rattle.protocol.specs.Entry.{value, line_of, code_of}
use Rattle.protocol.specs.Office.{Office, tail, path}
use Rattle.protocol.specs.Issue.{with_issue}
use Rattle.protocol.specs.Codes.{of_cell}
use Rattle.protocol.specs.Folding.{FoldedOffice, with_folded_issue}
use Rattle.protocol.specs.Frames.{edit_after}
use Rattle.protocol_laws.proofs.Frames.{edit-append}
use Rattle.protocol_laws.proofs.Issue.{issue-done}
use Rattle.protocol_laws.proofs.Moves.{proper-true}
use Rattle.kept.specs.declared.Kept.{Kept}
use Rattle.frame.specs.State.{held_by, folded_by}
use Rattle.frame.specs.Soundness.{sound_b}
use Rattle.issuing.specs.Issuing.{issue_of}
use Rattle.both_frames.specs.Framed.{refused_frame}
use Rattle.both_frames.specs.Frames.{kept_edit, frame_of, shown_in, settled_frame_of, tentative_frame_of}
use Rattle.frame.specs.declared.Record.{Record}
use Rattle.frame.proofs.Sound.{sound-true}
use Rattle.both_frames.proofs.Shown.{frame-shown, shown-done}
use Rattle.frame.proofs.State.{folded-fine, kept-stays}
use Rattle.issuing.proofs.Issues.{issued_office, issue-made, issue-sound, issue-state, issue-kept, issue-keeps}

own-path : (k e : ℕ) (o : Office) → k < length o.tails → path (with_issue k e o) k ≡ path o k ++ (e ∷ [])
unfolding with_issue
own-path k e o h = ap (λ (t : List ℕ). o.log ++ t) (get_or-set_same o.tails k (tail o k ++ (e ∷ [])) [] h) ∙ sym (append_assoc o.log (tail o k) (e ∷ []))

last-issued : (office line code : ℕ) (before : Option ℕ) (p : List ℕ) → line ≤ 63 → code ≤ 9999 → edit_after line before (p ++ (value office line code ∷ [])) ≡ Some code
unfolding edit_after pick
last-issued office line code before p l c =
    let here : line_of (value office line code) ≡ line = omega arith in
    let shown : code_of (value office line code) ≡ code = omega arith in
    edit-append line before p (value office line code ∷ []) ∙
    ap (λ (b : Bool). pick b (Some (code_of (value office line code))) (edit_after line before p)) (eq-eqb (line_of (value office line code)) line here) ∙ ap Some shown

held-issued : (k e : ℕ) (f : FoldedOffice) → (with_folded_issue k e f).held ≡ with_issue k e f.held
unfolding with_folded_issue
held-issued k e f = refl

dropped-same : (k e : ℕ) (f : FoldedOffice) → (with_folded_issue k e f).dropped ≡ f.dropped
unfolding with_folded_issue
dropped-same k e f = refl

pub edit-shows : (r : Record) (words : List ℕ) (line code : ℕ) → line ≤ 63 → (issue_of r words line code).number ≡ 0
    → tentative_frame_of (issue_of r words line code).«record» words line ≡ record { number = 0; edit = Some code }
edit-shows r words line code low q =
    let D = issue-made r words line code q in
    let S = D.was in
    let H = S.head in
    let I = proper-true r.n line code (issue-done r.n r.own line code (folded_by r words) D.allowed).limits in
    let F = (folded-fine r words S).held in
    let e = value r.own line code in
    let r' = (issue_of r words line code).«record» in
    let own : r'.own ≡ r.own = ap (λ (x : Record). x.own) D.made in
    let state : held_by r' words ≡ with_issue r.own e (held_by r words) = ap (λ (f : FoldedOffice). f.held) (issue-state r words line code q) ∙ held-issued r.own e (folded_by r words) in
    let shown : path (held_by r' words) r'.own ≡ path (held_by r words) r.own ++ (e ∷ []) =
    ap₂ path state own ∙ own-path r.own e (held_by r words) (omega (arith, F.eight, H.member, H.most)) in
    sym (shown-done line (kept_edit r' line) (path (held_by r' words) r'.own) low (Some code)
    (sym (ap (λ (p : List ℕ). edit_after line (kept_edit r' line) p) shown ∙ last-issued r.own line code (kept_edit r' line) (path (held_by r words) r.own) low I.code_ok))
    ∙ frame-shown r' words line (path (held_by r' words) r'.own) (sound-true r' words (issue-sound r words line code q)))

frame_same : (r r' : Record) (words : List ℕ) (line : ℕ) (p p' : List ℕ) → sound_b r' words ≡ sound_b r words → kept_edit r' line ≡ kept_edit r line → p' ≡ p
    → frame_of r' words line p' ≡ frame_of r words line p
unfolding frame_of
frame_same r r' words line p p' s k e = λ i. pick (s i) (shown_in line (k i) (e i)) (refused_frame 1)

log-same : (k e : ℕ) (o : Office) → (with_issue k e o).log ≡ o.log
unfolding with_issue
log-same k e o = refl

pub settled-stays : (r : Record) (words : List ℕ) (line code at : ℕ) → settled_frame_of (issue_of r words line code).«record» words at ≡ settled_frame_of r words at
settled-stays r words line code at = go (eqb (issue_of r words line code).number 0) refl
  where
    go : (b : Bool) → eqb (issue_of r words line code).number 0 ≡ b → settled_frame_of (issue_of r words line code).«record» words at ≡ settled_frame_of r words at
    go true z =
        let q = eqb-true (issue_of r words line code).number 0 z in
        let D = issue-made r words line code q in
        frame_same r (issue_of r words line code).«record» words at (held_by r words).log (held_by (issue_of r words line code).«record» words).log
        (sound-true (issue_of r words line code).«record» words (issue-sound r words line code q) ∙ sym (sound-true r words D.was))
        (ap (λ (k : Kept). of_cell (get_or k.summary.codes at 0))
        (issue-kept r words line code q ∙ kept-stays r words D.was (issued_office r words line code) (dropped-same r.own (value r.own line code) (folded_by r words))))
        (ap (λ (f : FoldedOffice). f.held.log) (issue-state r words line code q)
        ∙ ap (λ (o : Office). o.log) (held-issued r.own (value r.own line code) (folded_by r words)) ∙ log-same r.own (value r.own line code) (held_by r words))
    go false z = ap (λ (x : Record). settled_frame_of x words at) (issue-keeps r words line code (eqb-false (issue_of r words line code).number 0 z))
