-- The edit of a line, from the end of the entries.
--     some-edits      there is an edit exactly where an entry is for the line
--     edits-front     entries in front of a run that has an edit for each line change none
-- Assumes nothing.
use mathlib.Core.Path.{◌≡◌, refl, sym, ap, ap₂, ◌∙◌}
use mathlib.Core.List.{List, [], ◌∷◌, ◌++◌, map}
use Rattle.std.specs.Prelude.{Option, None, Some}
use mathlib.Core.Bool.{Bool, true, false, not, ◌||◌, true≢false}
use Prim.Native.Nat.{ℕ}
use lib.Dec.{eqb}
use Rattle.lists.specs.Tests.{pick, all_b}
use Rattle.lists.proofs.Tests.{both-0, both-1}
use Rattle.protocol.specs.Entry.{line_of, code_of}
use Rattle.protocol.specs.Vote.{is_none}
use Rattle.protocol.specs.Frames.{edit_after, last_edit, or_else}
use Rattle.protocol_laws.proofs.Frames.{edit-append, edit-behind, edit-cons}
use Rattle.runs.specs.Runs.{edits, edits_all}

some-pick : (t : Bool) (code : ℕ) (o : Option ℕ) → not (is_none (or_else o (pick t (Some code) None))) ≡ (t || not (is_none o))
unfolding pick
some-pick true code None = refl
some-pick true code (Some c) = refl
some-pick false code None = refl
some-pick false code (Some c) = refl

pub some-edits : (line : ℕ) (l : List ℕ) → not (is_none (last_edit line l)) ≡ edits line l
unfolding edit_after edits
some-edits line [] = refl
some-edits line (v ∷ l) =
    ap (λ (o : Option ℕ). not (is_none o)) (edit-cons line v l) ∙ some-pick (eqb (line_of v) line) (code_of v) (last_edit line l)
    ∙ ap (λ (t : Bool). eqb (line_of v) line || t) (some-edits line l)

or_some : (o p : Option ℕ) → not (is_none o) ≡ true → or_else o p ≡ o
or_some None p e = absurd (true≢false (sym e))
or_some (Some c) p e = refl

pub edits-front : (lines x y : List ℕ) → edits_all lines y ≡ true → map (λ (line : ℕ). last_edit line (x ++ y)) lines ≡ map (λ (line : ℕ). last_edit line y) lines
unfolding all_b
edits-front [] x y e = refl
edits-front (line ∷ lines) x y e = ap₂ (λ (o : Option ℕ) (os : List (Option ℕ)). o ∷ os)
    (edit-append line None x y ∙ edit-behind line (last_edit line x) y ∙ or_some (last_edit line y) (last_edit line x) (some-edits line y ∙ both-0 _ _ e))
    (edits-front lines x y (both-1 _ _ e))
