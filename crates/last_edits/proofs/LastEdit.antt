-- Walks of `edit_after`, from the end.
--     word-here, word-past, no-word     the last word is for the line, or it is not, or there is none
-- Assumes nothing.
use mathlib.Core.Path.{◌≡◌, refl, ap, ◌∙◌}
use mathlib.Core.Bool.{true, false}
use mathlib.Core.List.{List, [], ◌∷◌, ◌++◌}
use Rattle.std.specs.Prelude.{Option, Some}
use Prim.Native.Nat.{ℕ}
use native.Mathlib.Omega.{arith}
use lib.Dec.{eqb}
use lib.ListN.{length}
use Rattle.lists.specs.Tests.{pick}
use Rattle.lists.proofs.Tests.{pick_true, pick-false}
use Rattle.protocol.specs.Entry.{line_of, code_of}
use Rattle.protocol.specs.Frames.{edit_after}
use Rattle.protocol_laws.proofs.Frames.{edit-append}

-- a walk of `edit_after` from the end: the last word is for the line, or the words before it give the edit
module _ (line : ℕ) (before : Option ℕ) (front : List ℕ) (word : ℕ) where
  last_of : edit_after line before (front ++ (word ∷ [])) ≡ pick (eqb (line_of word) line) (Some (code_of word)) (edit_after line before front)
  unfolding edit_after
  last_of = edit-append line before front (word ∷ [])

  pub word-here : (words : List ℕ) → words ≡ front ++ (word ∷ []) → eqb (line_of word) line ≡ true → edit_after line before words ≡ Some (code_of word)
  word-here words w e = ap (edit_after line before) w ∙ last_of ∙ pick_true _ _ _ e

  pub word-past : (words : List ℕ) → words ≡ front ++ (word ∷ []) → eqb (line_of word) line ≡ false → edit_after line before words ≡ edit_after line before front
  word-past words w e = ap (edit_after line before) w ∙ last_of ∙ pick-false _ _ _ e

-- no word is left
pub no-word : (line : ℕ) (before : Option ℕ) (words : List ℕ) → length words ≡ 0 → edit_after line before words ≡ before
unfolding edit_after
no-word line before [] e = refl
no-word line before (x ∷ words) e = absurd (omega arith)
