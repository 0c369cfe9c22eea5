-- "The code of the last entry for it in the settled log, or in the own path"; request (ix): where there is none, "'no edit yet' apart from a code".
-- Assumes nothing.
use Rattle.std.specs.Prelude.{◌≡◌, List, [], ◌∷◌, ℕ, ◌<◌, eqb, length, get_or}
use Rattle.std.specs.Prelude.{Option, None, Some}
use Rattle.lists.specs.Tests.{pick}
use Rattle.protocol.specs.Entry.{line_of, code_of}

-- the code of the last entry for the line; `before`, what stood before the log, where there is none
unfoldable pub edit_after : ℕ → Option ℕ → List ℕ → Option ℕ
edit_after line before [] = before
edit_after line before (v ∷ vs) = edit_after line (pick (eqb (line_of v) line) (Some (code_of v)) before) vs

-- what a frame shows for the line: a code, or none, which is "no edit yet"
abbrev pub last_edit : ℕ → List ℕ → Option ℕ
last_edit line log = edit_after line None log

-- an edit, or else another one
abbrev pub or_else : Option ℕ → Option ℕ → Option ℕ
or_else None other = other
or_else (Some code) other = Some code

-- the edit that the entry v is for the line
abbrev pub edit_by : ℕ → ℕ → Option ℕ
edit_by v line = pick (eqb (line_of v) line) (Some (code_of v)) None

-- What is claimed of it (proofs/Frames): it is none exactly if no entry of the log is for the line,
abbrev pub NoneFor : ℕ → List ℕ → Type 0
NoneFor line log = (place : ℕ) → place < length log → line_of (get_or log place 0) ≡ line → ⊥

-- and a code exactly if an entry is for the line and has that code, and no entry behind it is for the line
pub record LastFor (line : ℕ) (log : List ℕ) (code : ℕ) : Type 0 where
  pub place : ℕ
  pub there : place < length log
  pub its-line : line_of (get_or log place 0) ≡ line
  pub its-code : code_of (get_or log place 0) ≡ code
  pub last : (later : ℕ) → place < later → later < length log → line_of (get_or log later 0) ≡ line → ⊥
