-- What the code keeps on its walk: a cell for each number that a word's line can be. It is 0 if the line is named and has no edit yet; a named line's
-- edit is its code + 1, and a cell of a line that is not named stays 1. Assumes nothing.
use mathlib.Core.List.{List, [], ◌∷◌, map, foldl}
use Rattle.std.specs.Prelude.{Some}
use Rattle.std.specs.Prelude.{Bool, ℕ, zero, suc, ◌+◌, eqb, get_or, set, replicate}
use Rattle.lists.specs.Tests.{pick}
use Rattle.lists.specs.Padded.{padded}
use Rattle.protocol.specs.Entry.{line_of, code_of}
use Rattle.protocol.specs.Codes.{cell, edit_in}
use Rattle.runs.specs.Walk.{or_other, walk_back}
use Rattle.backward.specs.declared.Asked.{Asked}
use Rattle.backward.specs.declared.Walked.{Walked}

-- how many cells are 0
abbrev pub is_lacking : ℕ → ℕ
is_lacking zero = 1
is_lacking (suc edit) = 0

unfoldable pub lacking : List ℕ → ℕ
lacking [] = 0
lacking (x ∷ cells) = is_lacking x + lacking cells

-- the lines are named
abbrev pub naming : List ℕ → ℕ → List ℕ
naming cells line = set cells line 0

unfoldable pub named_cells : List ℕ → List ℕ
named_cells lines = foldl naming (replicate 256 1) lines

abbrev pub asked_of : List ℕ → Asked
asked_of lines = record { left = lacking (named_cells lines); cells = named_cells lines }

-- the word v is read, and how many edits it adds
abbrev pub is_first : List ℕ → ℕ → Bool
is_first cells v = eqb (get_or cells (line_of v) 0) 0

unfoldable pub edit_added : List ℕ → ℕ → List ℕ
edit_added cells v = pick (is_first cells v) (set cells (line_of v) (cell (Some (code_of v)))) cells

unfoldable pub new_edits : List ℕ → ℕ → ℕ
new_edits cells v = pick (is_first cells v) 1 0

-- "a value with 64 places; those past the named lines hold no edit yet"
abbrev pub placed : List ℕ → List ℕ
placed = padded 64 0

-- an edit as it is stored, or else the kept one
abbrev pub or_kept : ℕ → ℕ → ℕ
or_kept zero kept = kept
or_kept (suc edit) kept = suc edit

-- what the cells say of the lines, or else the kept codes
abbrev pub cells_at : List ℕ → List ℕ → List ℕ → List ℕ
cells_at codes cells lines = map (λ (line : ℕ). or_kept (get_or cells line 0) (get_or codes line 0)) lines

-- the answer of the walk: a line with no edit then has its kept code
unfoldable pub walked_of : List ℕ → List ℕ → List ℕ → Walked
walked_of entries lines codes = record { words = (walk_back lines entries).words; edits = placed (map cell (or_other (edit_in codes) lines (walk_back lines entries).frame)) }
