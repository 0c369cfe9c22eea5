-- "The log is walked once, backward from p": word by word, until each line named has its edit. Assumes nothing.
use Rattle.std.specs.Prelude.{List, [], ◌∷◌, map, Bool, not, ℕ, zero, suc, ◌+◌, length, get_or}
use Rattle.std.specs.Prelude.{Option, None}
use Rattle.lists.specs.Tests.{pick, all_b}
use Rattle.protocol.specs.Vote.{is_none}
use Rattle.protocol.specs.Frames.{or_else, edit_by}

-- what was read: the edit of each line named, and how many words
pub record FrameRead : Type 0 where
  pub frame : List (Option ℕ)
  pub words : ℕ

-- a line with no edit yet has what `other` says of it
abbrev pub or_other : (ℕ → Option ℕ) → List ℕ → List (Option ℕ) → List (Option ℕ)
or_other other [] os = []
or_other other (line ∷ lines) [] = []
or_other other (line ∷ lines) (o ∷ os) = or_else o (other line) ∷ or_other other lines os

-- the word v is read: a line with no edit yet has v's code if v is for it
abbrev pub with_word : ℕ → List ℕ → List (Option ℕ) → List (Option ℕ)
with_word v = or_other (edit_by v)

abbrev pub answered : List (Option ℕ) → Bool
answered os = all_b (λ (o : Option ℕ). not (is_none o)) os

-- what was read, behind k words more
abbrev pub behind : ℕ → FrameRead → FrameRead
behind k w = record { frame = w.frame; words = k + w.words }

-- back from place i, with the edits os so far
unfoldable pub walk : ℕ → List ℕ → List ℕ → List (Option ℕ) → FrameRead
walk zero lines entries os = record { frame = os; words = 0 }
walk (suc i) lines entries os = pick (answered os) (record { frame = os; words = 0 }) (behind 1 (walk i lines entries (with_word (get_or entries i 0) lines os)))

-- back from the end of the entries; (xiv) "its walk stops at" the dropped part, which is before the first of them
abbrev pub walk_back : List ℕ → List ℕ → FrameRead
walk_back lines entries = walk (length entries) lines entries (map (λ (line : ℕ). None) lines)
