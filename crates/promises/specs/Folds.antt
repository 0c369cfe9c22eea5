-- Request (xiv), folding the old part of the log: what is claimed of every fold. The theorems are in proofs/Folds:
--     drops-known    (r : Record) (words : List ℕ) → (fold_of r words).number ≡ 0 → DropsKnown r words
--     fold-shows     (r : Record) (words : List ℕ) → ShowsSame r words
--     fold-twice     (r : Record) (words : List ℕ) → DropsNoMore r words
-- The last two are of every record, since a refused fold leaves it. Assumes nothing.
use Rattle.std.specs.Prelude.{◌≡◌, List, ℕ, ◌+◌, ◌<◌, ◌≤◌, get_or}
use Rattle.both_frames.specs.Frames.{settled_frame_of, tentative_frame_of, all_lines_of}
use Rattle.folding.specs.Folding.{fold_of, fold_words}
use Rattle.frame.specs.declared.Record.{Record}

-- the record after fold
abbrev pub folded : Record → List ℕ → Record
folded r words = (fold_of r words).«record»

-- every office is known to have so many entries: the own one by its settled length, each other one by the noted length
abbrev pub Known : Record → ℕ → Type 0
Known r len = (len ≤ r.settled) × ((j : ℕ) → j < r.n → (j ≡ r.own → ⊥) → len ≤ get_or r.noted j 0)

-- "The whole first part of the log that every office is known to have is dropped by a call, which answers how many entries went"
pub record DropsKnown (r : Record) (words : List ℕ) : Type 0 where
  pub went : (folded r words).kept.dropped ≡ r.kept.dropped + (fold_of r words).count
  -- what goes is known, and no longer part is
  pub known : 0 < (fold_of r words).count → Known r (folded r words).kept.dropped
  pub whole : (len : ℕ) → Known r len → len ≤ (folded r words).kept.dropped

-- nothing that the office shows is changed by a fold
pub record ShowsSame (r : Record) (words : List ℕ) : Type 0 where
  pub settled-frame : (line : ℕ) → settled_frame_of (folded r words) (fold_words r words) line ≡ settled_frame_of r words line
  pub tentative-frame : (line : ℕ) → tentative_frame_of (folded r words) (fold_words r words) line ≡ tentative_frame_of r words line
  pub all_lines : all_lines_of (folded r words) (fold_words r words) ≡ all_lines_of r words
  -- dropped entries included
  pub settled-length : (folded r words).settled ≡ r.settled

-- a second fold drops nothing, and changes nothing
pub record DropsNoMore (r : Record) (words : List ℕ) : Type 0 where
  pub none-goes : fold_of (folded r words) (fold_words r words) ≡ record { «record» = folded r words; number = (fold_of r words).number; count = 0 }
  pub words-stay : fold_words (folded r words) (fold_words r words) ≡ fold_words r words
