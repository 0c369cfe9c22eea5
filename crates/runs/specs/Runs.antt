-- Request (x): "That number is the length of the shortest run ending at p that has an edit for each named line, or p if no run has." Those of the
-- first p entries that are not dropped (xiv) are the list `entries` here, so a run that ends at p is its end. Assumes nothing.
use Rattle.std.specs.Prelude.{◌≡◌, Bool, true, false, ◌||◌, ◌⊎◌, ◌↔◌, ℕ, zero, suc, ◌-◌, ◌≤◌, ◌<◌, eqb, leb, length, drop}
use mathlib.Core.List.{List, [], ◌∷◌, map, Memᴰ}
use Rattle.lists.specs.Tests.{pick, all_b}
use Rattle.protocol.specs.Entry.{line_of}
use Rattle.protocol.specs.Codes.{cell, edit_in}
use Rattle.protocol.specs.Frames.{edit_after}

-- every line named is one of the frame
abbrev pub of_frame : List ℕ → Bool
of_frame lines = all_b (λ (line : ℕ). leb line 63) lines

-- up to 64 lines of the frame
pub record Named (lines : List ℕ) : Type 0 where
  pub few : length lines ≤ 64
  pub each : of_frame lines ≡ true

-- "reads the frame as it stood": the last edit of each line named, in their order, as it is stored; (xiv) it "uses the kept codes" where the entries
-- have none
abbrev pub edits_of : List ℕ → List ℕ → List ℕ → List ℕ
edits_of lines codes entries = map (λ (line : ℕ). cell (edit_after line (edit_in codes line) entries)) lines

-- the run of length r
abbrev pub run_of : ℕ → List ℕ → List ℕ
run_of r entries = drop (length entries - r) entries

-- it "has an edit" for the line
unfoldable pub edits : ℕ → List ℕ → Bool
edits line [] = false
edits line (v ∷ run) = eqb (line_of v) line || edits line run

-- "an edit for each named line"
abbrev pub edits_all : List ℕ → List ℕ → Bool
edits_all lines run = all_b (λ (line : ℕ). edits line run) lines

abbrev pub run_has : List ℕ → List ℕ → ℕ → Bool
run_has lines entries r = edits_all lines (run_of r entries)

-- the least of 0, 1, .. p that has what is asked, or p
unfoldable pub least_up_to : ℕ → (ℕ → Bool) → ℕ
least_up_to zero has = 0
least_up_to (suc p) has = pick (has 0) 0 (suc (least_up_to p (λ (r : ℕ). has (suc r))))

-- the words to be read
abbrev pub shortest_run : List ℕ → List ℕ → ℕ
shortest_run lines entries = least_up_to (length entries) (run_has lines entries)

-- What is claimed of it (proofs/Runs): r is "the length of the shortest run" that has what is asked, "or p if no run has"
pub record Shortest (p : ℕ) (has : ℕ → Bool) (r : ℕ) : Type 0 where
  pub within : r ≤ p
  pub shorter : (s : ℕ) → s < r → has s ≡ false
  pub found : (has r ≡ true) ⊎ ((r ≡ p) × ((s : ℕ) → s ≤ p → has s ≡ false))

-- the same lines, however often and in whatever order
abbrev pub SameLines : List ℕ → List ℕ → Type 0
SameLines lines others = (line : ℕ) → Memᴰ line lines ↔ Memᴰ line others
