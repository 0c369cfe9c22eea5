-- What request (x) claims of an answer that is done. The theorem is `done` in proofs/Claims.antt; that a refusal answers no edit yet throughout and 0
-- words, that it is 1, 3 or 13, and that the edits are those of the dropped entries too where they left the kept codes (`whole`), stand there as laws
-- of their own. Assumes nothing.
use Rattle.std.specs.Prelude.{◌≡◌, Bool, List, ℕ, ◌-◌, ◌≤◌, ◌<◌, length, get_or, drop}
use Rattle.runs.specs.Runs.{edits_all, Shortest}
use Rattle.shown_edits.specs.Shown.{stored_edit}
use Rattle.both_frames.specs.Frames.{frame_of, settled_frame_of}
use Rattle.frame.specs.declared.Record.{Record}
use Rattle.both_frames.specs.Framed.{Framed}
use Rattle.earlier.specs.Earlier.{first_of, earlier_of}

-- what the answer shows at place i
abbrev pub shown_at : Record → List ℕ → ℕ → List ℕ → ℕ → Framed
shown_at r words p lines i = record { number = 0; edit = stored_edit (get_or (earlier_of r words p lines).edits i 0) }

-- the undropped run of length s that ends at p has "an edit for each named line"
abbrev pub run_edits : Record → List ℕ → ℕ → List ℕ → ℕ → Bool
run_edits r words p lines s = edits_all lines (drop (p - r.kept.dropped - s) (first_of r words p))

pub record Claims (r : Record) (words : List ℕ) (p : ℕ) (lines : List ℕ) : Type 0 where
  -- it is for a p of the settled log, not inside its dropped part, and at most 64 lines
  pub past-dropped : r.kept.dropped ≤ p
  pub within : p ≤ r.settled
  pub few : length lines ≤ 64
  -- for each line named, in their order, the settled frame of the first p entries: by the kept codes and the undropped ones of them
  pub frames : (i : ℕ) → i < length lines → shown_at r words p lines i ≡ frame_of r words (get_or lines i 0) (first_of r words p)
  -- which is the settled frame where p is the settled length
  pub settled : p ≡ r.settled → (i : ℕ) → i < length lines → shown_at r words p lines i ≡ settled_frame_of r words (get_or lines i 0)
  -- no edit yet past the lines
  pub past : (i : ℕ) → length lines ≤ i → get_or (earlier_of r words p lines).edits i 0 ≡ 0
  -- the words read are "the length of the shortest run ending at p that has an edit for each named line", or "p less the dropped count where no
  -- undropped run has every named line"
  pub read : Shortest (p - r.kept.dropped) (run_edits r words p lines) (earlier_of r words p lines).words
