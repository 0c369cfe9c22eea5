-- Request (x): "Revision work reads the frame as it stood after the first p settled entries, for up to 64 lines together." (xiv) "its walk stops at"
-- the dropped part "and uses the kept codes". Assumes nothing.
use Rattle.std.specs.Prelude.{Bool, List, ℕ, ◌-◌, leb, length, take}
use Rattle.lists.specs.Tests.{both, pick}
use Rattle.protocol.specs.Codes.{no_codes}
use Rattle.runs.specs.Runs.{of_frame, edits_of, shortest_run}
use Rattle.backward.specs.Cells.{placed}
use Rattle.frame.specs.State.{held_by}
use Rattle.frame.specs.Soundness.{sound_b}
use Rattle.frame.specs.declared.Record.{Record}
use Rattle.earlier.specs.declared.Earlier.{Earlier}

-- the first p settled entries, without the dropped ones
abbrev pub first_of : Record → List ℕ → ℕ → List ℕ
first_of r words p = take (p - r.kept.dropped) (held_by r words).log

-- the last edit in them of each line named, or else the kept one, and "the length of the shortest run ending at p that has an edit for each named
-- line", or (xiv) "p less the dropped count where no undropped run has every named line"
abbrev pub earlier_done : Record → List ℕ → ℕ → List ℕ → Earlier
earlier_done r words p lines = record { number = 0; words = shortest_run lines (first_of r words p); edits = placed (edits_of lines r.kept.summary.codes (first_of r words p)) }

-- "A refusal answers 'no edit yet' throughout and 0 words"
abbrev pub earlier_refused : ℕ → Earlier
earlier_refused number = record { number = number; words = 0; edits = no_codes }

-- (xiv) "a p below the dropped count is 13"; "13 when p is above the settled length or more than 64 lines are named"
unfoldable pub readable : Record → ℕ → List ℕ → Bool
readable r p lines = both (leb r.kept.dropped p) (both (leb p r.settled) (leb (length lines) 64))

-- 1; 3 when a line named, also among more than 64, is not one of the frame; 13, "after numbers 1 and 3"
unfoldable pub earlier_of : Record → List ℕ → ℕ → List ℕ → Earlier
earlier_of r words p lines =
    pick (sound_b r words) (pick (of_frame lines) (pick (readable r p lines) (earlier_done r words p lines) (earlier_refused 13)) (earlier_refused 3)) (earlier_refused 1)
