-- Request (ix), a line no one has coded: what is claimed of every record, and of every founding. The theorems are in proofs/Edits:
--     settled-shows      (r : Record) (words : List ℕ) → sound_b r words ≡ true → ShowsEdits (settled_edit r words) (kept_edit r) (held_by r words).log
--     tentative-shows    (r : Record) (words : List ℕ) → sound_b r words ≡ true → ShowsEdits (tentative_edit r words) (kept_edit r) (path (held_by r words) r.own)
--     lines-show         (r : Record) (words : List ℕ) → sound_b r words ≡ true → ShowsEdits (line_edit r words) (kept_edit r) (held_by r words).log
--     stored-shows       (r : Record) (words : List ℕ) → sound_b r words ≡ true → ShowsEdits (stored_at r) (kept_edit r) (held_by r words).log
--     founded-none       (n own : ℕ) (ws words : List ℕ) (line : ℕ) → stored_at (found_of n own ws words).record line ≡ None
-- A founding that is refused is among those of the last. Assumes nothing.
use Rattle.std.specs.Prelude.{◌≡◌, List, ◌⊎◌, ◌↔◌, ℕ, ◌≤◌, get_or}
use Rattle.std.specs.Prelude.{Option, None, Some}
use Rattle.protocol.specs.Frames.{NoneFor, LastFor}
use Rattle.shown_edits.specs.Shown.{stored_edit}
use Rattle.both_frames.specs.Frames.{settled_frame_of, tentative_frame_of, all_lines_of}
use Rattle.frame.specs.declared.Record.{Record}

-- what is shown for a line: by the two frames, by the call for all lines, and by the codes that the record holds
abbrev pub settled_edit : Record → List ℕ → ℕ → Option ℕ
settled_edit r words line = (settled_frame_of r words line).edit

abbrev pub tentative_edit : Record → List ℕ → ℕ → Option ℕ
tentative_edit r words line = (tentative_frame_of r words line).edit

abbrev pub line_edit : Record → List ℕ → ℕ → Option ℕ
line_edit r words line = stored_edit (get_or (all_lines_of r words).codes line 0)

abbrev pub stored_at : Record → ℕ → Option ℕ
stored_at r line = stored_edit (get_or r.summary.codes line 0)

-- for every line of the frame, behind what is kept of the dropped entries (xiv): no edit yet is shown exactly if none is kept and no entry is for the
-- line, and a code exactly if the last entry for the line has it, or none is for the line and it is kept
abbrev pub ShowsEdits : (ℕ → Option ℕ) → (ℕ → Option ℕ) → List ℕ → Type 0
ShowsEdits shown kept entries = (line : ℕ) → line ≤ 63
    → ((shown line ≡ None) ↔ ((kept line ≡ None) × NoneFor line entries))
    × ((code : ℕ) → (shown line ≡ Some code) ↔ (LastFor line entries code ⊎ ((kept line ≡ Some code) × NoneFor line entries)))
