-- "Settled frame and tentative frame take a line and answer the code of the last entry for it in the settled log, or in the own path"; request (ix):
-- "no edit yet" where there is none, and where the call is refused. The entries that were dropped are known by the codes that are kept of them.
-- Assumes nothing.
use Rattle.std.specs.Prelude.{ℕ, List, leb, get_or}
use Rattle.std.specs.Prelude.{Option, Result, Ok, Err}
use Rattle.lists.specs.Tests.{pick}
use Rattle.protocol.specs.Office.{path}
use Rattle.protocol.specs.Frames.{edit_after}
use Rattle.protocol.specs.Codes.{edit_in, no_codes, codes_after}
use Rattle.frame.specs.State.{held_by}
use Rattle.frame.specs.Soundness.{sound_b}
use Rattle.frame.specs.declared.Record.{Record}
use Rattle.refusals.specs.declared.Refusal.{Refusal}
use Rattle.refusals.specs.declared.Refusal.TheVariants.{Unsound, NoEntry}
use Rattle.both_frames.specs.Framed.{Framed, refused_frame}
use Rattle.both_frames.specs.declared.Lines.{Lines}

-- the last edit of a line among the dropped entries
abbrev pub kept_edit : Record → ℕ → Option ℕ
kept_edit r line = edit_in r.kept.summary.codes line

-- of the entries p, behind what stood before them
unfoldable pub shown_in : ℕ → Option ℕ → List ℕ → Framed
shown_in line before p = pick (leb line 63) (record { number = 0; edit = edit_after line before p }) (refused_frame 3)

-- of the dropped entries and p
unfoldable pub frame_of : Record → List ℕ → ℕ → List ℕ → Framed
frame_of r words line p = pick (sound_b r words) (shown_in line (kept_edit r line) p) (refused_frame 1)

abbrev pub settled_frame_of : Record → List ℕ → ℕ → Framed
settled_frame_of r words line = frame_of r words line (held_by r words).log

abbrev pub tentative_frame_of : Record → List ℕ → ℕ → Framed
tentative_frame_of r words line = frame_of r words line (path (held_by r words) r.own)

-- the code that the record holds for a line, as it is stored; or why a frame of the line is refused
abbrev pub code_held : Record → List ℕ → ℕ → Result ℕ Refusal
code_held r words line = pick (sound_b r words) (pick (leb line 63) (Ok (get_or r.summary.codes line 0)) (Err NoEntry)) (Err Unsound)

-- (ii) "one new frame call answers all 64 lines after one such walk", as they are stored; refused, no edit yet for each
unfoldable pub all_lines_of : Record → List ℕ → Lines
all_lines_of r words = pick (sound_b r words) (record { number = 0; codes = codes_after r.kept.summary.codes (held_by r words).log }) (record { number = 1; codes = no_codes })
