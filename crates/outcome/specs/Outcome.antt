-- What became of an edit: "a call on the record before and after a take, elect or fold at one office, and the log after it". What it tells of the own
-- tail is defined in `pending`; here is where that tail, the log and the own path stand in the two records. Assumes nothing.
use Rattle.std.specs.Prelude.{Bool, List, ℕ, ◌-◌, eqb, leb, drop}
use Rattle.lists.specs.Tests.{both, pick, same}
use Rattle.protocol.specs.Office.{path}
use Rattle.ballots.specs.Ballots.{tail_of, ballots_fine}
use Rattle.own_entries.specs.Parts.{settled_part, pending_part, lost_part, entries_of}
use Rattle.own_entries.specs.Told.{Telling, told_of, told_words, told_refused}
use Rattle.frame.specs.State.{held_length, held_by, own_ballot}
use Rattle.frame.specs.Soundness.{sound_b}
use Rattle.frame.specs.declared.Record.{Record}
use Rattle.outcome.specs.declared.Outcome.{Outcome}

-- the own tail before the call
abbrev pub tail_before : Record → List ℕ
tail_before before = tail_of (own_ballot before)

-- the place where it began, in the log without what was dropped since
abbrev pub place_in : Record → Record → ℕ
place_in before after = before.settled - after.kept.dropped

-- the settled log and the own path after the call, from there on
abbrev pub log_since : Record → Record → List ℕ → List ℕ
log_since before after words = drop (place_in before after) (held_by after words).log

abbrev pub path_since : Record → Record → List ℕ → List ℕ
path_since before after words = drop (place_in before after) (path (held_by after words) before.own)

-- ── of "the own office's entries that were pending" ──
abbrev pub settled_entries : Record → Record → List ℕ → List ℕ
settled_entries before after words = entries_of before.own (settled_part (tail_before before) (log_since before after words))

abbrev pub pending_entries : Record → Record → List ℕ → List ℕ
pending_entries before after words = entries_of before.own (pending_part (tail_before before) (log_since before after words) (path_since before after words))

abbrev pub lost_entries : Record → Record → List ℕ → List ℕ
lost_entries before after words = entries_of before.own (lost_part (tail_before before) (path_since before after words))

-- ── the call ──
-- `after` could follow `before`, as far as can be told without the log that `before` had: the offices, the own one and the founding weights are the
-- same; the settled length has not become less, and no call drops what was not settled before it; the undropped length and the ballots of `before` are
-- within their limits
unfoldable pub follows : Record → Record → Bool
follows before after =
    both (eqb before.n after.n)
    (both (eqb before.own after.own)
    (both (same before.weights after.weights)
    (both (leb before.settled after.settled)
    (both (leb after.kept.dropped before.settled)
    (both (leb before.kept.dropped before.settled)
    (both (leb (held_length before) 1024)
    (ballots_fine before.n (held_length before) before.ballots)))))))

-- the two records and the log are those that can be reported on: the record after the call is sound with its log, and follows the one before
unfoldable pub reportable : Record → Record → List ℕ → Bool
reportable before after words = both (sound_b after words) (follows before after)

abbrev pub outcome_is : Telling → Outcome
outcome_is told = record { number = told.number; settled = told.settled; pending = told.pending; lost = told.lost }

-- 1, "then 6"; "what is refused answers zeros and no rows"
unfoldable pub report_of : Record → Record → List ℕ → List ℕ → Outcome
report_of before after words rest =
    outcome_is (pick (reportable before after words)
    (told_of before.own (tail_before before) (log_since before after words) (path_since before after words) rest) (told_refused 1))

-- "and leaves the buffer"
unfoldable pub report_words : Record → Record → List ℕ → List ℕ → List ℕ
report_words before after words rest = pick (reportable before after words) (told_words before.own (tail_before before) (log_since before after words) rest) rest
