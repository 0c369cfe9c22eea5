-- An office's log and ballots beside a message that was read, and what a take makes of them. Assumes nothing.
use Rattle.std.specs.Prelude.{ℕ, ◌+◌, ◌-◌, ◌*◌, ◌<◌, ◌≤◌, ◌≡◌, true, List, [], map, ltb, length, take, drop}
use Rattle.std.proofs.lemmas.List.Edits.{sets}
use Rattle.lists.specs.Tests.{pick}
use Rattle.protocol.specs.Beginning.{comparable}
use Rattle.protocol.specs.Office.{Office}
use Rattle.protocol.specs.Take.{with_take}
use Rattle.protocol.specs.Folding.{FoldedOffice, caught_up, from_there}
use Rattle.ballots.specs.declared.Ballot.{Ballot}
use Rattle.ballots.specs.Ballots.{tail_of, ballot_of, office_in}
use Rattle.readings.specs.declared.Reading.{Reading}
use Rattle.acceptance.specs.Acceptance.{packet_in}
use Rattle.summary.specs.Summary.{summary_after}
use Rattle.elections.specs.declared.State.{State}
use Rattle.kept.specs.Kept.{kept_after, Roomy}
use Rattle.kept.specs.declared.Kept.{Kept}
use Rattle.intake.specs.declared.Intaken.{Intaken}

-- the office that takes it: its noted lengths are not looked at
abbrev pub folded_in : List ℕ → State → Kept → FoldedOffice
folded_in words s kept = record { dropped = kept.dropped; held = office_in words s.held s.ballots; noted = [] }

-- the office's state after it took the message: "take first drops what the message's sender had dropped"
abbrev pub taken_in : List ℕ → State → Kept → ℕ → List ℕ → Reading → Office
taken_in words s kept own rest m = with_take own (from_there (packet_in rest m) (folded_in words s kept)) (caught_up (packet_in rest m) (folded_in words s kept))

-- what holds a state that a take made: what the log had done, and the entries behind it
abbrev pub merged_of : State → Office → State
merged_of s o = record { summary = summary_after s.summary (drop s.held o.log); held = length o.log; ballots = map ballot_of o.tails }

-- the state when the first k entries of its log are dropped: they have done what they have done
abbrev pub without : ℕ → State → State
without k s = record { summary = s.summary; held = s.held - k; ballots = s.ballots }

-- what take makes of the state and of what is kept
abbrev pub intaken_of : List ℕ → State → Kept → ℕ → List ℕ → Reading → Intaken
intaken_of words s kept own rest m = record {
  state = merged_of (without (m.dropped - kept.dropped) s) (taken_in words s kept own rest m);
  kept = kept_after kept (take (m.dropped - kept.dropped) (take s.held words));
}

-- the office's state after it took a message whose log begins where the own one does
abbrev pub aligned_take : List ℕ → State → ℕ → List ℕ → ℕ → List Ballot → Office
aligned_take words s own theirs sender offers = with_take own (record { sender = sender; state = record { log = theirs; tails = map tail_of offers } }) (office_in words s.held s.ballots)

-- "if the message's log extends the settled log, the record writes the missing entries from its own length onward": the held length
-- and the log's words after that
unfoldable pub caught_length : ℕ → List ℕ → ℕ
caught_length held log = pick (ltb held (length log)) (length log) held

unfoldable pub caught_words : List ℕ → ℕ → List ℕ → List ℕ
caught_words words held log = pick (ltb held (length log)) (sets words held (drop held log)) words

-- what the work on an accepted message asks, where its log begins as the own one does
pub record Aligned (words : List ℕ) (s : State) (theirs : List ℕ) (sender : ℕ) (offers : List Ballot) : Type 0 where
  pub sender-below : sender < 8
  pub held-within : s.held ≤ length words
  pub theirs-within : length theirs ≤ length words
  pub compared : comparable (take s.held words) theirs ≡ true
  pub tails : map ballot_of (map tail_of s.ballots) ≡ s.ballots
  pub eight : length offers ≡ 8
  pub offers-tails : map ballot_of (map tail_of offers) ≡ offers

-- and where it begins elsewhere: every sound record with such a message has it
pub record Ready (words : List ℕ) (s : State) (kept : Kept) (rest : List ℕ) (m : Reading) : Type 0 where
  pub sender-below : m.sender < 8
  pub held-within : s.held ≤ length words
  pub theirs-within : m.held ≤ length words
  pub records-within : 6 * m.held ≤ length rest
  pub begins-within : m.dropped ≤ kept.dropped + s.held
  pub ends-past : kept.dropped ≤ m.dropped + m.held
  pub compared : comparable (caught_up (packet_in rest m) (folded_in words s kept)).log (from_there (packet_in rest m) (folded_in words s kept)).state.log ≡ true
  pub held : map ballot_of (map tail_of s.ballots) ≡ s.ballots
  pub theirs-eight : length m.ballots ≡ 8
  pub theirs-held : map ballot_of (map tail_of m.ballots) ≡ m.ballots
  pub room : Roomy kept (m.dropped - kept.dropped)
