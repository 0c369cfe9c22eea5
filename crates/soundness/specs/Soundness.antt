-- "A record with its log is sound when all this holds, entries included." Said of the record's fields, since the record itself is declared in
-- a crate above. Assumes nothing.
use Rattle.std.specs.Prelude.{ℕ, ◌-◌, ◌≤◌, ◌≡◌, Bool, true, List, map, leb, length, take, drop}
use Rattle.lists.specs.Tests.{both, all_b}
use Rattle.protocol.specs.Entry.{is_entry}
use Rattle.protocol.specs.Limits.{head_fine, folded_fine, lengths_fine, Head, long_enough}
use Rattle.ballots.specs.Ballots.{ballot_shape, ballot_fine, is_no_ballot, office_in, tail_of}
use Rattle.ballots.specs.declared.Ballot.{Ballot}
use Rattle.summary.specs.Summary.{summary_after, same_summary}
use Rattle.summary.specs.declared.Summary.{Summary}
use Rattle.kept.specs.Kept.{kept_fine, KeptFacts}
use Rattle.kept.specs.declared.Kept.{Kept}
use Rattle.soundness.specs.Noted.{noted_fine, NotedFacts}

-- (xiv) how much of the settled length is undropped, and stands in the buffer
abbrev pub held_length : ℕ → ℕ → ℕ
held_length settled dropped = settled - dropped

-- the cells have their shape: the undropped words are there, and each ballot's unused cells are zero
unfoldable pub shaped : ℕ → List Ballot → List ℕ → Bool
shaped held ballots words = both (leb held (length words)) (all_b ballot_shape ballots)

-- (i) "present weights that don't follow from the log make a record unsound": they follow from what is kept of the dropped part, and the rest
unfoldable pub follows : Summary → Summary → ℕ → List ℕ → Bool
follows kept summary held words = same_summary summary (summary_after kept (take held words))

-- the log has room and the head is within the limits; (xiv) so is what is kept, no more is dropped than settled, and no noted length passes the
-- own; the cells have their shape, the office's state that they hold is within the limits with so many entries dropped, and what its log has
-- done is what the record says
unfoldable pub sound_fields : ℕ → ℕ → List ℕ → Kept → List ℕ → Summary → ℕ → List Ballot → List ℕ → Bool
sound_fields n own weights kept noted summary settled ballots words =
    both (long_enough words)
    (both (head_fine n own weights)
    (both (kept_fine n weights kept)
    (both (leb kept.dropped settled)
    (both (noted_fine n own settled noted)
    (both (shaped (held_length settled kept.dropped) ballots words)
    (both (folded_fine n kept.dropped (office_in words (held_length settled kept.dropped) ballots))
    (follows kept.summary summary (held_length settled kept.dropped) words)))))))

-- the same as facts by name, ballot by ballot
pub record SoundFields (n own : ℕ) (weights : List ℕ) (k : Kept) (l : List ℕ) (summary : Summary) (settled : ℕ) (ballots : List Ballot) (words : List ℕ) : Type 0 where
  pub room : 1024 ≤ length words
  pub head : Head n own weights
  pub kept : KeptFacts n weights k
  pub within : k.dropped ≤ settled
  pub noted : NotedFacts n own settled l
  pub most : held_length settled k.dropped ≤ 1024
  pub entries : all_b (is_entry n) (take (held_length settled k.dropped) words) ≡ true
  pub lengths : lengths_fine settled (map tail_of ballots) ≡ true
  pub done : summary ≡ summary_after k.summary (take (held_length settled k.dropped) words)
  pub eight : length ballots ≡ 8
  pub fine : all_b (ballot_fine n (held_length settled k.dropped)) ballots ≡ true
  pub rest : all_b is_no_ballot (drop n ballots) ≡ true
