-- A record's fields as the content of its message, what writing it answers and leaves, and what the writer requires. Assumes nothing.
use Rattle.std.specs.Prelude.{ℕ, ◌+◌, ◌<◌, ◌≤◌, true, List, ◌++◌, map, ◌≡◌, refl, Option, None, Some, ltb, length, take}
use Rattle.ballots.specs.Ballots.{tail_of, ballot_shape}
use Rattle.ballots.specs.declared.Ballot.{Ballot}
use Rattle.lists.specs.Tests.{all_b, pick}
use Rattle.lists.specs.Padded.{in_front}
use Rattle.protocol.specs.Limits.{length_limit}
use Rattle.spelling.specs.Content.{Content}
use Rattle.numbers.specs.Numbers.{bytes32, run}
use Rattle.spelling.specs.Spelling.{head_bytes, log_record, spelling}

-- the tails of the first n offices
unfoldable pub tails_of : ℕ → List Ballot → List (List ℕ)
tails_of n ballots = map tail_of (take n ballots)

-- what the message of a record says: the sender, n, its n weights, its dropped count, the entries that it holds, the n offices' tails
unfoldable pub content_of : ℕ → ℕ → List ℕ → ℕ → List ℕ → ℕ → List Ballot → Content
content_of sender n weights dropped log held ballots =
    record { sender = sender; n = n; weights = take n weights; dropped = dropped; log = take held log; tails = tails_of n ballots }

-- the message's bytes
abbrev pub message_of : ℕ → ℕ → List ℕ → ℕ → List ℕ → ℕ → List Ballot → List ℕ
message_of sender n weights dropped log held ballots = spelling (content_of sender n weights dropped log held ballots)

-- its head and its log records
abbrev pub front_bytes : ℕ → ℕ → List ℕ → ℕ → List ℕ → ℕ → List ℕ
front_bytes sender n weights dropped log held = head_bytes sender n (take n weights) (dropped + held) dropped ++ run log_record (take held log)

pub log_record-length : (v : ℕ) → length (log_record v) ≡ 6
unfolding log_record bytes32
log_record-length v = refl

-- what writing a message answers: its length, and none where the buffer is shorter
unfoldable pub written_length : List ℕ → List ℕ → Option ℕ
written_length message out = pick (ltb (length out) (length message)) None (Some (length message))

-- the buffer after it: the message, and "later bytes of the buffer keep their contents"; as it was where it is shorter than the message
unfoldable pub written_bytes : List ℕ → List ℕ → List ℕ
written_bytes message out = pick (ltb (length out) (length message)) out (in_front message out)

-- the answer, and the buffer after it
abbrev pub Writes : List ℕ → List ℕ → Option ℕ → List ℕ → Type 0
Writes message out answer after = (answer ≡ written_length message out) × (after ≡ written_bytes message out)

-- what the writer asks of its caller: every sound record has it
pub record Writable (sender n dropped : ℕ) (log : List ℕ) (ballots : List Ballot) : Type 0 where
  pub few-offices : n ≤ 8
  pub sender-below : sender < n
  pub held-few : length log ≤ 1024
  pub settled-few : dropped + length log ≤ length_limit
  pub shapes : all_b ballot_shape ballots ≡ true
