-- The test of a message's head, and what the head says. Assumes nothing.
use Rattle.std.specs.Prelude.{ℕ, ◌-◌, Bool, List, ◌++◌, Option, None, Some, leb, drop, replicate}
use Rattle.ballots.specs.declared.Ballot.{Ballot}
use Rattle.ballots.specs.Ballots.{no_ballot}
use Rattle.lists.specs.Tests.{both, pick}
use Rattle.protocol.specs.Limits.{is_office}
use Rattle.numbers.specs.Numbers.{be16, run_at}
use Rattle.spelling.specs.Spelling.{head_size}
use Rattle.spelling.specs.Reading.{head_ok, sender_at, count_at, dropped_at, held_at}
use Rattle.readings.specs.declared.Reading.{Reading}

-- the head is of the layout, and its fields are within the limits: "the 1024 limit then covers what is undropped"
unfoldable pub head_within : List ℕ → Bool
head_within s = both (head_ok s) (both (is_office (count_at s) (sender_at s)) (leb (held_at s) 1024))

-- the weights of n offices, and zeros up to the eighth
unfoldable pub eight_weights : ℕ → List ℕ → List ℕ
eight_weights n ws = ws ++ replicate (8 - n) 0

-- what the head of a message says, beside these ballots
abbrev pub head_said : List ℕ → List Ballot → Reading
head_said s ballots =
    record {
      sender = sender_at s;
      n = count_at s;
      weights = eight_weights (count_at s) (run_at 2 be16 (count_at s) (drop 4 s));
      dropped = dropped_at s;
      held = held_at s;
      head = head_size (count_at s);
      ballots = ballots;
    }

-- the reading of the head alone: no ballots yet; nothing where it is not within the limits
unfoldable pub head_reading : List ℕ → Option Reading
head_reading s = pick (head_within s) (Some (head_said s (replicate 8 no_ballot))) None
