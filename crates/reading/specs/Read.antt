-- What reading a message answers, as the struct holds it; and the test of its log. Assumes nothing.
use Rattle.std.specs.Prelude.{ℕ, Bool, List, map, length}
use Rattle.std.specs.Prelude.{Option, None, Some}
use Rattle.ballots.specs.declared.Ballot.{Ballot}
use Rattle.ballots.specs.Ballots.{ballot_of}
use Rattle.lists.specs.Tests.{both, all_b}
use Rattle.protocol.specs.Entry.{is_entry}
use Rattle.numbers.specs.Numbers.{run_at, run_ok}
use Rattle.spelling.specs.Content.{Content, eight_tails}
use Rattle.spelling.specs.Spelling.{head_size}
use Rattle.spelling.specs.Reading.{record_here, record_at}
use Rattle.readings.specs.declared.Reading.{Reading}
use Rattle.message_heads.specs.Heads.{eight_weights}

-- k log records stand there, whose values are entries for n offices
unfoldable pub log_within : List ℕ → ℕ → ℕ → Bool
log_within s n k = both (run_ok 6 record_here k s) (all_b (is_entry n) (run_at 6 record_at k s))

-- the tails of n offices as eight ballots
unfoldable pub ballots_of : ℕ → List (List ℕ) → List Ballot
ballots_of n ts = map ballot_of (eight_tails n ts)

-- what the reading of a message says that says c; the undropped entries stay in it, six bytes each after the head
abbrev pub read_as : Content → Reading
read_as c =
    record {
      sender = c.sender;
      n = c.n;
      weights = eight_weights c.n c.weights;
      dropped = c.dropped;
      held = length c.log;
      head = head_size c.n;
      ballots = ballots_of c.n c.tails;
    }

-- what a message says. Bytes that are no message: nothing
unfoldable pub reading_of : Option Content → Option Reading
reading_of None = None
reading_of (Some c) = Some (read_as c)
