-- What reading an office's ballot answers: whether it is of the layout, what it says, and the position after it. Assumes nothing.
use Rattle.std.specs.Prelude.{ℕ, ◌+◌, List, Option, None, Some, drop}
use Rattle.ballots.specs.Ballots.{ballot_of}
use Rattle.lists.specs.Tests.{pick}
use Rattle.spelling.specs.Reading.{ballot_ok, tail_at, size_at}
use Rattle.ballot_records.specs.declared.BallotStep.{BallotStep}

-- the ballot of office o at a position; no entries where another record stands there, and nothing where it is not of the layout
unfoldable pub ballot_at : List ℕ → ℕ → ℕ → Option BallotStep
ballot_at s at o =
    pick (ballot_ok (drop at s) o)
    (Some (record { next = at + size_at (drop at s) o; ballot = ballot_of (tail_at (drop at s) o) }))
    None
