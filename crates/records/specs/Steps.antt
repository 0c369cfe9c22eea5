-- What reading one record of a message answers: whether it stands at the position, what it says, and the position after it. Assumes nothing.
use Rattle.std.specs.Prelude.{ℕ, ◌+◌, List, Option, None, Some, leb, drop, length}
use Rattle.lists.specs.Tests.{pick}
use Rattle.spelling.specs.Reading.{record_here, record_at, end_ok}
use Rattle.records.specs.declared.LogStep.{LogStep}

-- the log record at a position
unfoldable pub log_at : List ℕ → ℕ → Option LogStep
log_at s at = pick (record_here (drop at s)) (Some (record { value = record_at (drop at s); next = at + 6 })) None

-- the log record at a position, by the room for it; the mark is not tested
unfoldable pub entry_at : List ℕ → ℕ → Option LogStep
entry_at s at = pick (leb 6 (length (drop at s))) (Some (record { value = record_at (drop at s); next = at + 6 })) None

-- the end at a position, "then nothing": the position after it
unfoldable pub end_at : List ℕ → ℕ → Option ℕ
end_at s at = pick (end_ok (drop at s)) (Some (at + 2)) None
