-- What reading a log record answers where there is room for it. Assumes nothing.
use Rattle.std.proofs.Common.{◌≡◌, ℕ, ◌+◌, ◌≤◌, List, Some, length, drop, length-drop, arith}
use borrow.Author.Tests.{le-leb}
use Rattle.lists.specs.Tests.{pick}
use Rattle.spelling.specs.Reading.{record_at}
use Rattle.records.specs.Steps.{entry_at}

pub entry-here : (at : ℕ) (s : List ℕ) → at + 6 ≤ length s → entry_at s at ≡ Some (record { value = record_at (drop at s); next = at + 6 })
unfolding entry_at pick
entry-here at s h = let l : 6 ≤ length (drop at s) = rw length-drop (omega arith) in rw (le-leb 6 (length (drop at s)) l)
