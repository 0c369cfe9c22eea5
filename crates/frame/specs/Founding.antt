-- "Found takes n, own office, eight weights, log." Assumes nothing.
use Rattle.std.specs.Prelude.{ℕ, List}
use Rattle.lists.specs.Tests.{pick}
use Rattle.protocol.specs.Limits.{head_fine, long_enough, found_number}
use Rattle.frame.specs.State.{fresh_record, zero_record}
use Rattle.frame.specs.declared.founding.Founded.{Founded}

-- "all-zero record" where it is refused
unfoldable pub found_of : ℕ → ℕ → List ℕ → List ℕ → Founded
found_of n own ws words = record {
  number = found_number n own ws words;
  «record» = pick (long_enough words) (pick (head_fine n own ws) (fresh_record n own ws) zero_record) zero_record;
}
