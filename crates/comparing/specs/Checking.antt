-- The number of a take by the two logs alone, on "the part both still have", and how many places that needed. Assumes nothing.
use Rattle.std.specs.Prelude.{List, ℕ, ◌+◌, ◌-◌, ltb, length, drop}
use Rattle.lists.specs.Tests.{pick}
use Rattle.protocol.specs.Beginning.{comparable}
use Rattle.shared_places.specs.FromEnd.{compares, places_from_end}
use Rattle.std.specs.Prelude.{Result, Ok, Err}
use Rattle.refusals.specs.Refusals.{number_of}
use Rattle.comparing.specs.declared.Refused.{Refused}

-- the number of a take, and how many places the comparison of the logs needed
pub record Checked : Type 0 where
  pub number : ℕ
  pub places : ℕ

-- both of an answer: 0 is the number of a take that is done
abbrev pub checked_in : Result ℕ Refused → Checked
checked_in (Ok places) = record { number = 0; places = places }
checked_in (Err r) = record { number = number_of r.refusal; places = r.places }

-- 16: "the message's log begins past the receiver's length"; 17: "it ends inside the receiver's dropped part"; 10: logs that are not comparable on
-- "the part both still have". Of an office's log behind `dropped` entries, and of a message's behind `other`
unfoldable pub logs_refusal : ℕ → List ℕ → ℕ → List ℕ → ℕ
logs_refusal dropped log other theirs =
    pick (ltb (dropped + length log) other) 16
    (pick (ltb (other + length theirs) dropped) 17
    (pick (comparable (drop (other - dropped) log) (drop (dropped - other) theirs)) 0 10))

-- a number, and how many places the comparison of the logs needed: "0 on any refusal but 10"
unfoldable pub checked_by : ℕ → ℕ → List ℕ → ℕ → List ℕ → Checked
checked_by number dropped log other theirs = record {
  number = number;
  places = pick (compares number) (places_from_end (drop (other - dropped) log) (drop (dropped - other) theirs)) 0;
}

-- both of them by the logs alone
abbrev pub checked_logs : ℕ → List ℕ → ℕ → List ℕ → Checked
checked_logs dropped log other theirs = checked_by (logs_refusal dropped log other theirs) dropped log other theirs
