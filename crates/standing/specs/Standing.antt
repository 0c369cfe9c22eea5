-- "How the next place stands .. A call on a record: for each supported entry its T, and U, and which offices are unheard." By the ballots, the
-- present weights and the election rule's own T and U. What is claimed of it stands in `Claims`. Assumes nothing.
use Rattle.std.specs.Prelude.{ℕ, List, replicate}
use Rattle.lists.specs.Tests.{pick}
use Rattle.protocol.specs.Vote.{Votes, unheard}
use Rattle.protocol.specs.Office.{votes}
use Rattle.lists.specs.Padded.{in_eight}
use Rattle.rows.specs.Rows.{rows_of, marks}
use Rattle.rows.specs.declared.Rows.{Rows}
use Rattle.frame.specs.State.{held_by}
use Rattle.frame.specs.Soundness.{sound_b}
use Rattle.frame.specs.declared.Record.{Record}
use Rattle.standing.specs.declared.Standing.{Standing}

-- rows, U, and which of the first n of eight offices are silent
abbrev pub standing_with : Rows → ℕ → List ℕ → Standing
standing_with rows u silent = record { number = 0; rows = rows.count; unheard = u; entries = rows.entries; tallies = rows.tallies; silent = silent }

-- by the weights ws of n offices and the votes v
abbrev pub standing_by : ℕ → List ℕ → Votes → Standing
standing_by n ws v = standing_with (rows_of ws v) (unheard ws v) (in_eight (marks n v))

-- 1: "what is refused answers zeros and no rows"
abbrev pub refused : Standing
refused = record { number = 1; rows = 0; unheard = 0; entries = replicate 8 0; tallies = replicate 8 0; silent = replicate 8 0 }

-- "present weights", and the ballots' votes
unfoldable pub standing_of : Record → List ℕ → Standing
standing_of r words = pick (sound_b r words) (standing_by r.n r.summary.present (votes (held_by r words))) refused
