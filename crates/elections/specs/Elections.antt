-- What takes and elections change of a record, the office that it holds with a log's words, and what an election step makes of both. Assumes nothing.
use Rattle.std.specs.Prelude.{ℕ, ◌+◌, ◌≤◌, ◌≡◌, true, List, map, length, take, drop, set}
use Rattle.std.specs.Prelude.{Option}
use Rattle.lists.specs.Tests.{all_b}
use Rattle.protocol.specs.Entry.{is_entry}
use Rattle.protocol.specs.Counts.{quieter_by}
use Rattle.protocol.specs.Vote.{winner}
use Rattle.protocol.specs.Office.{Office, votes}
use Rattle.protocol.specs.Elect.{lose, next}
use Rattle.ballots.specs.Ballots.{tail_of, ballot_of, ballot_fine, is_no_ballot, office_in}
use Rattle.summary.specs.Summary.{summary_next}
use Rattle.elections.specs.declared.State.{State}

-- the office that a state and a log's words hold
abbrev pub held_in : State → List ℕ → Office
held_in s words = office_in words s.held s.ballots

-- what a step asks: a state of n offices within the limits, in words with room
pub record Steppable (n : ℕ) (s : State) (words : List ℕ) : Type 0 where
  pub room : 1024 ≤ length words
  pub few : n ≤ 8
  pub most : s.held ≤ 1024
  pub entries : all_b (is_entry n) (take s.held words) ≡ true
  pub eight : length s.ballots ≡ 8
  pub fine : all_b (ballot_fine n s.held) s.ballots ≡ true
  pub rest : all_b is_no_ballot (drop n s.ballots) ≡ true

-- the entry that wins, if any, by the present weights and these counts
abbrev pub winner_in : List ℕ → State → List ℕ → Option ℕ
winner_in counts s words = winner s.summary.present (quieter_by counts) (votes (held_in s words))

-- the state with entry e settled: "the length rises by one"
abbrev pub settled_by : State → ℕ → State
settled_by s e = record { summary = summary_next s.summary e; held = s.held + 1; ballots = map ballot_of (map (lose e) (map tail_of s.ballots)) }

-- one step
unfoldable pub step_of : List ℕ → State → List ℕ → State
step_of counts s words = next (winner_in counts s words) s (settled_by s)

-- "the winner is written to the log"
unfoldable pub step_words : List ℕ → State → List ℕ → List ℕ
step_words counts s words = next (winner_in counts s words) words (set words s.held)
