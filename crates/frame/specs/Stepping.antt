-- The election step on a record: what it asks, and what it makes of the record and its log's words. Assumes nothing.
use Rattle.std.specs.Prelude.{ℕ, ◌<◌, ◌≤◌, List}
use Rattle.elections.specs.Elections.{Steppable, step_of, step_words}
use Rattle.frame.specs.State.{state_in, with_state}
use Rattle.frame.specs.declared.Record.{Record}

-- what a step asks of a record and its words: a state within the limits, no more dropped than settled, and a settled length that can rise by one
pub record Stepping (r : Record) (words : List ℕ) : Type 0 where
  pub limits : Steppable r.n (state_in r) words
  pub within : r.kept.dropped ≤ r.settled
  pub more : r.settled < 18446744073709551615

-- one election step by these counts: the record with the state that follows, and the log's words
abbrev pub step_in : List ℕ → Record → List ℕ → Record
step_in counts r words = with_state r (step_of counts (state_in r) words)

abbrev pub step_words_in : List ℕ → Record → List ℕ → List ℕ
step_words_in counts r words = step_words counts (state_in r) words
