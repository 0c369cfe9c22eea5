-- What is claimed of how the next place stands. The theorems are in proofs/Claims:
--     shows            (r : Record) (words : List ℕ) → (standing_of r words).number ≡ 0 → Shows r words (standing_of r words)
--     decides          (r : Record) (words : List ℕ) → (standing_of r words).number ≡ 0 → Decides r words (standing_of r words)
--     one-vote-more    (r s : Record) (words words' : List ℕ) (k e : ℕ)
--                          → (standing_of r words).number ≡ 0 → (standing_of s words').number ≡ 0 → OneVoteMore r words s words' k e
--                          → Adds (standing_of r words) (standing_of s words') k e (weight_of r.summary.present k)
--     same_log         (r s : Record) (words words' : List ℕ) → (standing_of r words).number ≡ 0 → (standing_of s words').number ≡ 0
--                          → r.kept ≡ s.kept → (held_by r words).log ≡ (held_by s words').log → r.summary.present ≡ s.summary.present
--     ballot-heard     (r : Record) (words : List ℕ) (k e : ℕ) (b : Ballot) (t : List ℕ)
--                          → k < r.n → (get_or r.ballots k off_end).len ≡ 0 → tail_of b ≡ e ∷ t
--                          → (standing_of r words).number ≡ 0 → (standing_of (with_ballot r k b) words).number ≡ 0
--                          → Adds (standing_of r words) (standing_of (with_ballot r k b) words) k e (weight_of r.summary.present k)
--     refused-zeros    (r : Record) (words : List ℕ) → ((standing_of r words).number ≡ 0 → ⊥) → standing_of r words ≡ refused
-- Assumes nothing.
use Rattle.std.specs.Prelude.{◌≡◌, ◌↔◌, List, cond, ℕ, ◌+◌, ◌<◌, ◌≤◌, get_or, set}
use Rattle.std.specs.Prelude.{None, Some}
use Rattle.lists.specs.Tests.{times}
use Rattle.protocol.specs.Limits.{total}
use Rattle.protocol.specs.Office.{votes}
use Rattle.protocol.specs.Vote.{Votes, is_none, tally, unheard}
use Rattle.ballots.specs.declared.Ballot.{Ballot}
use Rattle.frame.specs.State.{held_length, held_by, with_ballots}
use Rattle.frame.specs.Electing.{tie_order, winner_of, elect_of, elect_words}
use Rattle.frame.specs.declared.Record.{Record}
use Rattle.standing.specs.Leader.{rows_in, entries_in, weights_in, weight_in, joint_weight, leader}
use Rattle.standing.specs.declared.Standing.{Standing}

-- office k's vote: "each non-empty ballot supports its first tail entry"
abbrev pub vote_of : Record → List ℕ → Votes
vote_of r words = votes (held_by r words)

-- ── "these are the T and U of the winning rule (present weights, ..)" ──
pub record Shows (r : Record) (words : List ℕ) (s : Standing) : Type 0 where
  -- each entry that the ballot of one of the n offices supports has one row, and no other has any
  pub once : (e : ℕ) → times e (entries_in (rows_in s)) ≤ 1
  pub supports : (e : ℕ) → (times e (entries_in (rows_in s)) ≡ 1) ↔ ((k : ℕ) × (k < r.n) × (vote_of r words k ≡ Some e))
  -- its row has its T; an entry with no row has none
  pub weighs : (e : ℕ) → weight_in e (rows_in s) ≡ tally r.summary.present (vote_of r words) e
  pub missing : s.unheard ≡ unheard r.summary.present (vote_of r words)
  -- the rows and U make up the total
  pub adds-up : total (weights_in (rows_in s)) + s.unheard ≡ total r.weights
  -- the marked offices are those of the n that have no ballot, and U is their weight
  pub silent-is : (k : ℕ) → k < r.n → get_or s.silent k 0 ≡ cond (is_none (vote_of r words k)) 1 0
  pub silent-weighs : joint_weight r.summary.present s.silent ≡ s.unheard
  -- there are at most n rows; past the rows, and past the n offices, there are zeros
  pub few : s.rows ≤ r.n
  pub past-rows : (i : ℕ) → s.rows ≤ i → (get_or s.entries i 0 ≡ 0) × (get_or s.tallies i 0 ≡ 0)
  pub past-offices : (k : ℕ) → r.n ≤ k → get_or s.silent k 0 ≡ 0

-- ── "the entry that wins by them is the one that elect would settle first, or none" ──
-- with "ties as they are now"
pub record Decides (r : Record) (words : List ℕ) (s : Standing) : Type 0 where
  pub winner : leader (tie_order r words) s ≡ winner_of r words
  -- where no entry wins by the rows, elect settles nothing
  pub nothing : leader (tie_order r words) s ≡ None → (elect_of r words).count ≡ 0
  -- where one does, elect settles it, and writes it first
  pub first : (e : ℕ) → leader (tie_order r words) s ≡ Some e → (1 ≤ (elect_of r words).count) × (get_or (elect_words r words) (held_length r) 0 ≡ e)

-- ── "at the same settled log, a vote of an office that had none adds its present weight to one row, or makes one, and takes it from U" ──
-- two records of n offices at one settled log, so with the same present weights (law `same_log`); office k has no ballot in the first and one
-- for e in the second, and every other office votes alike
pub record OneVoteMore (r : Record) (words : List ℕ) (s : Record) (words' : List ℕ) (k e : ℕ) : Type 0 where
  pub offices : r.n ≡ s.n
  pub weights : r.summary.present ≡ s.summary.present
  pub member : k < r.n
  pub unvoted : vote_of r words k ≡ None
  pub voted : vote_of s words' k ≡ Some e
  pub others : (j : ℕ) → (j ≡ k → ⊥) → vote_of s words' j ≡ vote_of r words j

-- the second answer is the first with weight w more in the row of e, and less in U, and office k no longer silent
pub record Adds (s s' : Standing) (k e w : ℕ) : Type 0 where
  pub row : weight_in e (rows_in s') ≡ weight_in e (rows_in s) + w
  pub has-row : times e (entries_in (rows_in s')) ≡ 1
  pub other-rows : (f : ℕ) → (f ≡ e → ⊥)
      → (weight_in f (rows_in s') ≡ weight_in f (rows_in s)) × (times f (entries_in (rows_in s')) ≡ times f (entries_in (rows_in s)))
  pub missing : s'.unheard + w ≡ s.unheard
  pub silent-office : (get_or s.silent k 0 ≡ 1) × (get_or s'.silent k 0 ≡ 0)
  pub other-offices : (j : ℕ) → (j ≡ k → ⊥) → get_or s'.silent j 0 ≡ get_or s.silent j 0

-- the record with another ballot of office k
abbrev pub with_ballot : Record → ℕ → Ballot → Record
with_ballot r k b = with_ballots r (set r.ballots k b)
