-- The votes that eight ballots cast, and the parts of an election step by the paper's rule. Assumes nothing.
use Rattle.std.specs.Prelude.{ℕ, ◌≤◌, ◌≡◌, Bool, true, List, [], get_or, drop}
use Rattle.std.specs.Prelude.{Option, None, Some}
use Rattle.lists.specs.Tests.{all_b}
use Rattle.protocol.specs.Vote.{Votes, is_none, tally, unheard, and-also, beats_all}
use Rattle.protocol.specs.Office.{first}
use Rattle.ballots.specs.Ballots.{tail_of}
use Rattle.ballots.specs.declared.Ballot.{Ballot}

-- "each non-empty ballot supports its first tail entry"
abbrev pub cast : Ballot → Option ℕ
cast b = first (tail_of b)

-- the votes of eight offices; there are none past them
abbrev pub votes_in : List (Option ℕ) → Votes
votes_in xs k = get_or xs k None

-- the offices from place n on, of eight, cast no vote
abbrev pub SilentFrom : ℕ → List (Option ℕ) → Type 0
SilentFrom n xs = (n ≤ 8) × (all_b is_none (drop n xs) ≡ true)

-- T of an entry, U of no vote
abbrev pub weight_for : List ℕ → Votes → Option ℕ → ℕ
weight_for ws v None = unheard ws v
weight_for ws v (Some e) = tally ws v e

-- e against the entry that is voted for, if that is another, in any order `before` in which ties go
abbrev pub beats_vote : (ℕ → ℕ → Bool) → List ℕ → Votes → ℕ → Option ℕ → Bool
beats_vote before ws v e x = beats_all ws before v e (and-also x [])
