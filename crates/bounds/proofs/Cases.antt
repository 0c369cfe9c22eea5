-- Request (xii), computed on the definitions. Weights 40, 35, 25 are those of document 01's cases. Assumes nothing.
use mathlib.Core.Path.{◌≡◌, refl}
use mathlib.Core.List.{List, [], ◌∷◌}
use Rattle.std.specs.Prelude.{Option, None, Some}
use mathlib.Core.Bool.{true, false}
use Prim.Native.Nat.{ℕ}
use Rattle.lists.specs.Tests.{both}
use Rattle.protocol.specs.Vote.{Votes, tally, unheard, supported, wins}
use Rattle.protocol.specs.Office.{votes_of}
use Rattle.protocol.specs.Counts.{no_counts, counts_after, quieter_by, quieter}
use Rattle.protocol.proofs.Cases.{a, b, c, d, three}
use Rattle.bounds.specs.Bounds.{fits, worst, wins_worst, sure_winner}

-- the votes of three offices
abbrev voted : List ℕ → List ℕ → List ℕ → Votes
voted x y z = votes_of (x ∷ y ∷ z ∷ [])

abbrev all_three : Votes
all_three = voted (a ∷ []) (b ∷ []) (c ∷ [])

-- the entry that is named, behind a settled log
abbrev named : List ℕ → List ℕ → List ℕ → Votes → Option ℕ
named log low high v = sure_winner low high (quieter (no_counts 8) log) v

pub cases :
    -- bounds that meet: D and E of document 01
    (named [] (three 40 35 25) (three 40 35 25) all_three ≡ Some a) ×
    (named [] (three 50 50 0) (three 50 50 0) (voted (a ∷ []) (b ∷ []) []) ≡ Some a) ×
    -- a tie at the bound goes by the counts: with office 1's weight up to 40 it is a's behind an empty log and none's behind an entry of office 0
    (named [] (three 40 35 25) (three 40 40 25) all_three ≡ Some a) ×
    (named (d ∷ []) (three 40 35 25) (three 40 40 25) all_three ≡ None) ×
    (named (d ∷ []) (three 40 35 25) (three 40 39 25) all_three ≡ Some a) ×
    (named [] (three 40 35 25) (three 40 41 25) all_three ≡ None) ×
    -- its own supporters at their lowest
    (named [] (three 40 35 25) (three 50 40 25) all_three ≡ Some a) ×
    (named [] (three 39 35 25) (three 50 40 25) all_three ≡ None) ×
    -- the offices with no ballot at their highest
    (named [] (three 40 0 0) (three 50 20 20) (voted (a ∷ []) [] []) ≡ None) ×
    (named [] (three 41 0 0) (three 50 20 20) (voted (a ∷ []) [] []) ≡ Some a) ×
    -- all bounds 0 to 65535, one vote for all: "a total of zero counts as a choice"; from 1 on it is sure
    (named [] (three 0 0 0) (three 65535 65535 65535) (voted (a ∷ []) (a ∷ []) (a ∷ [])) ≡ None) ×
    (named [] (three 0 0 1) (three 65535 65535 65535) (voted (a ∷ []) (a ∷ []) (a ∷ [])) ≡ Some a) ×
    (named [] (three 0 0 0) (three 0 0 0) (voted (a ∷ []) (a ∷ []) (a ∷ [])) ≡ None) ×
    -- an entry that wins by the lowest weights and by the highest, and not by every choice
    (named [] (three 10 9 0) (three 20 19 0) (voted (a ∷ []) (b ∷ []) []) ≡ None) ×
    -- no votes
    (named [] (three 40 35 25) (three 40 35 25) (voted [] [] []) ≡ None) ×
    -- no lowest exceeds its highest
    (fits (three 40 35 25) (three 40 35 25) ≡ true) × (fits (three 40 36 25) (three 40 35 65535) ≡ false)
unfolding both counts_after quieter_by tally unheard supported wins fits worst wins_worst sure_winner
cases = (refl, refl, refl, refl, refl, refl, refl, refl, refl, refl, refl, refl, refl, refl, refl, refl, refl)
