-- How the next place stands in document 01's cases A, B, D and H, and after a move of weight, computed on the definitions. Assumes nothing.
use mathlib.Core.Path.{◌≡◌, refl}
use mathlib.Core.List.{List, [], ◌∷◌}
use Rattle.std.specs.Prelude.{Option, None, Some}
use Prim.Native.Nat.{ℕ}
use Rattle.lists.specs.Tests.{both, pick}
use Rattle.protocol.specs.Entry.{value}
use Rattle.protocol.specs.Counts.{no_counts, counts_after, quieter, quieter_by}
use Rattle.protocol.specs.Elect.{settle}
use Rattle.protocol.specs.Limits.{is_weight}
use Rattle.protocol.specs.Moves.{is_move, can_shift, move, weights_after}
use Rattle.protocol.specs.Office.{Office, votes}
use Rattle.protocol.specs.Vote.{tally, unheard, supported}
use Rattle.protocol.proofs.Cases.{a, b, c, d, three, usual, state}
use Rattle.rows.specs.Rows.{without, distinct, row_entries, rows_of, marks}
use Rattle.standing.specs.Standing.{standing_by}
use Rattle.standing.specs.Leader.{paired, leader}
use Rattle.standing.specs.declared.Standing.{Standing}

-- an answer about three offices: how many rows, U, three entries with their T, and three marks
abbrev says : ℕ → ℕ → List ℕ → List ℕ → List ℕ → Standing
says rows u entries tallies silent = record { number = 0; rows = rows; unheard = u; entries = entries; tallies = tallies; silent = silent }

-- by the founding weights ws, the answer, and the entry that wins by it
abbrev Stands : List ℕ → Office → Standing → Option ℕ → Type 0
Stands ws o s e = (standing_by 3 (weights_after ws o.log) (votes o) ≡ s) × (leader (quieter (no_counts 8) o.log) s ≡ e)

pub standings :
    -- A: T 40, U 60; nothing settles
    Stands usual (state [] (a ∷ []) [] []) (says 1 60 (three a 0 0) (three 40 0 0) (three 0 1 1)) None ×
    -- B: 65 > 35
    Stands usual (state [] (a ∷ []) [] (a ∷ [])) (says 1 35 (three a 0 0) (three 65 0 0) (three 0 1 0)) (Some a) ×
    -- D: three rows
    Stands usual (state [] (a ∷ []) (b ∷ []) (c ∷ [])) (says 3 0 (three a b c) (three 40 35 25) (three 0 0 0)) (Some a) ×
    -- H: a has 70; once it is settled d has 40 against U 60, offices 1 and 2 being silent
    Stands (three 40 30 30) (state [] (a ∷ d ∷ []) (a ∷ []) (c ∷ [])) (says 2 0 (three a c 0) (three 70 30 0) (three 0 0 0)) (Some a) ×
    Stands (three 40 30 30) (settle a (state [] (a ∷ d ∷ []) (a ∷ []) (c ∷ []))) (says 1 60 (three d 0 0) (three 40 0 0) (three 0 1 1)) None ×
    -- after a settled move of 10 from office 0 to office 1, d has 30 and b 45
    Stands usual (state (value 0 65 10 ∷ []) (d ∷ []) (b ∷ []) []) (says 2 25 (three d b 0) (three 30 45 0) (three 0 0 1)) None
unfolding without distinct row_entries rows_of marks paired leader tally unheard supported settle weights_after move is_move can_shift is_weight both pick counts_after quieter_by
standings = ((refl, refl), (refl, refl), (refl, refl), (refl, refl), (refl, refl), (refl, refl))
