-- Request (iii), computed on the definitions: which way ties go. Assumes nothing.
use mathlib.Core.Path.{◌≡◌, refl}
use mathlib.Core.List.{List, [], ◌∷◌}
use mathlib.Core.Bool.{true, false}
use Prim.Native.Nat.{ℕ}
use Rattle.lists.specs.Tests.{both, pick}
use Rattle.protocol.specs.Entry.{value}
use Rattle.protocol.specs.Limits.{is_weight}
use Rattle.protocol.specs.Moves.{is_move, can_shift, move, weights_after}
use Rattle.protocol.specs.Counts.{count_in, no_counts, counts_after, quieter_by, quieter}
use Rattle.protocol.specs.Vote.{tally, unheard, supported, wins, winner}
use Rattle.protocol.specs.Elect.{settle, electing, with_elect}
use Rattle.protocol.specs.Folding.{with_folded_elect}
use Rattle.protocol.proofs.Cases.{a, b, d, three, state, Elects}

-- the offices 0 and 1 have as much
abbrev even : List ℕ
even = three 50 50 0

-- entries of the offices 2 and 3, the second of the higher value
abbrev x : ℕ
x = value 2 7 1

abbrev y : ℕ
y = value 3 7 1

-- office 2 hands its 50 to office 0, or to office 1
abbrev handed : ℕ
handed = value 2 64 50

abbrev other : ℕ
other = value 2 65 50

pub counts :
    (counts_after (no_counts 8) (a ∷ b ∷ d ∷ handed ∷ []) ≡ 2 ∷ 1 ∷ 1 ∷ 0 ∷ 0 ∷ 0 ∷ 0 ∷ 0 ∷ []) ×
    (count_in 0 (a ∷ b ∷ d ∷ handed ∷ []) ≡ 2) × (count_in 3 (a ∷ b ∷ d ∷ handed ∷ []) ≡ 0) ×
    -- fewer entries come first; then the lower value; no entry comes before itself
    (quieter (no_counts 8) (a ∷ []) b a ≡ true) × (quieter (no_counts 8) (a ∷ []) a b ≡ false) ×
    (quieter (no_counts 8) (a ∷ b ∷ []) a b ≡ true) × (quieter (no_counts 8) (a ∷ b ∷ []) b a ≡ false) × (quieter (no_counts 8) (b ∷ []) a a ≡ false)
unfolding count_in counts_after quieter_by
counts = (refl, refl, refl, refl, refl, refl, refl, refl)

pub elections :
    -- "Case E still holds, from an empty log"
    Elects even (state [] (a ∷ []) (b ∷ []) []) (state (a ∷ []) [] [] []) 1 ×
    -- the same tie where office 0 has an entry in the log and office 1 has none; a move is an entry like another, even where it changes nothing
    Elects even (state (d ∷ []) (a ∷ []) (b ∷ []) []) (state (d ∷ b ∷ []) [] [] []) 1 ×
    Elects even (state (value 0 64 1 ∷ []) (a ∷ []) (b ∷ []) []) (state (value 0 64 1 ∷ b ∷ []) [] [] []) 1 ×
    -- one entry each, and the lower value again
    Elects even (state (d ∷ b ∷ []) (a ∷ []) (b ∷ []) []) (state (d ∷ b ∷ a ∷ []) [] [] []) 1 ×
    -- two entries of one office: the lower value, however many it has
    Elects even (state (d ∷ []) (d ∷ []) (a ∷ []) []) (state (d ∷ a ∷ []) [] [] []) 1 ×
    -- the counts are those of each step: a, settled first in the same call, gives the tie of d and b to b
    Elects even (state [] (a ∷ d ∷ []) (a ∷ b ∷ []) []) (state (a ∷ b ∷ []) [] [] []) 2 ×
    -- two ties in one call, which takes a move: `handed` has the first by its value, and so y, not x, the second
    Elects (three 0 50 50) (state [] (handed ∷ x ∷ []) (handed ∷ y ∷ []) (other ∷ [])) (state (handed ∷ y ∷ []) [] [] []) 2 ×
    Elects even (state [] (x ∷ []) (y ∷ []) []) (state (x ∷ []) [] [] []) 1 ×
    -- only a tie: with 51 against 49 the busier office wins
    Elects (three 51 49 0) (state (d ∷ []) (a ∷ []) (b ∷ []) []) (state (d ∷ a ∷ []) [] [] []) 1
unfolding both pick is_weight is_move can_shift move weights_after counts_after quieter_by tally unheard supported wins winner settle electing with_elect with_folded_elect
elections = ((refl, refl), (refl, refl), (refl, refl), (refl, refl), (refl, refl), (refl, refl), (refl, refl), (refl, refl), (refl, refl))
