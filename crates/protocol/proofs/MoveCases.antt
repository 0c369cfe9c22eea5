-- Request (i), computed on the definitions: what a settled move does, the limits of moves, and elections with moves in them. Assumes nothing.
use mathlib.Core.Path.{◌≡◌, refl}
use mathlib.Core.List.{[], ◌∷◌}
use mathlib.Core.Bool.{true, false}
use Prim.Native.Nat.{ℕ, ◌+◌}
use Rattle.lists.specs.Tests.{both, pick}
use Rattle.protocol.specs.Entry.{value, proper}
use Rattle.protocol.specs.Limits.{is_weight}
use Rattle.protocol.specs.Moves.{is_move, can_shift, move, weights_after}
use Rattle.protocol.specs.Counts.{counts_after, quieter_by}
use Rattle.protocol.specs.Vote.{tally, unheard, supported, wins, winner}
use Rattle.protocol.specs.Issue.{refuse_entry}
use Rattle.protocol.specs.Elect.{settle, electing, with_elect}
use Rattle.protocol.specs.Folding.{with_folded_elect}
use Rattle.protocol.proofs.Cases.{a, b, d, three, usual, state, Elects}

-- office `from` moves x to office `to`
abbrev moving : ℕ → ℕ → ℕ → ℕ
moving from to x = value from (64 + to) x

pub moves :
    -- office 0 hands 10 of its 40 to office 1; all of it; and then it has nothing to hand on
    (weights_after usual (moving 0 1 10 ∷ []) ≡ three 30 45 25) × (weights_after usual (moving 0 2 40 ∷ moving 0 1 1 ∷ []) ≡ three 0 35 65) ×
    -- short by 1
    (weights_after usual (moving 0 1 41 ∷ []) ≡ usual) ×
    -- "j stays at or below 65535": it reaches it, and it would pass it by 1
    (weights_after (three 40 65530 25) (moving 0 1 5 ∷ []) ≡ three 35 65535 25) × (weights_after (three 40 65530 25) (moving 0 1 6 ∷ []) ≡ three 40 65530 25) ×
    -- "when j is the issuer"
    (weights_after usual (moving 0 0 10 ∷ []) ≡ usual) ×
    -- an entry for a line moves nothing
    (weights_after usual (a ∷ b ∷ d ∷ []) ≡ usual)
unfolding both pick is_weight is_move can_shift move weights_after
moves = (refl, refl, refl, refl, refl, refl, refl)

-- the lines 64 to 63 + n, and codes from 1 on
pub limits :
    (proper 3 63 0 ≡ true) × (proper 3 63 9999 ≡ true) × (proper 3 63 10000 ≡ false) ×
    (proper 3 64 0 ≡ false) × (proper 3 64 1 ≡ true) × (proper 3 66 9999 ≡ true) × (proper 3 66 10000 ≡ false) × (proper 3 67 1 ≡ false) ×
    (proper 1 64 1 ≡ true) × (proper 1 65 1 ≡ false) × (proper 8 71 1 ≡ true) × (proper 8 72 1 ≡ false) × (proper 8 255 1 ≡ false) ×
    (refuse_entry 3 66 1 ≡ 0) × (refuse_entry 3 67 1 ≡ 3) × (refuse_entry 3 66 0 ≡ 3)
unfolding both pick proper refuse_entry
limits = (refl, refl, refl, refl, refl, refl, refl, refl, refl, refl, refl, refl, refl, refl, refl, refl)

pub elections :
    -- two moves in one elect: office 0 hands office 2 ten, and ten again
    Elects usual (state [] (moving 0 2 10 ∷ moving 0 2 10 ∷ []) [] (moving 0 2 10 ∷ moving 0 2 10 ∷ [])) (state (moving 0 2 10 ∷ moving 0 2 10 ∷ []) [] [] []) 2 ×
    (weights_after usual (moving 0 2 10 ∷ moving 0 2 10 ∷ []) ≡ three 20 35 45) ×
    -- d wins with 60 against 40, by the 20 that were settled just before it in the same call; with the 40 of the call's beginning it would not
    Elects usual (state [] (moving 1 0 20 ∷ d ∷ []) (moving 1 0 20 ∷ []) []) (state (moving 1 0 20 ∷ d ∷ []) [] [] []) 2 ×
    Elects usual (state [] (d ∷ []) [] []) (state [] (d ∷ []) [] []) 0 ×
    -- with 50 and 50 a has the tie; office 0 has handed 1 on, so b has it
    Elects (three 50 50 0) (state [] (moving 0 1 1 ∷ a ∷ []) (moving 0 1 1 ∷ b ∷ []) []) (state (moving 0 1 1 ∷ b ∷ []) [] [] []) 2
unfolding both pick is_weight is_move can_shift move weights_after counts_after quieter_by tally unheard supported wins winner settle electing with_elect with_folded_elect
elections = ((refl, refl), refl, (refl, refl), (refl, refl), (refl, refl))
