-- Request (xii): "Next round's weights are known only as a lowest and a highest .. for each office .. name the entry that would win the first step
-- whichever weights within the bounds are chosen, or say that none would." The bounds and a choice are lists of one number for each of the n
-- offices, office 0's first; `before` is "the tie order of its day". Assumes nothing.
use Rattle.std.specs.Prelude.{List, [], ◌∷◌, Bool, true, false, cond, ℕ, ◌≤◌, leb}
use Rattle.std.specs.Prelude.{Option}
use Rattle.lists.specs.Tests.{both}
use Rattle.protocol.specs.Vote.{Votes, later, is_for, supported, wins, first_that}
use Rattle.protocol.specs.Winning.{Wins}

-- as many numbers, each at most the one at its place
infix 40 ◌≼◌
abbrev pub ◌≼◌ : List ℕ → List ℕ → Type 0
[] ≼ [] = Unit {0}
[] ≼ (y ∷ b) = ⊥
(x ∷ a) ≼ [] = ⊥
(x ∷ a) ≼ (y ∷ b) = (x ≤ y) × (a ≼ b)

-- the same as a test: no lowest "exceeds its highest"
unfoldable pub fits : List ℕ → List ℕ → Bool
fits [] [] = true
fits [] (y ∷ b) = false
fits (x ∷ a) [] = false
fits (x ∷ a) (y ∷ b) = both (leb x y) (fits a b)

-- "it wins under every choice", by the winning rule of document 01; "a total of zero counts as a choice"
abbrev pub WinsSurely : List ℕ → List ℕ → (ℕ → ℕ → Bool) → Votes → ℕ → Type 0
WinsSurely low high before v e = (ws : List ℕ) → low ≼ ws → ws ≼ high → Wins ws before v e

-- the worst choice for e: its supporters lowest, all others highest
unfoldable pub worst : List ℕ → List ℕ → Votes → ℕ → List ℕ
worst [] high v e = []
worst (l ∷ low) [] v e = []
worst (l ∷ low) (h ∷ high) v e = cond (is_for e (v 0)) l h ∷ worst low high (later v) e

-- e wins under its worst choice
unfoldable pub wins_worst : List ℕ → List ℕ → (ℕ → ℕ → Bool) → Votes → ℕ → Bool
wins_worst low high before v e = wins (worst low high v e) before v e

-- the supported entry that wins under its worst choice, if any. It is the one that wins under every choice (laws `sure-some`, `sure-none`)
unfoldable pub sure_winner : List ℕ → List ℕ → (ℕ → ℕ → Bool) → Votes → Option ℕ
sure_winner low high before v = first_that (wins_worst low high before v) (supported low v)
