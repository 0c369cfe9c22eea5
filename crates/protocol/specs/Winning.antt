-- "Entry e wins when T(e) > U and, for each other supported entry f, T(e) > T(f) + U, or T(e) = T(f) + U and the value of e is below that of f."
-- The sentence as a claim about every vote table, for any tie order; since (iii) that is `quieter_by`. That `winner` computes it is proved (laws
-- `winner-some`, `winner-none`). Assumes nothing.
use Rattle.std.specs.Prelude.{◌≡◌, List, Bool, true, ◌⊎◌, ℕ, ◌+◌, ◌<◌, length}
use Rattle.std.specs.Prelude.{Some}
use Rattle.protocol.specs.Vote.{Votes, tally, unheard}

-- some office's ballot supports f
abbrev pub Supported : List ℕ → Votes → ℕ → Type 0
Supported ws v f = (k : ℕ) × (k < length ws) × (v k ≡ Some f)

-- "T(e) > T(f) + U, or T(e) = T(f) + U and" e comes before f
abbrev pub Beats : List ℕ → (ℕ → ℕ → Bool) → Votes → ℕ → ℕ → Type 0
Beats ws before v e f = (tally ws v f + unheard ws v < tally ws v e) ⊎ ((tally ws v e ≡ tally ws v f + unheard ws v) × (before e f ≡ true))

pub record Wins (ws : List ℕ) (before : ℕ → ℕ → Bool) (v : Votes) (e : ℕ) : Type 0 where
  pub above : unheard ws v < tally ws v e
  pub others : (f : ℕ) → (f ≡ e → ⊥) → Supported ws v f → Beats ws before v e f

-- a tie order puts at most one of two entries before the other, as "below" does
abbrev pub Asymmetric : (ℕ → ℕ → Bool) → Type 0
Asymmetric before = (e f : ℕ) → before e f ≡ true → before f e ≡ true → ⊥
