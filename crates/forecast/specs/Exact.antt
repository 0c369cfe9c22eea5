-- Request (xii), weights known within bounds: what is claimed of every forecast. The theorems are in proofs/Exact:
--     exact            (r : Record) (words lowest highest : List ℕ) → number_in (forecast_of r words lowest highest) ≡ 0 → Exact r words lowest highest
--     number-is        (r : Record) (words lowest highest : List ℕ) → number_in (forecast_of r words lowest highest) ≡ forecast_number r words lowest highest
--     refused_none     (r : Record) (words lowest highest : List ℕ) → (number_in (forecast_of r words lowest highest) ≡ 0 → ⊥) → winner_in (forecast_of r words lowest highest) ≡ None
--     before-n         (r : Record) (words lowest highest lowest' highest' : List ℕ) → bounds_of r lowest ≡ bounds_of r lowest' → bounds_of r highest ≡ bounds_of r highest'
--                          → forecast_of r words lowest highest ≡ forecast_of r words lowest' highest'
--     weights-aside    (r s : Record) (words lowest highest : List ℕ) → sound_b r words ≡ true → sound_b s words ≡ true → Alike r s
--                          → forecast_of r words lowest highest ≡ forecast_of s words lowest highest
--     bounds-met       (r s : Record) (words : List ℕ) → sound_b r words ≡ true → sound_b s words ≡ true → Alike r s
--                          → forecast_of r words s.summary.present s.summary.present ≡ Ok (winner_of s words)
--     zero-none        (r : Record) (words lowest highest : List ℕ) → all_b (eqb 0) (bounds_of r lowest) ≡ true → winner_in (forecast_of r words lowest highest) ≡ None
-- Assumes nothing.
use Rattle.std.specs.Prelude.{◌≡◌, ◌↔◌, List, ℕ}
use Rattle.protocol.specs.Office.{votes}
use Rattle.std.specs.Prelude.{None, Some}
use Rattle.bounds.specs.Bounds.{WinsSurely}
use Rattle.frame.specs.State.{held_by}
use Rattle.frame.specs.Electing.{tie_order}
use Rattle.frame.specs.declared.Record.{Record}
use Rattle.forecast.specs.Forecast.{bounds_of, forecast_of, winner_in}

-- "it wins under every choice, by document 01's winning rule with the tie order of its day; a total of zero counts as a choice": for every list of n
-- weights, each at least the lowest and at most the highest of its place
abbrev pub WinsFirst : Record → List ℕ → List ℕ → List ℕ → ℕ → Type 0
WinsFirst r words lowest highest e = WinsSurely (bounds_of r lowest) (bounds_of r highest) (tie_order r words) (votes (held_by r words)) e

-- "It is named exactly if it wins under every choice"
pub record Exact (r : Record) (words lowest highest : List ℕ) : Type 0 where
  pub named : (e : ℕ) → (winner_in (forecast_of r words lowest highest) ≡ Some e) ↔ WinsFirst r words lowest highest e
  pub nobody : (winner_in (forecast_of r words lowest highest) ≡ None) ↔ ((e : ℕ) → WinsFirst r words lowest highest e → ⊥)
  pub one : (e f : ℕ) → WinsFirst r words lowest highest e → WinsFirst r words lowest highest f → e ≡ f

-- two records with the same offices, dropped entries, settled length and ballots: with the words of one log they have one settled log, the same
-- counts of its dropped part, and the same votes
pub record Alike (r s : Record) : Type 0 where
  pub offices : r.n ≡ s.n
  pub dropped : r.kept.dropped ≡ s.kept.dropped
  pub counts : r.kept.counts ≡ s.kept.counts
  pub settled : r.settled ≡ s.settled
  pub ballots : r.ballots ≡ s.ballots
