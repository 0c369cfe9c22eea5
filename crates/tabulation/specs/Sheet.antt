-- Request (vii): "Weights are pooled under the settled code of their line." `codes` has the class of each line. Assumes nothing.
use Rattle.std.specs.Prelude.{◌≡◌, true, ◌↔◌, ℕ, ◌+◌, eqb, ltb, get_or}
use mathlib.Core.List.{List, [], ◌∷◌, map, Memᴰ}
use Rattle.lists.specs.Tests.{pick, all_b}
use Rattle.households.specs.Households.{Household, weights_read}
use Rattle.tabulation.specs.Rows.{pooled, total_of}
use Rattle.tabulation.specs.declared.Row.{Row}

-- the class of a household: the code of its line
abbrev pub class_of : List ℕ → Household → ℕ
class_of codes h = get_or codes h.line 0

-- each household as a row of its own
abbrev pub classed : List ℕ → List Household → List Row
classed codes hs = map (λ (h : Household). record { class = class_of codes h; total = h.weight }) hs

-- the sheet: pooled by class, classes rising
abbrev pub sheet_by : List ℕ → List Household → List Row
sheet_by codes hs = pooled (classed codes hs)

-- ── what a sheet is ──
-- some household's line has the class
abbrev pub Met : List ℕ → ℕ → List Household → Type 0
Met codes c hs = (h : Household) × Memᴰ h hs × (class_of codes h ≡ c)

abbrev pub Listed : ℕ → List Row → Type 0
Listed c rows = (r : Row) × Memᴰ r rows × (r.class ≡ c)

-- each class is below those behind it, so none is listed twice
abbrev pub Rising : List Row → Type 0
Rising [] = Unit {0}
Rising (r ∷ rows) = (all_b (λ (s : Row). ltb r.class s.class) rows ≡ true) × Rising rows

-- the weights of the households whose line has the class
unfoldable pub weight_under : List ℕ → ℕ → List Household → ℕ
weight_under codes c [] = 0
weight_under codes c (h ∷ hs) = pick (eqb (class_of codes h) c) h.weight 0 + weight_under codes c hs

pub record IsSheet (codes : List ℕ) (hs : List Household) (rows : List Row) : Type 0 where
  -- "codes rising"
  pub rises : Rising rows
  -- "only codes met", and all of them
  pub lists : (c : ℕ) → Listed c rows ↔ Met codes c hs
  -- "class totals"
  pub sums : (r : Row) → Memᴰ r rows → r.total ≡ weight_under codes r.class hs
  -- "The totals add up to the weights read"
  pub adds-up : total_of rows ≡ weights_read hs
