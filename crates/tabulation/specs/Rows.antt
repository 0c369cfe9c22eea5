-- Rows of class and total, pooled by class: "The sheet lists class and 64-bit total, codes rising, only codes met." Assumes nothing.
use Rattle.std.specs.Prelude.{Bool, true, false, List, [], ◌∷◌, ℕ, ◌+◌, eqb, ltb}
use Rattle.lists.specs.Tests.{pick}
use Rattle.tabulation.specs.declared.Row.{Row}

-- a row is pooled with the row of its class, or comes to its place
unfoldable pub pool : Row → List Row → List Row
pool r [] = r ∷ []
pool r (s ∷ rows) =
    pick (eqb r.class s.class) (record { class = s.class; total = r.total + s.total } ∷ rows)
    (pick (ltb r.class s.class) (r ∷ s ∷ rows) (s ∷ pool r rows))

unfoldable pub pooled : List Row → List Row
pooled [] = []
pooled (r ∷ rows) = pool r (pooled rows)

unfoldable pub total_of : List Row → ℕ
total_of [] = 0
total_of (r ∷ rows) = r.total + total_of rows

-- a row for each line that is met, of its code and total
unfoldable pub line_rows : List ℕ → List Bool → List ℕ → List Row
line_rows [] met totals = []
line_rows (c ∷ codes) [] totals = []
line_rows (c ∷ codes) (m ∷ met) [] = []
line_rows (c ∷ codes) (true ∷ met) (t ∷ totals) = record { class = c; total = t } ∷ line_rows codes met totals
line_rows (c ∷ codes) (false ∷ met) (t ∷ totals) = line_rows codes met totals
