-- The sheet of a frame's lines, from the last line to the first: what is pooled is the rows of the lines from there on.
--     lines_from, line_row                     the rows of the lines from one on, and of one line
--     no_lines                               the walk begins past the last line
--     line-room, line-pooled, line-passed    a turn of it: there is room for the line's row, it is pooled; or the line is not met
-- Assumes nothing.
use mathlib.Core.Path.{◌≡◌, sym, ap, ◌∙◌}
use mathlib.Core.Bool.{Bool, true, false}
use mathlib.Core.List.{List, [], ◌∷◌}
use Prim.Native.Nat.{ℕ, zero, suc, ◌+◌, ◌≤◌, ◌<◌}
use native.Mathlib.Omega.{arith}
use lib.ListN.{length, get_or, drop, length-drop, drop_of_length-le}
use Rattle.lists.proofs.Walk.{rest-step}
use Rattle.tabulation.specs.Rows.{pool, pooled, total_of, line_rows}
use Rattle.tabulation.specs.Cells.{rows_of, held, pool_into, RoomFor, Fitting}
use Rattle.tabulation.specs.declared.Row.{Row}
use Rattle.tabulation.specs.declared.Rows.{Rows}
use Rattle.tabulation.proofs.Under.{pooled-total, rows-most}
use Rattle.tabulation.proofs.Lines.{lines-most}
use Rattle.tabulation.proofs.Cells.{held_rows}

-- the rows of the lines from i on
abbrev pub lines_from : List ℕ → List Bool → List ℕ → ℕ → List Row
lines_from codes met totals i = line_rows (drop i codes) (drop i met) (drop i totals)

-- the row of the line i
abbrev pub line_row : List ℕ → List ℕ → ℕ → Row
line_row codes totals i = record { class = get_or codes i 0; total = get_or totals i 0 }

total-rest : (codes : List ℕ) (met : List Bool) (totals : List ℕ) (i : ℕ) → total_of (lines_from codes met totals i) ≤ total_of (line_rows codes met totals)
unfolding line_rows total_of
total-rest codes met totals zero = omega arith
total-rest [] met totals (suc i) = omega arith
total-rest (c ∷ codes) [] totals (suc i) = none (drop i codes) (drop (suc i) totals)
  where
    none : (c : List ℕ) (t : List ℕ) → total_of (line_rows c [] t) ≤ 0
    none [] t = omega arith
    none (c ∷ cs) t = omega arith
total-rest (c ∷ codes) (m ∷ met) [] (suc i) = none (drop i codes) (drop i met)
  where
    none : (c : List ℕ) (m : List Bool) → total_of (line_rows c m []) ≤ 0
    none [] m = omega arith
    none (c ∷ cs) [] = omega arith
    none (c ∷ cs) (m ∷ ms) = omega arith
total-rest (c ∷ codes) (true ∷ met) (t ∷ totals) (suc i) = omega (arith, total-rest codes met totals i)
total-rest (c ∷ codes) (false ∷ met) (t ∷ totals) (suc i) = omega (arith, total-rest codes met totals i)

-- ── the array ──
module _ (sheet : Rows) (row : Row) (rows : List Row) (made : sheet ≡ rows_of rows) where
  held-made : held sheet ≡ rows
  held-made = ap held made ∙ held_rows rows

  pub into-of : pool_into sheet row ≡ rows_of (pool row rows)
  into-of = ap (λ (l : List Row). rows_of (pool row l)) held-made

  room_of : length rows < 64 → row.total + total_of rows < 18446744073709551616 → RoomFor sheet row
  room_of l f = record { made = made ∙ ap rows_of (sym held-made); room = omega (arith, ap (λ (x : Rows). x.count) made); fits = rw held-made f }

-- ── a turn of the walk ──
module _ (codes : List ℕ) (met : List Bool) (totals : List ℕ) (a : length codes ≡ 64) (b : length met ≡ 64) (c : length totals ≡ 64) (i : ℕ) where
  split : i < 64 → lines_from codes met totals i ≡ line_rows (get_or codes i 0 ∷ drop (i + 1) codes) (get_or met i false ∷ drop (i + 1) met) (get_or totals i 0 ∷ drop (i + 1) totals)
  split h = rw (rest-step 0 codes i (omega arith), rest-step false met i (omega arith), rest-step 0 totals i (omega arith))

  lines-met : i < 64 → get_or met i false ≡ true → lines_from codes met totals i ≡ line_row codes totals i ∷ lines_from codes met totals (i + 1)
  unfolding line_rows
  lines-met h e = split h ∙ rw e

  lines-unmet : i < 64 → get_or met i false ≡ false → lines_from codes met totals i ≡ lines_from codes met totals (i + 1)
  unfolding line_rows
  lines-unmet h e = split h ∙ rw e

  module _ (sheet : Rows) (k : ℕ) (next : k ≡ i + 1) (h : i < 64) (made : sheet ≡ rows_of (pooled (lines_from codes met totals k))) where
    -- the line is met: there is room for its row
    pub line-room : get_or met i false ≡ true → Fitting (line_rows codes met totals) → RoomFor sheet (line_row codes totals i)
    unfolding total_of
    line-room e fit =
        let now : get_or totals i 0 + total_of (lines_from codes met totals (i + 1)) ≡ total_of (lines_from codes met totals i) = ap total_of (sym (lines-met h e)) in
        let q : lines_from codes met totals k ≡ lines_from codes met totals (i + 1) = ap (lines_from codes met totals) next in
        let same : total_of (pooled (lines_from codes met totals k)) ≡ total_of (lines_from codes met totals (i + 1)) = pooled-total (lines_from codes met totals k) ∙ ap total_of q in
        room_of sheet (line_row codes totals i) (pooled (lines_from codes met totals k)) made
        (omega (arith, rows-most (lines_from codes met totals k), lines-most (drop k codes) (drop k met) (drop k totals), length-drop k codes))
        (omega (arith, total-rest codes met totals i))

    pub line-pooled : get_or met i false ≡ true → pool_into sheet (line_row codes totals i) ≡ rows_of (pooled (lines_from codes met totals i))
    unfolding pooled
    line-pooled e =
        into-of sheet (line_row codes totals i) (pooled (lines_from codes met totals k)) made
        ∙ ap (λ (j : ℕ). rows_of (pooled (line_row codes totals i ∷ lines_from codes met totals j))) next
        ∙ ap (λ (l : List Row). rows_of (pooled l)) (sym (lines-met h e))

    -- it is not
    pub line-passed : get_or met i false ≡ false → sheet ≡ rows_of (pooled (lines_from codes met totals i))
    line-passed e = made ∙ ap (λ (j : ℕ). rows_of (pooled (lines_from codes met totals j))) next ∙ ap (λ (l : List Row). rows_of (pooled l)) (sym (lines-unmet h e))

-- the walk begins past the last line
pub no_lines : (codes : List ℕ) (met : List Bool) (totals : List ℕ) → length codes ≡ 64 → rows_of [] ≡ rows_of (pooled (lines_from codes met totals 64))
unfolding line_rows pooled
no_lines codes met totals a = rw (drop_of_length-le codes {i = 64} (omega arith))
