-- Rows in an array with a count.
--     place-found                           the place of a class is the first row that has reached it
--     inserted                              the rows from a place on copied one place on, and a row put there
--     pool-same, pool-new                   a row pooled, by its place
--     into-same, into_new                   the same in the array
--     held_rows                             the rows that an array holds
-- Assumes nothing.
use mathlib.Core.Path.{◌≡◌, refl, sym, ap, ap₂, subst, ◌∙◌}
use mathlib.Core.Bool.{Bool, true, false, cond, not}
use mathlib.Core.List.{List, [], ◌∷◌, ◌++◌, append_assoc, append-nil}
use Prim.Native.Nat.{ℕ, zero, suc, ◌+◌, ◌-◌, ◌≤◌, ◌<◌}
use native.Mathlib.Nat.{not-suc-le-zero, le_of_suc-le-suc}
use native.Mathlib.Omega.{arith}
use lib.Dec.{ltb}
use lib.ListN.{length, get_or, take, drop, set, replicate, length-append, length-drop, length-set, drop_of_length-le}
use lib.Seq.{length-take-le, take-append-le, drop-append-le, take-append-add, take-append_seam, take-set-lt, set-append_left}
use borrow.Author.Tests.{ne_eqb, eq-eqb, le-ltb, lt-ltb, ltb-true, ltb-false}
use Rattle.std.specs.Prelude.{Option, Some, None, unwrap_or}
use Rattle.std.specs.List.{copy_within, position_or_len}
use Rattle.std.proofs.lemmas.List.{take_more_set}
use Rattle.std.proofs.lemmas.List.Sums.{prefix_len-le-length}
use Rattle.lists.specs.Tests.{pick}
use Rattle.lists.proofs.Padded.{padded-at}
use Rattle.tabulation.specs.Rows.{pool, total_of}
use Rattle.tabulation.specs.Cells.{no_row, cells_of, rows_of, held, place_of, pool_into, RoomFor}
use Rattle.tabulation.specs.declared.Row.{Row}
use Rattle.tabulation.specs.declared.Rows.{Rows}

-- ── the place of a class ──
place-behind : (class : ℕ) (s : Row) (rows : List Row) → s.class < class → place_of class (s ∷ rows) ≡ suc (place_of class rows)
unfolding place_of pick
place-behind class s rows h = rw (lt-ltb s.class class h)

place_here : (class : ℕ) (s : Row) (rows : List Row) → class ≤ s.class → place_of class (s ∷ rows) ≡ 0
unfolding place_of pick
place_here class s rows h = rw (le-ltb s.class class h)

-- the code's test of a row
abbrev pub Reached : ℕ → Row → Bool
Reached class s = not (ltb s.class class)

place-first : (class : ℕ) (xs : List Row) → position_or_len (Reached class) xs ≡ place_of class xs
unfolding place_of pick
place-first class [] = refl
place-first class (s ∷ rows) = step (ltb s.class class) (place-first class rows)
  where
    step : (b : Bool) → position_or_len (Reached class) rows ≡ place_of class rows
        → cond (not (not b)) (1 + position_or_len (Reached class) rows) 0 ≡ pick b (suc (place_of class rows)) 0
    step true e = omega (arith, e)
    step false e = refl

pub place-found : (class count : ℕ) (xs : List Row) (o : Option ℕ) → length xs ≡ count
    → o ≡ cond (ltb (position_or_len (Reached class) xs) (length xs)) (Some (position_or_len (Reached class) xs)) None
    → (unwrap_or o count ≡ place_of class xs) × (unwrap_or o count ≤ count)
place-found class count xs o l e =
    let found = ap (λ (q : Option ℕ). unwrap_or q count) e ∙ go (ltb (position_or_len (Reached class) xs) (length xs)) refl in
    (found ∙ place-first class xs, omega (arith, found, most))
  where
    most : position_or_len (Reached class) xs ≤ length xs
    most = prefix_len-le-length _ xs

    go : (t : Bool) → ltb (position_or_len (Reached class) xs) (length xs) ≡ t → unwrap_or (cond t (Some (position_or_len (Reached class) xs)) None) count ≡ position_or_len (Reached class) xs
    go true q = refl
    go false q = omega (arith, ltb-false _ _ q, most, l)

-- ── a row put in ──
pub inserted : (rows : List Row) (at : ℕ) (row : Row) → length rows ≡ 64 → at < 64 → set (copy_within rows at 63 (at + 1)) at row ≡ take 64 (take at rows ++ (row ∷ drop at rows))
inserted rows at row l h = ap (λ (x : List Row). set x at row) copied ∙ set-append_left front moved at row before ∙ ap (λ (x : List Row). x ++ moved) first ∙ append_assoc (take at rows) (row ∷ []) moved ∙ sym whole
  where
    front : List Row
    front = take (at + 1) rows

    moved : List Row
    moved = take (63 - at) (drop at rows)

    copied : copy_within rows at 63 (at + 1) ≡ front ++ moved
    copied = ap (λ (x : List Row). (front ++ moved) ++ x) (drop_of_length-le rows (omega arith)) ∙ append-nil (front ++ moved)

    before : at < length front
    before = omega (arith, length-take-le (at + 1) rows (omega arith))

    first : set front at row ≡ take at rows ++ (row ∷ [])
    first = sym (take-set-lt (at + 1) rows at row (omega arith)) ∙ take_more_set rows at row (omega arith)

    whole : take 64 (take at rows ++ (row ∷ drop at rows)) ≡ take at rows ++ (row ∷ moved)
    whole =
        let n : 64 ≡ length (take at rows) + suc (63 - at) = omega (arith, length-take-le at rows (omega arith)) in
        ap (λ (k : ℕ). take k (take at rows ++ (row ∷ drop at rows))) n ∙ take-append-add (take at rows) (row ∷ drop at rows) (suc (63 - at))

-- ── a row pooled, by its place ──
pool-behind : (r s : Row) (rows : List Row) → s.class < r.class → pool r (s ∷ rows) ≡ s ∷ pool r rows
unfolding pool pick
pool-behind r s rows h = rw (ne_eqb r.class s.class (λ q. omega arith), le-ltb r.class s.class (omega arith))

pool-before : (r s : Row) (rows : List Row) → r.class < s.class → pool r (s ∷ rows) ≡ r ∷ s ∷ rows
unfolding pool pick
pool-before r s rows h = rw (ne_eqb r.class s.class (λ q. omega arith), lt-ltb r.class s.class h)

pool-with : (r s : Row) (rows : List Row) → r.class ≡ s.class → pool r (s ∷ rows) ≡ record { class = s.class; total = r.total + s.total } ∷ rows
unfolding pool pick
pool-with r s rows q = rw (eq-eqb r.class s.class q)

pub pool-same : (r : Row) (xs : List Row) → place_of r.class xs < length xs → (get_or xs (place_of r.class xs) no_row).class ≡ r.class
    → pool r xs ≡ set xs (place_of r.class xs) (record { class = r.class; total = r.total + (get_or xs (place_of r.class xs) no_row).total })
pool-same r [] h e = absurd (not-suc-le-zero h)
pool-same r (s ∷ rows) h e = go (pool-same r rows) (ltb s.class r.class) refl
  where
    place : ℕ → Type 0
    place p = p < length (s ∷ rows) → (get_or (s ∷ rows) p no_row).class ≡ r.class → pool r (s ∷ rows) ≡ set (s ∷ rows) p (record { class = r.class; total = r.total + (get_or (s ∷ rows) p no_row).total })

    first : r.class ≤ s.class → place 0
    first q b d = pool-with r s rows (sym d) ∙ ap (λ (c : ℕ). record { class = c; total = r.total + s.total } ∷ rows) d

    Again : Type 0
    Again =
        place_of r.class rows < length rows → (get_or rows (place_of r.class rows) no_row).class ≡ r.class
        → pool r rows ≡ set rows (place_of r.class rows) (record { class = r.class; total = r.total + (get_or rows (place_of r.class rows) no_row).total })

    later : Again → s.class < r.class → place (suc (place_of r.class rows))
    later again q b d = pool-behind r s rows q ∙ ap (λ (l : List Row). s ∷ l) (again (le_of_suc-le-suc b) d)

    go : Again → (t : Bool) → ltb s.class r.class ≡ t
        → pool r (s ∷ rows) ≡ set (s ∷ rows) (place_of r.class (s ∷ rows)) (record { class = r.class; total = r.total + (get_or (s ∷ rows) (place_of r.class (s ∷ rows)) no_row).total })
    go again true q = let l = ltb-true s.class r.class q in subst place (sym (place-behind r.class s rows l)) (later again l) h e
    go again false q = let l = ltb-false s.class r.class q in subst place (sym (place_here r.class s rows l)) (first l) h e

pub pool-new : (r : Row) (xs : List Row) → (place_of r.class xs < length xs → (get_or xs (place_of r.class xs) no_row).class ≡ r.class → ⊥)
    → pool r xs ≡ take (place_of r.class xs) xs ++ (r ∷ drop (place_of r.class xs) xs)
unfolding place_of pool
pool-new r [] n = refl
pool-new r (s ∷ rows) n = go (pool-new r rows) (ltb s.class r.class) refl
  where
    place : ℕ → Type 0
    place p = (p < length (s ∷ rows) → (get_or (s ∷ rows) p no_row).class ≡ r.class → ⊥) → pool r (s ∷ rows) ≡ take p (s ∷ rows) ++ (r ∷ drop p (s ∷ rows))

    first : r.class ≤ s.class → place 0
    first q m = pool-before r s rows (omega (arith, m (omega arith)))

    Again : Type 0
    Again =
        (place_of r.class rows < length rows → (get_or rows (place_of r.class rows) no_row).class ≡ r.class → ⊥)
        → pool r rows ≡ take (place_of r.class rows) rows ++ (r ∷ drop (place_of r.class rows) rows)

    later : Again → s.class < r.class → place (suc (place_of r.class rows))
    later again q m = pool-behind r s rows q ∙ ap (λ (l : List Row). s ∷ l) (again (λ b d. m (omega arith) d))

    go : Again → (t : Bool) → ltb s.class r.class ≡ t → pool r (s ∷ rows) ≡ take (place_of r.class (s ∷ rows)) (s ∷ rows) ++ (r ∷ drop (place_of r.class (s ∷ rows)) (s ∷ rows))
    go again true q = let l = ltb-true s.class r.class q in subst place (sym (place-behind r.class s rows l)) (later again l) n
    go again false q = let l = ltb-false s.class r.class q in subst place (sym (place_here r.class s rows l)) (first l) n

-- ── the array ──
pub held_rows : (xs : List Row) → held (rows_of xs) ≡ xs
unfolding cells_of
held_rows xs = take-append_seam xs (replicate (64 - length xs) no_row)

take-alike : (m n : ℕ) (x : Row) → m ≤ n → take m (replicate n x) ≡ replicate m x
take-alike zero n x h = refl
take-alike (suc m) zero x h = absurd (not-suc-le-zero h)
take-alike (suc m) (suc n) x h = ap (λ (l : List Row). x ∷ l) (take-alike m n x (le_of_suc-le-suc h))

cells-set : (xs : List Row) (i : ℕ) (v : Row) → i < length xs → set (cells_of xs) i v ≡ cells_of (set xs i v)
unfolding cells_of
cells-set xs i v h = set-append_left xs (replicate (64 - length xs) no_row) i v h ∙ ap (λ (n : ℕ). set xs i v ++ replicate (64 - n) no_row) (sym (length-set xs i v))

cells-insert : (xs : List Row) (at : ℕ) (r : Row) → at ≤ length xs → length xs < 64
    → (length (take at xs ++ (r ∷ drop at xs)) ≡ length xs + 1) × (take 64 (take at (cells_of xs) ++ (r ∷ drop at (cells_of xs))) ≡ cells_of (take at xs ++ (r ∷ drop at xs)))
unfolding cells_of
cells-insert xs at r a h = (long, whole)
  where
    zeros : List Row
    zeros = replicate (64 - length xs) no_row

    ys : List Row
    ys = take at xs ++ (r ∷ drop at xs)

    long : length (take at xs ++ (r ∷ drop at xs)) ≡ length xs + 1
    long = length-append (take at xs) (r ∷ drop at xs) ∙ omega (arith, length-take-le at xs a, length-drop at xs)

    parts : take at (xs ++ zeros) ++ (r ∷ drop at (xs ++ zeros)) ≡ ys ++ zeros
    parts = ap₂ (λ (x y : List Row). x ++ (r ∷ y)) (take-append-le at xs zeros a) (drop-append-le at xs zeros a) ∙ sym (append_assoc (take at xs) (r ∷ drop at xs) zeros)

    whole : take 64 (take at (xs ++ zeros) ++ (r ∷ drop at (xs ++ zeros))) ≡ ys ++ replicate (64 - length ys) no_row
    whole =
        let n : 64 ≡ length ys + (64 - length ys) = omega (arith, long) in
        ap (take 64) parts ∙ ap (λ (k : ℕ). take k (ys ++ zeros)) n ∙ take-append-add ys zeros (64 - length ys)
        ∙ ap (λ (l : List Row). ys ++ l) (take-alike (64 - length ys) (64 - length xs) no_row (omega (arith, long)))

-- a row of the list is the array's
cell_at : (xs : List Row) (i : ℕ) → i < length xs → get_or (cells_of xs) i no_row ≡ get_or xs i no_row
unfolding cells_of
cell_at xs i h = padded-at 64 no_row xs i h

row-total : (xs : List Row) (i : ℕ) → i < length xs → (get_or xs i no_row).total ≤ total_of xs
unfolding total_of
row-total [] i h = absurd (not-suc-le-zero h)
row-total (x ∷ xs) zero h = omega arith
row-total (x ∷ xs) (suc i) h = omega (arith, row-total xs i (le_of_suc-le-suc h))

module _ (sheet : Rows) (row : Row) (room : RoomFor sheet row) (at : ℕ) (place : at ≡ place_of row.class (held sheet)) where
  count_held : sheet.count ≡ length (held sheet)
  count_held = ap (λ (x : Rows). x.count) room.made

  rows-held : sheet.rows ≡ cells_of (held sheet)
  rows-held = ap (λ (x : Rows). x.rows) room.made

  row-held : at < sheet.count → get_or sheet.rows at no_row ≡ get_or (held sheet) at no_row
  row-held h = ap (λ (l : List Row). get_or l at no_row) rows-held ∙ cell_at (held sheet) at (omega (arith, count_held))

  -- the total of its class fits
  pub into-fits : at < sheet.count → row.total + (get_or sheet.rows at no_row).total < 18446744073709551616
  into-fits h =
      let e : (get_or sheet.rows at no_row).total ≡ (get_or (held sheet) at no_row).total = ap (λ (x : Row). x.total) (row-held h) in
      omega (arith, room.fits, row-total (held sheet) at (omega (arith, count_held)))

  pub into-same : at < sheet.count → (get_or sheet.rows at no_row).class ≡ row.class
      → ◌≡◌ {A = Rows} (record { count = sheet.count; rows = set sheet.rows at (record { class = row.class; total = row.total + (get_or sheet.rows at no_row).total }) }) (pool_into sheet row)
  into-same h c =
      let e = row-held h in
      let b : at < length (held sheet) = omega (arith, count_held) in
      let v : Row = record { class = row.class; total = row.total + (get_or (held sheet) at no_row).total } in
      let made : pool row (held sheet) ≡ set (held sheet) at v =
      subst (λ (p : ℕ). p < length (held sheet) → (get_or (held sheet) p no_row).class ≡ row.class
      → pool row (held sheet) ≡ set (held sheet) p (record { class = row.class; total = row.total + (get_or (held sheet) p no_row).total }))
      (sym place) (pool-same row (held sheet)) b (ap (λ (x : Row). x.class) (sym e) ∙ c) in
      let count : sheet.count ≡ length (pool row (held sheet)) = count_held ∙ sym (length-set (held sheet) at v) ∙ ap length (sym made) in
      let rows : set sheet.rows at (record { class = row.class; total = row.total + (get_or sheet.rows at no_row).total }) ≡ cells_of (pool row (held sheet)) =
      ap₂ (λ (l : List Row) (x : Row). set l at (record { class = row.class; total = row.total + x.total })) rows-held e ∙ cells-set (held sheet) at v b ∙ ap cells_of (sym made) in
      λ i. record { count = count i; rows = rows i }

  pub into_new : (next : List Row) → at ≤ sheet.count → (at < sheet.count → (get_or sheet.rows at no_row).class ≡ row.class → ⊥)
      → next ≡ take 64 (take at sheet.rows ++ (row ∷ drop at sheet.rows))
      → ◌≡◌ {A = Rows} (record { count = sheet.count + 1; rows = next }) (pool_into sheet row)
  into_new next a n e =
      let made : pool row (held sheet) ≡ take at (held sheet) ++ (row ∷ drop at (held sheet)) =
      subst (λ (p : ℕ). (p < length (held sheet) → (get_or (held sheet) p no_row).class ≡ row.class → ⊥) → pool row (held sheet) ≡ take p (held sheet) ++ (row ∷ drop p (held sheet)))
      (sym place) (pool-new row (held sheet)) (λ b d. let l : at < sheet.count = omega (arith, count_held) in n l (ap (λ (x : Row). x.class) (row-held l) ∙ d)) in
      let cells = cells-insert (held sheet) at row (omega (arith, count_held)) (omega (arith, count_held, room.room)) in
      let count : sheet.count + 1 ≡ length (pool row (held sheet)) = ap (λ (k : ℕ). k + 1) count_held ∙ sym cells.0 ∙ ap length (sym made) in
      let rows : next ≡ cells_of (pool row (held sheet)) = e ∙ ap (λ (l : List Row). take 64 (take at l ++ (row ∷ drop at l))) rows-held ∙ cells.1 ∙ ap cells_of (sym made) in
      λ i. record { count = count i; rows = rows i }
