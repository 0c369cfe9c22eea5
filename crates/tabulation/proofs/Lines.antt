-- Pooled by line first, and then by class: the same sheet. A line's total is added to as its households are, and an unmet line has none.
--     by-line        the rows of the lines met, pooled, are the sheet of the households
--     sheet-few      so a sheet has at most 64 rows
-- Assumes nothing.
use mathlib.Core.Path.{◌≡◌, refl, sym, ap, ◌∙◌}
use mathlib.Core.Bool.{Bool, true, false, true≢false}
use mathlib.Core.List.{List, [], ◌∷◌, ◌++◌, append-nil, Memᴰ}
use Prim.Native.Nat.{ℕ, zero, suc, ◌+◌, ◌≤◌, ◌<◌}
use native.Mathlib.Nat.{not-suc-le-zero, le_of_suc-le-suc}
use native.Mathlib.Omega.{arith}
use lib.Dec.{eqb, ltb}
use lib.ListN.{length, get_or, take, set, replicate, length-set, length-append}
use lib.Seq.{get_or-set_same, get_or-set_other, get_or-take, length-take-le}
use borrow.Author.Tests.{ltb-true, eqb-true, eqb-false}
use Rattle.lists.specs.Tests.{all_b}
use Rattle.lists.proofs.Tests.{both-0, both-1, get_d_replicate}
use Rattle.households.specs.Households.{Household}
use Rattle.households.specs.Pools.{meet, add_to, met_after, totals_after, none_met, no_totals}
use Rattle.tabulation.specs.Rows.{pooled, line_rows}
use Rattle.tabulation.specs.Sheet.{class_of, classed, sheet_by}
use Rattle.tabulation.specs.declared.Row.{Row}
use Rattle.tabulation.proofs.Sheet.{same-sheet}
use Rattle.tabulation.proofs.Under.{rows-most, more, more-swap, more-twice, under, pooled-under, pooled-rises, rows_same}

-- an unmet line has no total
abbrev Clean : List Bool → List ℕ → Type 0
Clean met totals = (i : ℕ) → get_or met i false ≡ false → get_or totals i 0 ≡ 0

-- no line is met: no rows
none-met : (n k : ℕ) (codes : List ℕ) → line_rows codes (replicate n false) (replicate k 0) ≡ []
unfolding line_rows
none-met n k [] = refl
none-met zero k (c ∷ codes) = refl
none-met (suc n) zero (c ∷ codes) = refl
none-met (suc n) (suc k) (c ∷ codes) = none-met n k codes

module _ (class : ℕ) where
  -- one more household of the line i
  line-under : (i w : ℕ) (codes : List ℕ) (met : List Bool) (totals : List ℕ) → Clean met totals → i < length codes → i < length met → i < length totals
      → under class (line_rows codes (set met i true) (set totals i (get_or totals i 0 + w))) ≡ more (eqb (get_or codes i 0) class) w (under class (line_rows codes met totals))
  unfolding line_rows under
  line-under i w [] met totals clean a b d = absurd (not-suc-le-zero a)
  line-under i w (c ∷ codes) [] totals clean a b d = absurd (not-suc-le-zero b)
  line-under i w (c ∷ codes) (m ∷ met) [] clean a b d = absurd (not-suc-le-zero d)
  line-under zero w (c ∷ codes) (true ∷ met) (t ∷ totals) clean a b d = let e : t + w ≡ w + t = omega arith in rw e (more-twice (eqb c class) w t (under class (line_rows codes met totals)))
  line-under zero w (c ∷ codes) (false ∷ met) (t ∷ totals) clean a b d = let e : t + w ≡ w = omega (arith, clean 0 refl) in rw e
  line-under (suc i) w (c ∷ codes) (true ∷ met) (t ∷ totals) clean a b d =
      ap (more (eqb c class) t) (line-under i w codes met totals (λ j. clean (suc j)) (le_of_suc-le-suc a) (le_of_suc-le-suc b) (le_of_suc-le-suc d))
      ∙ more-swap (eqb c class) (eqb (get_or codes i 0) class) t w (under class (line_rows codes met totals))
  line-under (suc i) w (c ∷ codes) (false ∷ met) (t ∷ totals) clean a b d = line-under i w codes met totals (λ j. clean (suc j)) (le_of_suc-le-suc a) (le_of_suc-le-suc b) (le_of_suc-le-suc d)

  -- a weight more behind some rows is a weight more before them
  behind-under : (rows x y : List Row) (t : Bool) (w : ℕ) → under class x ≡ more t w (under class y) → under class (rows ++ x) ≡ more t w (under class (rows ++ y))
  unfolding under
  behind-under [] x y t w e = e
  behind-under (r ∷ rows) x y t w e =
      ap (more (eqb r.class class) r.total) (behind-under rows x y t w e) ∙ more-swap (eqb r.class class) t r.total w (under class (rows ++ y))

clean-next : (met : List Bool) (totals : List ℕ) (h : Household) → h.line < length met → Clean met totals → Clean (meet met h) (add_to totals h)
clean-next met totals h b clean i = go (eqb i h.line) refl
  where
    go : (t : Bool) → eqb i h.line ≡ t → get_or (meet met h) i false ≡ false → get_or (add_to totals h) i 0 ≡ 0
    go true e q = absurd (true≢false (sym (get_or-set_same met h.line true false b) ∙ ap (λ (j : ℕ). get_or (meet met h) j false) (sym (eqb-true i h.line e)) ∙ q))
    go false e q =
        get_or-set_other totals h.line i (get_or totals h.line 0 + h.weight) 0 (eqb-false i h.line e)
        ∙ clean i (sym (get_or-set_other met h.line i true false (eqb-false i h.line e)) ∙ q)

-- the households' lines are among the codes, and there are as many sums and marks as codes
pools-under : (class : ℕ) (codes : List ℕ) (hs : List Household) (met : List Bool) (totals : List ℕ) → length met ≡ length codes → length totals ≡ length codes → Clean met totals
    → all_b (λ (h : Household). ltb h.line (length codes)) hs ≡ true
    → under class (line_rows codes (met_after met hs) (totals_after totals hs)) ≡ under class (classed codes hs ++ line_rows codes met totals)
unfolding all_b under
pools-under class codes [] met totals m t clean all = refl
pools-under class codes (h ∷ hs) met totals m t clean all =
    let low : h.line < length codes = ltb-true _ _ (both-0 _ _ all) in
    pools-under class codes hs (meet met h) (add_to totals h) (length-set met h.line true ∙ m) (length-set totals h.line _ ∙ t) (clean-next met totals h (omega arith) clean) (both-1 _ _ all)
    ∙ behind-under class (classed codes hs) (line_rows codes (meet met h) (add_to totals h)) (line_rows codes met totals) (eqb (class_of codes h) class) h.weight
    (line-under class h.line h.weight codes met totals clean low (omega arith) (omega arith))

pub lines-most : (codes : List ℕ) (met : List Bool) (totals : List ℕ) → length (line_rows codes met totals) ≤ length codes
unfolding line_rows
lines-most [] met totals = omega arith
lines-most (c ∷ codes) [] totals = omega arith
lines-most (c ∷ codes) (m ∷ met) [] = omega arith
lines-most (c ∷ codes) (true ∷ met) (t ∷ totals) = omega (arith, lines-most codes met totals)
lines-most (c ∷ codes) (false ∷ met) (t ∷ totals) = omega (arith, lines-most codes met totals)

pub by-line : (codes : List ℕ) (hs : List Household) → length codes ≡ 64 → all_b (λ (h : Household). ltb h.line 64) hs ≡ true
    → pooled (line_rows codes (met_after none_met hs) (totals_after no_totals hs)) ≡ sheet_by codes hs
by-line codes hs long all = rows_same (pooled lines) (sheet_by codes hs) (pooled-rises lines) (pooled-rises (classed codes hs))
    (λ class. pooled-under class lines
    ∙ pools-under class codes hs none_met no_totals (sym long) (sym long) (λ i q. get_d_replicate 64 0 i) (rw long all)
    ∙ ap (under class) (ap (λ (l : List Row). classed codes hs ++ l) (none-met 64 64 codes) ∙ append-nil (classed codes hs))
    ∙ sym (pooled-under class (classed codes hs)))
  where
    lines : List Row
    lines = line_rows codes (met_after none_met hs) (totals_after no_totals hs)

-- ── at most 64 rows ──
-- the first 64 codes, with zeros where there are fewer: the same classes of lines below 64
abbrev codes64 : List ℕ → List ℕ
codes64 codes = take 64 (codes ++ replicate 64 0)

codes64-length : (codes : List ℕ) → length (codes64 codes) ≡ 64
codes64-length codes = length-take-le 64 (codes ++ replicate 64 0) (omega (arith, length-append codes (replicate 64 0)))

code64 : (codes : List ℕ) (line : ℕ) → line < 64 → get_or codes line 0 ≡ get_or (codes64 codes) line 0
code64 codes line h = sym (get_or-take 64 (codes ++ replicate 64 0) line 0 h ∙ past codes line)
  where
    past : (codes : List ℕ) (line : ℕ) → get_or (codes ++ replicate 64 0) line 0 ≡ get_or codes line 0
    past [] line = get_d_replicate 64 0 line
    past (c ∷ codes) zero = refl
    past (c ∷ codes) (suc line) = past codes line

all-mem : (t : Household → Bool) (hs : List Household) → all_b t hs ≡ true → (h : Household) → Memᴰ h hs → t h ≡ true
unfolding all_b
all-mem t [] all h m = elim m [ ]
all-mem t (x ∷ xs) all h (Memᴰ.head q) = rw q (both-0 _ _ all)
all-mem t (x ∷ xs) all h (Memᴰ.tail m) = all-mem t xs (both-1 _ _ all) h m

pub sheet-few : (codes : List ℕ) (hs : List Household) → all_b (λ (h : Household). ltb h.line 64) hs ≡ true → length (sheet_by codes hs) ≤ 64
sheet-few codes hs all =
    let same : sheet_by codes hs ≡ sheet_by (codes64 codes) hs = same-sheet codes (codes64 codes) hs (λ h m. code64 codes h.line (ltb-true h.line 64 (all-mem _ hs all h m))) in
    let lines = line_rows (codes64 codes) (met_after none_met hs) (totals_after no_totals hs) in
    omega (
      arith,
      ap length (same ∙ sym (by-line (codes64 codes) hs (codes64-length codes) all)),
      rows-most lines,
      lines-most (codes64 codes) (met_after none_met hs) (totals_after no_totals hs),
      codes64-length codes,
    )
