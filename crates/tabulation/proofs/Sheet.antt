-- (vii) The household sheet.
--     sheet-is       the sheet is one: its classes rise, are those met, have the weights under them, and add up to the weights read
--     sheet-one      no other list of rows is
--     same-sheet     lines with equal codes give equal sheets
-- Assumes nothing.
use mathlib.Core.Path.{◌≡◌, refl, sym, ap, ap₂, ◌∙◌}
use mathlib.Core.List.Memᴰ
use mathlib.Core.List.{List, [], ◌∷◌, Memᴰ}
use Rattle.std.specs.Prelude.{Option, None, Some, unwrap_or}
use Rattle.std.proofs.lemmas.Option.{none-some}
use mathlib.Core.Logic.{◌⊎◌, inl, inr}
use Prim.Native.Nat.{ℕ, ◌+◌}
use lib.Dec.{eqb}
use Rattle.lists.specs.Tests.{pick}
use Rattle.households.specs.Households.{Household, weights_read}
use Rattle.tabulation.specs.Rows.{pooled, total_of}
use Rattle.tabulation.specs.Sheet.{class_of, classed, sheet_by, Rising, Listed, Met, weight_under, IsSheet}
use Rattle.tabulation.specs.declared.Row.{Row}
use Rattle.tabulation.proofs.Under.{under, more-weight, pooled-under, pooled-total, pooled-rises, rows_same, listed-under, under-listed, row_under}

weight-under : (codes : List ℕ) (c : ℕ) (hs : List Household) → unwrap_or (under c (classed codes hs)) 0 ≡ weight_under codes c hs
unfolding under weight_under
weight-under codes c [] = refl
weight-under codes c (h ∷ hs) =
    more-weight (eqb (class_of codes h) c) h.weight (under c (classed codes hs)) ∙ ap (λ (n : ℕ). pick (eqb (class_of codes h) c) h.weight 0 + n) (weight-under codes c hs)

weights-total : (codes : List ℕ) (hs : List Household) → total_of (classed codes hs) ≡ weights_read hs
unfolding total_of weights_read
weights-total codes [] = refl
weights-total codes (h ∷ hs) = ap (λ (n : ℕ). h.weight + n) (weights-total codes hs)

pub sheet-is : (codes : List ℕ) (hs : List Household) → IsSheet codes hs (sheet_by codes hs)
sheet-is codes hs = record {
  rises = rises;
  lists = λ c. (λ l. met c (listed-under c (sheet_by codes hs) l), λ m. listed c (listed-under c rows (row m.0, Memᴰ.map row m.1, m.2)));
  sums = λ r m. ap (λ (o : Option ℕ). unwrap_or o 0) (sym (row_under m rises) ∙ pooled-under r.class rows) ∙ weight-under codes r.class hs;
  adds-up = pooled-total rows ∙ weights-total codes hs;
}
  where
    row : Household → Row
    row h = record { class = class_of codes h; total = h.weight }

    rows : List Row
    rows = classed codes hs

    rises : Rising (sheet_by codes hs)
    rises = pooled-rises rows

    met : (c : ℕ) → (w : ℕ) × (under c (sheet_by codes hs) ≡ Some w) → Met codes c hs
    met c z =
        let l = under-listed c rows z.0 (sym (pooled-under c rows) ∙ z.1) in
        let k = Memᴰ.of_map row hs l.1 in
        (k.0, k.1, ap (λ (r : Row). r.class) k.2 ∙ l.2)

    listed : (c : ℕ) → (w : ℕ) × (under c rows ≡ Some w) → Listed c (sheet_by codes hs)
    listed c z = under-listed c (sheet_by codes hs) z.0 (pooled-under c rows ∙ z.1)

-- and no other list of rows is: the total under c is none where c is not met, else the weight under it
abbrev Told : List ℕ → List Household → ℕ → Option ℕ → Type 0
Told codes hs c o = ((o ≡ None) × (Met codes c hs → ⊥)) ⊎ ((o ≡ Some (weight_under codes c hs)) × Met codes c hs)

is-told : (codes : List ℕ) (hs : List Household) (rows : List Row) → IsSheet codes hs rows → (c : ℕ) → Told codes hs c (under c rows)
is-told codes hs rows is c = go (under c rows) refl
  where
    go : (o : Option ℕ) → under c rows ≡ o → Told codes hs c (under c rows)
    go None e = inl (e, λ m. let z = listed-under c rows ((is.lists c).1 m) in none-some z.0 (sym e ∙ z.1))
    go (Some w) e =
        let l = under-listed c rows w e in
        let own : under c rows ≡ Some l.0.total = ap (λ (d : ℕ). under d rows) (sym l.2) ∙ row_under l.1 is.rises in
        inr (own ∙ ap {B = Option ℕ} Some (is.sums l.0 l.1 ∙ ap (λ (d : ℕ). weight_under codes d hs) l.2), (is.lists c).0 l)

told-one : (codes : List ℕ) (hs : List Household) (c : ℕ) (o p : Option ℕ) → Told codes hs c o → Told codes hs c p → o ≡ p
told-one codes hs c o p (inl x) (inl y) = x.0 ∙ sym y.0
told-one codes hs c o p (inl x) (inr y) = absurd (x.1 y.1)
told-one codes hs c o p (inr x) (inl y) = absurd (y.1 x.1)
told-one codes hs c o p (inr x) (inr y) = x.0 ∙ sym y.0

pub sheet-one : (codes : List ℕ) (hs : List Household) (a b : List Row) → IsSheet codes hs a → IsSheet codes hs b → a ≡ b
sheet-one codes hs a b p q = rows_same a b p.rises q.rises (λ c. told-one codes hs c (under c a) (under c b) (is-told codes hs a p c) (is-told codes hs b q c))

-- "two offices with equal settled logs print equal sheets of the same households": their codes of the lines read are equal
pub same-sheet : (codes others : List ℕ) (hs : List Household) → ((h : Household) → Memᴰ h hs → class_of codes h ≡ class_of others h) → sheet_by codes hs ≡ sheet_by others hs
same-sheet codes others hs same = ap pooled (go hs same)
  where
    go : (hs : List Household) → ((h : Household) → Memᴰ h hs → class_of codes h ≡ class_of others h) → classed codes hs ≡ classed others hs
    go [] same = refl
    go (h ∷ hs) same = ap₂ (λ (c : ℕ) (l : List Row). record { class = c; total = h.weight } ∷ l) (same h (Memᴰ.head refl)) (go hs (λ x m. same x (Memᴰ.tail m)))
