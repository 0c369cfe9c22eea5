-- Rows as totals under classes: pooling changes no total, and rows that rise are known by their totals.
--     under                                the total under a class; none where no row has it
--     pool-under, pooled-under             pooling keeps it
--     pooled-total                         the totals together stay
--     rows-most                            there are no more of them
--     pooled-rises                         pooled rows rise
--     rows_same                            rows that rise, with the same total under each class, are the same
--     listed-under, under-listed           a class has a total exactly where it is listed
-- Assumes nothing.
use mathlib.Core.Path.{◌≡◌, refl, sym, ap, ap₂, subst, ◌∙◌}
use mathlib.Core.List.{List, [], ◌∷◌, Memᴰ}
use Rattle.std.specs.Prelude.{Option, None, Some, unwrap_or}
use Rattle.std.proofs.lemmas.Option.{none-some, same_Some}
use mathlib.Core.Bool.{Bool, true, false}
use Prim.Native.Nat.{ℕ, ◌+◌, ◌≤◌, ◌<◌}
use native.Mathlib.Omega.{arith}
use lib.Dec.{eqb, ltb, leb}
use lib.ListN.{length}
use borrow.Author.Tests.{eqb-true, eqb-false, eq-eqb, ne_eqb, ltb-true, ltb-false, lt-ltb, leb-true, le-leb}
use Rattle.lists.specs.Tests.{pick, all_b}
use Rattle.lists.proofs.Tests.{both-0, both-1, both_true, all-mono, pick-cases}
use Rattle.tabulation.specs.Rows.{pool, pooled, total_of}
use Rattle.tabulation.specs.Sheet.{Rising, Listed}
use Rattle.tabulation.specs.declared.Row.{Row}

-- ── the total under a class ──
-- a weight more, where the test holds
unfoldable pub more : Bool → ℕ → Option ℕ → Option ℕ
more true w o = Some (w + unwrap_or o 0)
more false w o = o

pub more-swap : (s t : Bool) (v w : ℕ) (o : Option ℕ) → more s v (more t w o) ≡ more t w (more s v o)
unfolding more
more-swap true true v w o = ap {B = Option ℕ} Some (omega arith)
more-swap true false v w o = refl
more-swap false true v w o = refl
more-swap false false v w o = refl

pub more-twice : (t : Bool) (v w : ℕ) (o : Option ℕ) → more t (v + w) o ≡ more t v (more t w o)
unfolding more
more-twice true v w o = ap {B = Option ℕ} Some (omega arith)
more-twice false v w o = refl

more-some : (t : Bool) (v w : ℕ) (o : Option ℕ) → o ≡ Some w → (z : ℕ) × (more t v o ≡ Some z)
unfolding more
more-some true v w o e = (v + unwrap_or o 0, refl)
more-some false v w o e = (w, e)

pub more-weight : (t : Bool) (w : ℕ) (o : Option ℕ) → unwrap_or (more t w o) 0 ≡ pick t w 0 + unwrap_or o 0
unfolding more pick
more-weight true w o = refl
more-weight false w o = omega arith

-- none where no row has the class
unfoldable pub under : ℕ → List Row → Option ℕ
under c [] = None
under c (r ∷ rows) = more (eqb r.class c) r.total (under c rows)

-- a row is pooled with the first, comes before it, or goes on behind it
pub pool-cases : (P : List Row → Type 0) (r s : Row) (rows : List Row)
    → (r.class ≡ s.class → P (record { class = s.class; total = r.total + s.total } ∷ rows))
    → (r.class < s.class → P (r ∷ s ∷ rows))
    → (s.class < r.class → P (s ∷ pool r rows))
    → P (pool r (s ∷ rows))
unfolding pool
pool-cases P r s rows same before behind =
    pick-cases P (eqb r.class s.class) _ _ (λ q. same (eqb-true r.class s.class q))
    (λ n. pick-cases P (ltb r.class s.class) _ _ (λ q. before (ltb-true _ _ q))
    (λ q. behind (omega (arith, ltb-false r.class s.class q, eqb-false r.class s.class n))))

pool-under : (c : ℕ) (r : Row) (rows : List Row) → under c (pool r rows) ≡ more (eqb r.class c) r.total (under c rows)
unfolding under pool
pool-under c r [] = refl
pool-under c r (s ∷ rows) = pool-cases (λ l. under c l ≡ more (eqb r.class c) r.total (under c (s ∷ rows))) r s rows
    (λ q. rw q (more-twice (eqb s.class c) r.total s.total (under c rows)))
    (λ _. refl)
    (λ _. ap (more (eqb s.class c) s.total) (pool-under c r rows) ∙ more-swap (eqb s.class c) (eqb r.class c) s.total r.total (under c rows))

pub pooled-under : (c : ℕ) (rows : List Row) → under c (pooled rows) ≡ under c rows
unfolding under pooled
pooled-under c [] = refl
pooled-under c (r ∷ rows) = pool-under c r (pooled rows) ∙ ap (more (eqb r.class c) r.total) (pooled-under c rows)

pub pool-total : (r : Row) (rows : List Row) → total_of (pool r rows) ≡ r.total + total_of rows
unfolding total_of pool
pool-total r [] = refl
pool-total r (s ∷ rows) = pool-cases (λ l. total_of l ≡ r.total + total_of (s ∷ rows)) r s rows (λ _. omega arith) (λ _. refl) (λ _. omega (arith, pool-total r rows))

pub pooled-total : (rows : List Row) → total_of (pooled rows) ≡ total_of rows
unfolding pooled total_of
pooled-total [] = refl
pooled-total (r ∷ rows) = omega (arith, pool-total r (pooled rows), pooled-total rows)

pool-most : (r : Row) (rows : List Row) → length (pool r rows) ≤ length rows + 1
unfolding pool
pool-most r [] = omega arith
pool-most r (s ∷ rows) = pool-cases (λ l. length l ≤ length (s ∷ rows) + 1) r s rows (λ _. omega arith) (λ _. omega arith) (λ _. omega (arith, pool-most r rows))

pub rows-most : (rows : List Row) → length (pooled rows) ≤ length rows
unfolding pooled
rows-most [] = omega arith
rows-most (r ∷ rows) = omega (arith, pool-most r (pooled rows), rows-most rows)

-- ── rows that rise ──
-- every class comes after c
abbrev After : ℕ → List Row → Type 0
After c rows = all_b (λ (s : Row). ltb c s.class) rows ≡ true

after-before : (c d : ℕ) (rows : List Row) → c < d → After d rows → After c rows
after-before c d rows h = all-mono _ _ (λ s q. lt-ltb c s.class (omega (arith, ltb-true d s.class q))) rows

pool-after : (c : ℕ) (r : Row) (rows : List Row) → c < r.class → After c rows → After c (pool r rows)
unfolding all_b pool
pool-after c r [] p q = both_true _ _ (lt-ltb c r.class p) q
pool-after c r (s ∷ rows) p q = pool-cases (After c) r s rows
    (λ _. q)
    (λ _. both_true _ _ (lt-ltb c r.class p) q)
    (λ _. both_true _ _ (both-0 _ _ q) (pool-after c r rows p (both-1 _ _ q)))

pool-rises : (r : Row) (rows : List Row) → Rising rows → Rising (pool r rows)
unfolding pool all_b
pool-rises r [] h = (refl, tt)
pool-rises r (s ∷ rows) h = pool-cases Rising r s rows
    (λ _. h)
    (λ b. (both_true _ _ (lt-ltb r.class s.class b) (after-before r.class s.class rows b h.0), h))
    (λ b. (pool-after s.class r rows b h.0, pool-rises r rows h.1))

pub pooled-rises : (rows : List Row) → Rising (pooled rows)
unfolding pooled
pooled-rises [] = tt
pooled-rises (r ∷ rows) = pool-rises r (pooled rows) (pooled-rises rows)

-- what holds of every row's class holds of a class that has a total
under_all : (t : ℕ → Bool) (c : ℕ) (rows : List Row) (w : ℕ) → all_b (λ (s : Row). t s.class) rows ≡ true → under c rows ≡ Some w → t c ≡ true
unfolding all_b under more
under_all t c [] w p e = absurd (none-some w e)
under_all t c (r ∷ rows) w p e = go (eqb r.class c) refl e (under_all t c rows w (both-1 _ _ p))
  where
    go : (u : Bool) → eqb r.class c ≡ u → more u r.total (under c rows) ≡ Some w → (under c rows ≡ Some w → t c ≡ true) → t c ≡ true
    go true q e again = rw (← eqb-true r.class c q) (both-0 _ _ p)
    go false q e again = again e

after_none : (c : ℕ) (rows : List Row) → After c rows → under c rows ≡ None
after_none c rows p = go (under c rows) refl
  where
    go : (o : Option ℕ) → under c rows ≡ o → o ≡ None
    go None e = refl
    go (Some w) e = absurd (omega (arith, ltb-true c c (under_all (λ d. ltb c d) c rows w p e)))

first_under : (r : Row) (rows : List Row) → After r.class rows → under r.class (r ∷ rows) ≡ Some r.total
unfolding under more
first_under r rows p = rw (eq-eqb r.class r.class refl, after_none r.class rows p) (ap {B = Option ℕ} Some (omega arith))

first-least : (c : ℕ) (r : Row) (rows : List Row) (w : ℕ) → After r.class rows → under c (r ∷ rows) ≡ Some w → r.class ≤ c
unfolding all_b
first-least c r rows w p e = leb-true r.class c (under_all (λ d. leb r.class d) c (r ∷ rows) w
    (both_true _ _ (le-leb r.class r.class (omega arith))
    (all-mono _ _ (λ s q. le-leb r.class s.class (omega (arith, ltb-true r.class s.class q))) rows p)) e)

rest-same : (r : Row) (a b : List Row) → After r.class a → After r.class b → ((c : ℕ) → under c (r ∷ a) ≡ under c (r ∷ b)) → (c : ℕ) → under c a ≡ under c b
unfolding under more
rest-same r a b p q same c = go (eqb r.class c) refl (same c)
  where
    go : (u : Bool) → eqb r.class c ≡ u → more u r.total (under c a) ≡ more u r.total (under c b) → under c a ≡ under c b
    go true e d = rw (← eqb-true r.class c e) (after_none r.class a p ∙ sym (after_none r.class b q))
    go false e d = d

-- rows that rise are known by their totals
pub rows_same : (a b : List Row) → Rising a → Rising b → ((c : ℕ) → under c a ≡ under c b) → a ≡ b
unfolding under
rows_same [] [] ra rb same = refl
rows_same [] (s ∷ b) ra rb same = absurd (none-some s.total (same s.class ∙ first_under s b rb.0))
rows_same (r ∷ a) [] ra rb same = absurd (none-some r.total (sym (same r.class) ∙ first_under r a ra.0))
rows_same (r ∷ a) (s ∷ b) ra rb same =
    let first = first-row r s a b ra.0 rb.0 same in
    let rest : (After r.class b) × ((c : ℕ) → under c (r ∷ a) ≡ under c (r ∷ b)) =
    subst (λ (x : Row). (After x.class b) × ((c : ℕ) → under c (r ∷ a) ≡ under c (x ∷ b))) (sym first) (rb.0, same) in
    ap₂ (λ (x : Row) (l : List Row). x ∷ l) first (rows_same a b ra.1 rb.1 (rest-same r a b ra.0 rest.0 rest.1))
  where
    first-row : (r s : Row) (a b : List Row) → After r.class a → After s.class b → ((c : ℕ) → under c (r ∷ a) ≡ under c (s ∷ b)) → r ≡ s
    first-row r s a b p q same =
        let theirs : under r.class (s ∷ b) ≡ Some r.total = sym (same r.class) ∙ first_under r a p in
        let ours : under s.class (r ∷ a) ≡ Some s.total = same s.class ∙ first_under s b q in
        let class : r.class ≡ s.class = omega (arith, first-least r.class s b r.total q theirs, first-least s.class r a s.total p ours) in
        let total : r.total ≡ s.total = same_Some r.total s.total (sym theirs ∙ ap (λ (c : ℕ). under c (s ∷ b)) class ∙ first_under s b q) in
        ap₂ (λ (c : ℕ) (w : ℕ). record { class = c; total = w }) class total

-- a class has a total exactly where it is listed
mem-under : {r : Row} {rows : List Row} → Memᴰ r rows → (w : ℕ) × (under r.class rows ≡ Some w)
unfolding under more
mem-under {r} (Memᴰ.head {x = x} {xs = xs} q) = (x.total + unwrap_or (under r.class xs) 0, rw (eq-eqb x.class r.class (ap (λ (y : Row). y.class) (sym q))))
mem-under {r} (Memᴰ.tail {x = x} {xs = xs} m) = let z = mem-under m in more-some (eqb x.class r.class) x.total z.0 (under r.class xs) z.1

pub listed-under : (c : ℕ) (rows : List Row) → Listed c rows → (w : ℕ) × (under c rows ≡ Some w)
listed-under c rows l = rw (← l.2) (mem-under l.1)

pub under-listed : (c : ℕ) (rows : List Row) (w : ℕ) → under c rows ≡ Some w → Listed c rows
unfolding under more
under-listed c [] w e = absurd (none-some w e)
under-listed c (r ∷ rows) w e = go (eqb r.class c) refl e (under-listed c rows w)
  where
    go : (u : Bool) → eqb r.class c ≡ u → more u r.total (under c rows) ≡ Some w → (under c rows ≡ Some w → Listed c rows) → Listed c (r ∷ rows)
    go true q e again = (r, Memᴰ.head refl, eqb-true r.class c q)
    go false q e again = let l = again e in (l.0, Memᴰ.tail l.1, l.2)

-- where the rows rise, its own row's
pub row_under : {r : Row} {rows : List Row} → Memᴰ r rows → Rising rows → under r.class rows ≡ Some r.total
unfolding under more
row_under {r} (Memᴰ.head {x = x} {xs = xs} q) h = subst (λ (y : Row). under y.class (x ∷ xs) ≡ Some y.total) (sym q) (first_under x xs h.0)
row_under {r} (Memᴰ.tail {x = x} {xs = xs} m) h =
    let own = row_under m h.1 in
    let before : x.class < r.class = ltb-true _ _ (under_all (λ d. ltb x.class d) r.class xs r.total h.0 own) in
    rw (ne_eqb x.class r.class (λ q. omega arith)) own
