-- (xiii) Every small ballot sheet. All follows from what stands at each place.
--     tables-listed      the list has 2197 tables, every small table and nothing else, each once, and rises
--     small_at           each table is small
--     small-place        each small tail has its place
-- Assumes nothing.
use mathlib.Core.Path.{◌≡◌, refl, sym, ap, subst, ◌∙◌}
use mathlib.Core.List.Memᴰ
use mathlib.Core.List.{List, [], ◌∷◌, map, flat_map, Memᴰ}
use mathlib.Core.Bool.{Bool, true, false, true≢false}
use mathlib.Core.Logic.{◌⊎◌, inl, inr}
use Prim.Native.Nat.{ℕ, zero, suc, ◌/◌, ◌%◌, ◌≤◌, ◌<◌}
use native.Mathlib.Nat.{not-suc-le-zero, le_of_suc-le-suc, eq-or-lt_of_le}
use native.Mathlib.Omega.{arith}
use lib.ListN.{length, get_or}
use borrow.Author.Tests.{eqb-true, eq-eqb, ltb-true, leb-true, le-ltb}
use Rattle.lists.specs.Tests.{both, all_b}
use Rattle.lists.proofs.Tests.{both-0, both-1, both_true, all-at, all_of, all_get_d}
use Rattle.protocol.specs.Entry.{value, office_of, line_of, code_of}
use Rattle.tables.specs.Tables.{entries, one_longer, tails, tables, tail_at}
use Rattle.tables.specs.Listed.{small_entry, small_tail, small_table, values_before, tail_before, TableBefore, Listed}
use Rattle.tables.proofs.Places.{tails-13, tables-2197, table_is, with_two, with_one}

-- ── the order ──
rising : List (List ℕ) → Bool
rising [] = true
rising (t ∷ ts) = both (all_b (tail_before t) ts) (rising ts)

rising-at : (ts : List (List ℕ)) → rising ts ≡ true → (i j : ℕ) → i < j → j < length ts → tail_before (get_or ts i []) (get_or ts j []) ≡ true
unfolding rising
rising-at [] e i j h k = absurd (not-suc-le-zero k)
rising-at (t ∷ ts) e i zero h k = absurd (not-suc-le-zero h)
rising-at (t ∷ ts) e zero (suc j) h k = all-at (tail_before t) [] ts j (both-0 _ _ e) (le_of_suc-le-suc k)
rising-at (t ∷ ts) e (suc i) (suc j) h k = rising-at ts (both-1 _ _ e) i j (le_of_suc-le-suc h) (le_of_suc-le-suc k)

tails-rising : rising tails ≡ true
unfolding rising tails flat_map tail_before both all_b
tails-rising = refl

tails-rise : (i j : ℕ) → i < j → j < 13 → tail_before (tail_at i) (tail_at j) ≡ true
tails-rise i j h k = rising-at tails tails-rising i j h (rw tails-13 k)

-- by a tail, or where it is the same by what is behind it
by-tail : (i j : ℕ) (a b : List (List ℕ)) → i ≤ j → j < 13 → (i ≡ j → TableBefore a b) → TableBefore (tail_at i ∷ a) (tail_at j ∷ b)
by-tail i j a b h k next = go (eq-or-lt_of_le h)
  where
    go : (i ≡ j) ⊎ (i < j) → TableBefore (tail_at i ∷ a) (tail_at j ∷ b)
    go (inl e) = inr (ap tail_at e, next e)
    go (inr l) = inl (tails-rise i j l k)

rise : (i j : ℕ) → i < j → j < 2197 → TableBefore (get_or tables i []) (get_or tables j [])
rise i j h k = rw (table_is [] i (omega arith), table_is [] j k)
    (by-tail (i / 169) (j / 169) (tail_at (i / 13 % 13) ∷ tail_at (i % 13) ∷ []) (tail_at (j / 13 % 13) ∷ tail_at (j % 13) ∷ []) (omega arith) (omega arith) (λ p.
    by-tail (i / 13 % 13) (j / 13 % 13) (tail_at (i % 13) ∷ []) (tail_at (j % 13) ∷ []) (omega arith) (omega arith) (λ q.
    inl (tails-rise (i % 13) (j % 13) (omega arith) (omega arith)))))

-- ── no table twice ──
values-irrefl : (t : List ℕ) → values_before t t ≡ false
values-irrefl [] = refl
values-irrefl (x ∷ t) = rw (le-ltb x x (omega arith), eq-eqb x x refl) (values-irrefl t)

before-irrefl : (a : List (List ℕ)) → TableBefore a a → ⊥
unfolding tail_before
before-irrefl [] h = h
before-irrefl (t ∷ a) (inl e) = true≢false (sym e ∙ rw (le-ltb (length t) (length t) (omega arith), eq-eqb (length t) (length t) refl) (values-irrefl t))
before-irrefl (t ∷ a) (inr h) = before-irrefl a h.1

same_place : (i j : ℕ) → i < 2197 → j < 2197 → get_or tables i [] ≡ get_or tables j [] → i ≡ j
same_place i j h k e =
    let not-before : ¬ (i < j) = λ l. before-irrefl (get_or tables j []) (subst (λ (t : List (List ℕ)). TableBefore t (get_or tables j [])) e (rise i j l k)) in
    let not_behind : ¬ (j < i) = λ l. before-irrefl (get_or tables j []) (subst (TableBefore (get_or tables j [])) e (rise j i l h)) in
    omega arith

-- ── every small table ──
mem-flat : {A B : Type 0} (f : A → List B) {a : A} {b : B} {xs : List A} → Memᴰ a xs → Memᴰ b (f a) → Memᴰ b (flat_map f xs)
unfolding flat_map
mem-flat f {b} (Memᴰ.head {xs = xs} e) m = Memᴰ.append_left (flat_map f xs) (subst (λ x. Memᴰ b (f x)) e m)
mem-flat f (Memᴰ.tail {x = x} n) m = Memᴰ.append_right (f x) (mem-flat f n m)

office-entry : (k : ℕ) → k < 3 → Memᴰ (value k 0 0) entries
office-entry zero h = Memᴰ.head refl
office-entry (suc zero) h = Memᴰ.tail (Memᴰ.head refl)
office-entry (suc (suc zero)) h = Memᴰ.tail (Memᴰ.tail (Memᴰ.head refl))
office-entry (suc (suc (suc k))) h = absurd (omega arith)

small-value : (e : ℕ) → small_entry e ≡ true → Memᴰ e entries
unfolding small_entry
small-value e h =
    let office : office_of e < 3 = ltb-true (office_of e) 3 (both-0 _ _ h) in
    let line : line_of e ≡ 0 = eqb-true (line_of e) 0 (both-0 _ _ (both-1 _ _ h)) in
    let code : code_of e ≡ 0 = eqb-true (code_of e) 0 (both-1 _ _ (both-1 _ _ h)) in
    let same : e ≡ value (office_of e) 0 0 = omega arith in
    subst (λ (v : ℕ). Memᴰ v entries) (sym same) (office-entry (office_of e) office)

small-longer : (e : ℕ) (t : List ℕ) (ts : List (List ℕ)) → small_entry e ≡ true → Memᴰ t ts → Memᴰ (e ∷ t) (one_longer ts)
small-longer e t ts h m = mem-flat (λ (e : ℕ). map (λ (t : List ℕ). e ∷ t) ts) (small-value e h) (Memᴰ.map (λ (t : List ℕ). e ∷ t) m)

small-tail : (t : List ℕ) → small_tail t ≡ true → Memᴰ t tails
unfolding small_tail tails all_b
small-tail [] h = Memᴰ.head refl
small-tail (e ∷ []) h = Memᴰ.tail (Memᴰ.append_left _ (small-longer e [] ([] ∷ []) (both-0 _ _ (both-1 _ _ h)) (Memᴰ.head refl)))
small-tail (e ∷ f ∷ []) h =
    let last = small-longer f [] ([] ∷ []) (both-0 _ _ (both-1 _ _ (both-1 _ _ h))) (Memᴰ.head refl) in
    Memᴰ.tail (Memᴰ.append_right (one_longer ([] ∷ [])) (small-longer e (f ∷ []) (one_longer ([] ∷ [])) (both-0 _ _ (both-1 _ _ h)) last))
small-tail (e ∷ f ∷ g ∷ t) h = absurd (omega (arith, leb-true (length (e ∷ f ∷ g ∷ t)) 2 (both-0 _ _ h)))

small-three : (x y z : List ℕ) → small_tail x ≡ true → small_tail y ≡ true → small_tail z ≡ true → Memᴰ (x ∷ y ∷ z ∷ []) tables
unfolding tables
small-three x y z hx hy hz = mem-flat with_one (small-tail x hx) (mem-flat (with_two x) (small-tail y hy) (Memᴰ.map (λ (z : List ℕ). x ∷ y ∷ z ∷ []) (small-tail z hz)))

small-table : (t : List (List ℕ)) → small_table t ≡ true → Memᴰ t tables
unfolding small_table all_b
small-table (x ∷ y ∷ z ∷ []) h =
    let a = both-1 _ _ h in
    let b = both-1 _ _ a in
    small-three x y z (both-0 _ _ a) (both-0 _ _ b) (both-0 _ _ (both-1 _ _ b))
small-table [] h = absurd (true≢false (sym (both-0 _ _ h)))
small-table (x ∷ []) h = absurd (true≢false (sym (both-0 _ _ h)))
small-table (x ∷ y ∷ []) h = absurd (true≢false (sym (both-0 _ _ h)))
small-table (x ∷ y ∷ z ∷ w ∷ t) h = absurd (omega (arith, eqb-true (length (x ∷ y ∷ z ∷ w ∷ t)) 3 (both-0 _ _ h)))

-- what is in a list stands at a place of it
place : {A : Type 0} (d : A) {a : A} {xs : List A} → Memᴰ a xs → (i : ℕ) × ((i < length xs) × (get_or xs i d ≡ a))
place d (Memᴰ.head e) = (0, (omega arith, sym e))
place d (Memᴰ.tail m) = let p = place d m in (suc p.0, (omega (arith, p.1.0), p.1.1))

-- the place of a small tail
pub small-place : (t : List ℕ) → small_tail t ≡ true → (j : ℕ) × ((j < length tails) × (tail_at j ≡ t))
small-place t h = place [] (small-tail t h)

-- ── and nothing else ──
tails-small : (j : ℕ) → small_tail (tail_at j) ≡ true
unfolding tails flat_map small_tail small_entry both all_b
tails-small j = all_get_d small_tail [] tails j refl refl

pub small_at : (d : List (List ℕ)) (i : ℕ) → i < 2197 → small_table (get_or tables i d) ≡ true
unfolding small_table all_b
small_at d i h = rw (table_is d i h) (both_true _ _ refl (both_true _ _ (tails-small (i / 169)) (both_true _ _ (tails-small (i / 13 % 13)) (both_true _ _ (tails-small (i % 13)) refl))))

pub tables-listed : Listed tables
tables-listed = record {
  count = tables-2197;
  only = all_of small_table [] tables (λ i h. small_at [] i (rw tables-2197 at h));
  all = λ t h. place [] (small-table t h);
  once = λ t i j p q. same_place i j (rw tables-2197 at p.0) (rw tables-2197 at q.0) (p.1 ∙ sym q.1);
  rising = λ i j h k. rise i j h (rw tables-2197 at k);
}
