-- An office's own entries among others.
--     entries-append, entries-few      of two lists; there are no more of them than of the list
--     stands-entries, entries-stand    they are those of the list that are the office's
--     one-own, one-other, one_none, one-whole    of one entry
--     own-next, own-done, count_next   a walk over them
-- Assumes nothing.
use mathlib.Core.Path.{◌≡◌, refl, sym, ap, ◌∙◌}
use mathlib.Core.List.{List, [], ◌∷◌, ◌++◌}
use mathlib.Core.Bool.{Bool, true, false, cond}
use Prim.Native.Nat.{ℕ, ◌+◌, ◌<◌, ◌≤◌}
use native.Mathlib.Omega.{arith}
use lib.Dec.{eqb}
use lib.ListN.{length, get_or, drop, length-append, drop_of_length-le}
use borrow.Author.Tests.{eqb-true, eq-eqb, ne_eqb}
use Rattle.lists.proofs.Tests.{if-cases}
use Rattle.lists.proofs.Walk.{rest-step}
use Rattle.protocol.specs.Entry.{office_of}
use Rattle.own_entries.specs.Parts.{entries_of, Stands}

pub entries-append : (k : ℕ) (a b : List ℕ) → entries_of k (a ++ b) ≡ entries_of k a ++ entries_of k b
unfolding entries_of
entries-append k [] b = refl
entries-append k (e ∷ a) b = go (eqb (office_of e) k) (entries-append k a b)
  where
    go : (t : Bool) → entries_of k (a ++ b) ≡ entries_of k a ++ entries_of k b → cond t (e ∷ entries_of k (a ++ b)) (entries_of k (a ++ b)) ≡ cond t (e ∷ entries_of k a) (entries_of k a) ++ entries_of k b
    go true h = ap (λ (l : List ℕ). e ∷ l) h
    go false h = h

pub stands-entries : (k : ℕ) (l : List ℕ) (e : ℕ) → office_of e ≡ k → Stands l e → Stands (entries_of k l) e
unfolding entries_of
stands-entries k l e h s = record {
  front = entries_of k s.front;
  rest = entries_of k s.rest;
  whole = ap (entries_of k) s.whole ∙ entries-append k s.front (e ∷ s.rest)
      ∙ ap (λ (t : Bool). entries_of k s.front ++ cond t (e ∷ entries_of k s.rest) (entries_of k s.rest)) (eq-eqb (office_of e) k h);
}

pub entries-stand : (k : ℕ) (l : List ℕ) (e : ℕ) → Stands (entries_of k l) e → (office_of e ≡ k) × Stands l e
unfolding entries_of
entries-stand k [] e s = none s.front s.whole
  where
    none : (a : List ℕ) → [] ≡ a ++ (e ∷ s.rest) → (office_of e ≡ k) × Stands [] e
    none [] q = let z : ◌≡◌ {A = ℕ} 0 1 = cc in absurd (omega arith)
    none (x ∷ a) q = let z : ◌≡◌ {A = ℕ} 0 1 = cc in absurd (omega arith)
entries-stand k (x ∷ l) e s = go (eqb (office_of x) k) refl s.front s.whole (entries-stand k l e)
  where
    later : (office_of e ≡ k) × Stands l e → (office_of e ≡ k) × Stands (x ∷ l) e
    later h = (h.0, record { front = x ∷ h.1.front; rest = h.1.rest; whole = ap (λ (r : List ℕ). x ∷ r) h.1.whole })

    go : (t : Bool) → eqb (office_of x) k ≡ t → (a : List ℕ) → cond t (x ∷ entries_of k l) (entries_of k l) ≡ a ++ (e ∷ s.rest)
        → (Stands (entries_of k l) e → (office_of e ≡ k) × Stands l e) → (office_of e ≡ k) × Stands (x ∷ l) e
    go true d [] q ih = let same : x ≡ e = cc in (ap office_of (sym same) ∙ eqb-true (office_of x) k d, record { front = []; rest = l; whole = ap (λ (z : ℕ). z ∷ l) same })
    go true d (y ∷ a) q ih = later (ih (record { front = a; rest = s.rest; whole = cc }))
    go false d a q ih = later (ih (record { front = a; rest = s.rest; whole = q }))

pub entries-few : (k : ℕ) (l : List ℕ) → length (entries_of k l) ≤ length l
unfolding entries_of
entries-few k [] = omega arith
entries-few k (e ∷ l) = if-cases (λ r. length r ≤ length (e ∷ l)) (eqb (office_of e) k) (e ∷ entries_of k l) (entries_of k l) (λ _. omega (arith, entries-few k l)) (λ _. omega (arith, entries-few k l))

-- ── one entry ──
pub one-own : (k e : ℕ) → office_of e ≡ k → entries_of k (e ∷ []) ≡ e ∷ []
unfolding entries_of
one-own k e h = rw (eq-eqb (office_of e) k h)

pub one-other : (k e : ℕ) → (office_of e ≡ k → ⊥) → entries_of k (e ∷ []) ≡ []
unfolding entries_of
one-other k e h = rw (ne_eqb (office_of e) k h)

-- by their number
pub one_none : (k e : ℕ) → length (entries_of k (e ∷ [])) ≡ 0 → entries_of k (e ∷ []) ≡ []
unfolding entries_of
one_none k e h = go (eqb (office_of e) k) h
  where
    go : (t : Bool) → length (cond t (e ∷ []) []) ≡ 0 → cond t (e ∷ []) [] ≡ []
    go true h = absurd (omega arith)
    go false h = refl

pub one-whole : (k e : ℕ) → (length (entries_of k (e ∷ [])) ≡ 0 → ⊥) → entries_of k (e ∷ []) ≡ e ∷ []
unfolding entries_of
one-whole k e h = go (eqb (office_of e) k) h
  where
    go : (t : Bool) → (length (cond t (e ∷ []) []) ≡ 0 → ⊥) → cond t (e ∷ []) [] ≡ e ∷ []
    go true h = refl
    go false h = absurd (h refl)

-- ── a walk ──
module _ (k : ℕ) (xs : List ℕ) (i : ℕ) where
  pub own-next : i < length xs → entries_of k (drop i xs) ≡ entries_of k (get_or xs i 0 ∷ []) ++ entries_of k (drop (i + 1) xs)
  own-next h = ap (entries_of k) (rest-step 0 xs i h) ∙ entries-append k (get_or xs i 0 ∷ []) (drop (i + 1) xs)

  pub own-done : length xs ≤ i → entries_of k (drop i xs) ≡ []
  unfolding entries_of
  own-done h = rw (drop_of_length-le xs h)

  pub count_next : i < length xs → length (entries_of k (drop i xs)) ≡ length (entries_of k (get_or xs i 0 ∷ [])) + length (entries_of k (drop (i + 1) xs))
  count_next h = ap length (own-next h) ∙ length-append (entries_of k (get_or xs i 0 ∷ [])) (entries_of k (drop (i + 1) xs))
