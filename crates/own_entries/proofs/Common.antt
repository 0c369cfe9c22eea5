-- The common beginning of two lists of entries.
--     common-left, common-right, common-is     it is the longest beginning of both
--     common-behind, common-take, common-same  behind a list that both begin with; as the first elements of the one; of a list with itself
--     common-next, common-stop, common-done    a walk that tells its length: two elements are alike, two are not, one list is at its end
--     common-short, common-more, kept_more     of a list in two parts: the first has not all of it, or has
-- Assumes nothing.
use mathlib.Core.Path.{◌≡◌, refl, sym, ap, ◌∙◌}
use mathlib.Core.List.{List, [], ◌∷◌, ◌++◌}
use mathlib.Core.Bool.{Bool, true, false, cond}
use mathlib.Core.Logic.{◌↔◌}
use Prim.Native.Nat.{ℕ, zero, suc, ◌+◌, ◌<◌, ◌≤◌, min}
use native.Mathlib.Omega.{arith}
use lib.Dec.{eqb}
use lib.ListN.{length, get_or, take, drop}
use borrow.Author.Tests.{eqb-true, eq-eqb, ne_eqb}
use Rattle.lists.proofs.Tests.{if-cases}
use Rattle.lists.proofs.Walk.{rest-step}
use Rattle.protocol.specs.Beginning.{◌⊑◌}
use Rattle.protocol_laws.proofs.Beginning.{⊑_trans}
use Rattle.own_entries.specs.Parts.{common}

pub common-left : (a b : List ℕ) → common a b ⊑ a
unfolding common
common-left [] b = tt
common-left (x ∷ a) [] = tt
common-left (x ∷ a) (y ∷ b) = if-cases (λ r. r ⊑ (x ∷ a)) (eqb x y) (x ∷ common a b) [] (λ _. (refl, common-left a b)) (λ _. tt)

pub common-right : (a b : List ℕ) → common a b ⊑ b
unfolding common
common-right [] b = tt
common-right (x ∷ a) [] = tt
common-right (x ∷ a) (y ∷ b) = if-cases (λ r. r ⊑ (y ∷ b)) (eqb x y) (x ∷ common a b) [] (λ e. (eqb-true x y e, common-right a b)) (λ _. tt)

pub common-most : (q a b : List ℕ) → q ⊑ a → q ⊑ b → q ⊑ common a b
unfolding common
common-most [] a b p r = tt
common-most (z ∷ q) [] b p r = p
common-most (z ∷ q) (x ∷ a) [] p r = r
common-most (z ∷ q) (x ∷ a) (y ∷ b) p r = rw (eq-eqb x y (sym p.0 ∙ r.0)) (p.0, common-most q a b p.1 r.1)

-- it is the longest
pub common-is : (q a b : List ℕ) → (q ⊑ common a b) ↔ ((q ⊑ a) × (q ⊑ b))
common-is q a b = (λ h. (⊑_trans q (common a b) a h (common-left a b), ⊑_trans q (common a b) b h (common-right a b)), λ h. common-most q a b h.0 h.1)

-- with more behind the one it is no shorter
pub common-grows : (t l p : List ℕ) → l ⊑ p → common t l ⊑ common t p
common-grows t l p h = common-most (common t l) t p (common-left t l) (⊑_trans (common t l) l p (common-right t l) h)

-- behind a common log
pub common-behind : (l t x : List ℕ) → l ⊑ x → l ++ common t (drop (length l) x) ≡ common (l ++ t) x
unfolding common
common-behind [] t x h = refl
common-behind (z ∷ l) t [] h = absurd h
common-behind (z ∷ l) t (y ∷ x) h = rw (eq-eqb z y h.0) (ap (λ (r : List ℕ). z ∷ r) (common-behind l t x h.1))

-- a beginning is so many of the first elements
begin-take : (a b : List ℕ) → a ⊑ b → a ≡ take (length a) b
begin-take [] b h = refl
begin-take (x ∷ a) [] h = absurd h
begin-take (x ∷ a) (y ∷ b) h = rw h.0 (ap (λ (r : List ℕ). y ∷ r) (begin-take a b h.1))

pub common-take : (t l : List ℕ) → common t l ≡ take (length (common t l)) t
common-take t l = begin-take (common t l) t (common-left t l)

pub common-same : (a : List ℕ) → common a a ≡ a
unfolding common
common-same [] = refl
common-same (x ∷ a) = rw (eq-eqb x x refl) (ap (λ (r : List ℕ). x ∷ r) (common-same a))

-- ── a walk ──
module _ (a b : List ℕ) (i : ℕ) (here : i < length a) (there : i < length b) where
  pub common-next : get_or a i 0 ≡ get_or b i 0 → length (common (drop i a) (drop i b)) ≡ 1 + length (common (drop (i + 1) a) (drop (i + 1) b))
  unfolding common
  common-next e = rw (rest-step 0 a i here, rest-step 0 b i there, eq-eqb (get_or a i 0) (get_or b i 0) e) (omega arith)

  pub common-stop : (get_or a i 0 ≡ get_or b i 0 → ⊥) → length (common (drop i a) (drop i b)) ≡ 0
  unfolding common
  common-stop e = rw (rest-step 0 a i here, rest-step 0 b i there, ne_eqb (get_or a i 0) (get_or b i 0) e)

pub common-none : (a : List ℕ) → common a [] ≡ []
unfolding common
common-none [] = refl
common-none (x ∷ a) = refl

pub common-done : (a b : List ℕ) (i : ℕ) → min (length a) (length b) ≤ i → length (common (drop i a) (drop i b)) ≡ 0
unfolding common
common-done [] b i h = nothing i
  where
    nothing : (i : ℕ) → length (common (drop i []) (drop i b)) ≡ 0
    nothing zero = refl
    nothing (suc i) = refl
common-done (x ∷ a) [] zero h = refl
common-done (x ∷ a) [] (suc i) h = ap length (common-none (drop i a))
common-done (x ∷ a) (y ∷ b) zero h = absurd (omega arith)
common-done (x ∷ a) (y ∷ b) (suc i) h = common-done a b i (omega arith)

-- ── a list in two parts ──
pub common-short : (t l a : List ℕ) → length (common t l) < length l → length (common t (l ++ a)) ≡ length (common t l)
unfolding common
common-short [] l a h = refl
common-short (x ∷ t) [] a h = absurd (omega arith)
common-short (x ∷ t) (y ∷ l) a h = go (eqb x y) h (common-short t l a)
  where
    go : (b : Bool) → length (cond b (x ∷ common t l) []) < suc (length l) → (length (common t l) < length l → length (common t (l ++ a)) ≡ length (common t l))
        → length (cond b (x ∷ common t (l ++ a)) []) ≡ length (cond b (x ∷ common t l) [])
    go true h ih = ap suc (ih (omega arith))
    go false h ih = refl

pub common-more : (t l a : List ℕ) → length l ≤ length (common t l) → length (common t (l ++ a)) ≡ length (common t l) + length (common (drop (length (common t l)) t) a)
unfolding common
common-more [] [] a h = refl
common-more [] (y ∷ l) a h = absurd (omega arith)
common-more (x ∷ t) [] a h = omega arith
common-more (x ∷ t) (y ∷ l) a h = go (eqb x y) h (common-more t l a)
  where
    go : (b : Bool) → suc (length l) ≤ length (cond b (x ∷ common t l) [])
        → (length l ≤ length (common t l) → length (common t (l ++ a)) ≡ length (common t l) + length (common (drop (length (common t l)) t) a))
        → length (cond b (x ∷ common t (l ++ a)) []) ≡ length (cond b (x ∷ common t l) []) + length (common (drop (length (cond b (x ∷ common t l) [])) (x ∷ t)) a)
    go true h ih = omega (arith, ih (omega arith))
    go false h ih = absurd (omega arith)

-- by the length that the first part has
pub kept_more : (t l a : List ℕ) (s : ℕ) → s ≡ length (common t l) → length l ≤ s → length (common t (l ++ a)) ≡ s + length (common (drop s t) a)
kept_more t l a s e h = common-more t l a (omega arith) ∙ ap (λ (j : ℕ). j + length (common (drop j t) a)) (sym e)
