-- The laws of `⊑` and `⊏`, and that the tests `begins` and `extends` decide them. Assumes nothing.
use mathlib.Core.Path.{◌≡◌, refl, sym, ◌∙◌}
use mathlib.Core.List.{List, [], ◌∷◌, ◌++◌}
use mathlib.Core.Bool.{true, false, true≢false}
use mathlib.Core.Logic.{◌⊎◌, inl, inr}
use Prim.Native.Nat.{ℕ, zero, suc, ◌≤◌, ◌<◌}
use native.Mathlib.Omega.{arith}
use lib.Dec.{eqb}
use lib.ListN as L
use lib.ListN.{length, drop}
use borrow.Author.Tests.{eqb-true, eq-eqb}
use Rattle.protocol.specs.Beginning.{◌⊑◌, ◌⊏◌, begins, extends}
use Rattle.lists.proofs.Tests.{and-true}

pub ⊑_refl : (a : List ℕ) → a ⊑ a
⊑_refl [] = tt
⊑_refl (x ∷ a) = (refl, ⊑_refl a)

pub ⊑_trans : (a b c : List ℕ) → a ⊑ b → b ⊑ c → a ⊑ c
⊑_trans [] b c p q = tt
⊑_trans (x ∷ a) [] c p q = absurd p
⊑_trans (x ∷ a) (y ∷ b) [] p q = absurd q
⊑_trans (x ∷ a) (y ∷ b) (z ∷ c) p q = (p.0 ∙ q.0, ⊑_trans a b c p.1 q.1)

pub ⊏-⊑ : (a b : List ℕ) → a ⊏ b → a ⊑ b
⊏-⊑ [] b p = tt
⊏-⊑ (x ∷ a) [] p = p
⊏-⊑ (x ∷ a) (y ∷ b) p = (p.0, ⊏-⊑ a b p.1)

pub ⊑-⊏-trans : (a b c : List ℕ) → a ⊑ b → b ⊏ c → a ⊏ c
⊑-⊏-trans [] [] c p q = q
⊑-⊏-trans [] (y ∷ b) [] p q = absurd q
⊑-⊏-trans [] (y ∷ b) (z ∷ c) p q = tt
⊑-⊏-trans (x ∷ a) [] c p q = absurd p
⊑-⊏-trans (x ∷ a) (y ∷ b) [] p q = absurd q
⊑-⊏-trans (x ∷ a) (y ∷ b) (z ∷ c) p q = (p.0 ∙ q.0, ⊑-⊏-trans a b c p.1 q.1)

pub ⊏-⊑-trans : (a b c : List ℕ) → a ⊏ b → b ⊑ c → a ⊏ c
⊏-⊑-trans [] [] c p q = absurd p
⊏-⊑-trans [] (y ∷ b) [] p q = absurd q
⊏-⊑-trans [] (y ∷ b) (z ∷ c) p q = tt
⊏-⊑-trans (x ∷ a) [] c p q = absurd p
⊏-⊑-trans (x ∷ a) (y ∷ b) [] p q = absurd q
⊏-⊑-trans (x ∷ a) (y ∷ b) (z ∷ c) p q = (p.0 ∙ q.0, ⊏-⊑-trans a b c p.1 q.1)

pub ⊏-irrefl : (a : List ℕ) → a ⊏ a → ⊥
⊏-irrefl [] p = p
⊏-irrefl (x ∷ a) p = ⊏-irrefl a p.1

pub ⊑-cases : (a b : List ℕ) → a ⊑ b → (a ≡ b) ⊎ (a ⊏ b)
⊑-cases [] [] p = inl refl
⊑-cases [] (y ∷ b) p = inr tt
⊑-cases (x ∷ a) [] p = absurd p
⊑-cases (x ∷ a) (y ∷ b) p = go (⊑-cases a b p.1)
  where
    go : (a ≡ b) ⊎ (a ⊏ b) → ((x ∷ a) ≡ (y ∷ b)) ⊎ ((x ∷ a) ⊏ (y ∷ b))
    go (inl e) = inl (cc (p.0, e))
    go (inr h) = inr (p.0, h)

pub ⊑-antisym : (a b : List ℕ) → a ⊑ b → b ⊑ a → a ≡ b
⊑-antisym a b p q = go (⊑-cases a b p)
  where
    go : (a ≡ b) ⊎ (a ⊏ b) → a ≡ b
    go (inl e) = e
    go (inr h) = absurd (⊏-irrefl a (⊏-⊑-trans a b a h q))

-- two beginnings of one list
pub ⊑-comparable : (a b c : List ℕ) → a ⊑ c → b ⊑ c → (a ⊑ b) ⊎ (b ⊏ a)
⊑-comparable [] b c p q = inl tt
⊑-comparable (x ∷ a) [] c p q = inr tt
⊑-comparable (x ∷ a) (y ∷ b) [] p q = absurd p
⊑-comparable (x ∷ a) (y ∷ b) (z ∷ c) p q = go (⊑-comparable a b c p.1 q.1)
  where
    go : (a ⊑ b) ⊎ (b ⊏ a) → ((x ∷ a) ⊑ (y ∷ b)) ⊎ ((y ∷ b) ⊏ (x ∷ a))
    go (inl h) = inl (p.0 ∙ sym q.0, h)
    go (inr h) = inr (q.0 ∙ sym p.0, h)

pub ⊑-append : (a b : List ℕ) → a ⊑ (a ++ b)
⊑-append [] b = tt
⊑-append (x ∷ a) b = (refl, ⊑-append a b)

-- what follows a beginning
pub ⊑-rest : (a b : List ℕ) → a ⊑ b → a ++ drop (length a) b ≡ b
⊑-rest [] b p = refl
⊑-rest (x ∷ a) [] p = absurd p
⊑-rest (x ∷ a) (y ∷ b) p = cc (p.0, ⊑-rest a b p.1)

-- one entry past a beginning
pub ⊏-next : (a b : List ℕ) → a ⊏ b → (x : ℕ) × ((a ++ (x ∷ [])) ⊑ b)
⊏-next [] [] p = absurd p
⊏-next [] (y ∷ b) p = (y, (refl, tt))
⊏-next (x ∷ a) [] p = absurd p
⊏-next (x ∷ a) (y ∷ b) p = let r = ⊏-next a b p.1 in (r.0, (p.0, r.1))

pub snoc-⊏ : (a b : List ℕ) (x : ℕ) → (a ++ (x ∷ [])) ⊑ b → a ⊏ b
snoc-⊏ [] [] x p = p
snoc-⊏ [] (y ∷ b) x p = tt
snoc-⊏ (z ∷ a) [] x p = p
snoc-⊏ (z ∷ a) (y ∷ b) x p = (p.0, snoc-⊏ a b x p.1)

pub snoc-same : (a b : List ℕ) (x y : ℕ) → (a ++ (x ∷ [])) ⊑ b → (a ++ (y ∷ [])) ⊑ b → x ≡ y
snoc-same [] [] x y p q = absurd p
snoc-same [] (z ∷ b) x y p q = p.0 ∙ sym q.0
snoc-same (w ∷ a) [] x y p q = absurd p
snoc-same (w ∷ a) (z ∷ b) x y p q = snoc-same a b x y p.1 q.1

pub snoc-cases : (a b : List ℕ) (x y : ℕ) → (a ++ (x ∷ [])) ⊑ (b ++ (y ∷ [])) → ((a ++ (x ∷ [])) ⊑ b) ⊎ ((a ≡ b) × (x ≡ y))
snoc-cases [] [] x y p = inr (refl, p.0)
snoc-cases [] (z ∷ b) x y p = inl (p.0, tt)
snoc-cases (w ∷ []) [] x y p = absurd p.1
snoc-cases (w ∷ v ∷ a) [] x y p = absurd p.1
snoc-cases (w ∷ a) (z ∷ b) x y p = go (snoc-cases a b x y p.1)
  where
    go : ((a ++ (x ∷ [])) ⊑ b) ⊎ ((a ≡ b) × (x ≡ y)) → ((w ∷ a ++ (x ∷ [])) ⊑ (z ∷ b)) ⊎ (((w ∷ a) ≡ (z ∷ b)) × (x ≡ y))
    go (inl h) = inl (p.0, h)
    go (inr h) = inr (cc (p.0, h.0), h.1)

-- a beginning with something after it
pub ⊏-cons : (a : List ℕ) (x : ℕ) (t : List ℕ) → a ⊏ (a ++ (x ∷ t))
⊏-cons [] x t = tt
⊏-cons (y ∷ a) x t = (refl, ⊏-cons a x t)

pub snoc-⊑ : (a : List ℕ) (x : ℕ) (t : List ℕ) → (a ++ (x ∷ [])) ⊑ (a ++ (x ∷ t))
snoc-⊑ [] x t = (refl, tt)
snoc-⊑ (y ∷ a) x t = (refl, snoc-⊑ a x t)

-- lengths
pub ⊑-length : (a b : List ℕ) → a ⊑ b → length a ≤ length b
⊑-length [] b p = omega arith
⊑-length (x ∷ a) [] p = absurd p
⊑-length (x ∷ a) (y ∷ b) p = omega (arith, ⊑-length a b p.1)

pub ⊏-length : (a b : List ℕ) → a ⊏ b → length a < length b
⊏-length [] [] p = absurd p
⊏-length [] (y ∷ b) p = omega arith
⊏-length (x ∷ a) [] p = absurd p
⊏-length (x ∷ a) (y ∷ b) p = omega (arith, ⊏-length a b p.1)

-- the first entries of a list
pub take-⊑ : (j : ℕ) (l : List ℕ) → L.take j l ⊑ l
take-⊑ zero l = tt
take-⊑ (suc j) [] = tt
take-⊑ (suc j) (x ∷ l) = (refl, take-⊑ j l)

-- nothing ends before the empty list
pub ⊏-nil : (a : List ℕ) → a ⊏ [] → ⊥
⊏-nil [] h = h
⊏-nil (x ∷ a) h = h

-- ── the tests ──
pub begins-true : (a b : List ℕ) → begins a b ≡ true → a ⊑ b
unfolding begins
begins-true [] b e = tt
begins-true (x ∷ a) [] e = absurd (true≢false (sym e))
begins-true (x ∷ a) (y ∷ b) e =
    let h = and-true (eqb x y) (begins a b) e in (eqb-true x y h.0, begins-true a b h.1)

pub extends-true : (b a : List ℕ) → extends b a ≡ true → a ⊏ b
unfolding extends
extends-true [] [] e = absurd (true≢false (sym e))
extends-true (y ∷ b) [] e = tt
extends-true [] (x ∷ a) e = absurd (true≢false (sym e))
extends-true (y ∷ b) (x ∷ a) e =
    let h = and-true (eqb x y) (extends b a) e in (eqb-true x y h.0, extends-true b a h.1)

pub begins-of : (a b : List ℕ) → a ⊑ b → begins a b ≡ true
unfolding begins
begins-of [] b p = refl
begins-of (x ∷ a) [] p = absurd p
begins-of (x ∷ a) (y ∷ b) p = rw (eq-eqb x y p.0) (begins-of a b p.1)

pub extends-of : (b a : List ℕ) → a ⊏ b → extends b a ≡ true
unfolding extends
extends-of [] [] p = absurd p
extends-of (y ∷ b) [] p = refl
extends-of [] (x ∷ a) p = absurd p
extends-of (y ∷ b) (x ∷ a) p = rw (eq-eqb x y p.0) (extends-of b a p.1)

pub extends-false : (b a : List ℕ) → extends b a ≡ false → a ⊏ b → ⊥
extends-false b a e p = true≢false (sym (extends-of b a p) ∙ e)
