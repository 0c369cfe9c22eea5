-- Request (viii): the comparison from the end.
--     differ-exactly             it finds a difference exactly when neither log is a beginning of the other
--     places-most, places-all    it looks at shared places alone, and at all of them where it finds none
--     places-met                 where it finds one, the last place looked at differs, and no other
-- Assumes nothing.
use mathlib.Core.Path.{◌≡◌, refl, sym, ap, ◌∙◌}
use mathlib.Core.List.{List, [], ◌∷◌}
use mathlib.Core.Bool.{Bool, true, false, not, ◌&&◌, ◌||◌, true≢false}
use mathlib.Core.Logic.{◌⊎◌, inl, inr}
use Prim.Native.Nat.{ℕ, zero, suc, ◌≤◌, ◌<◌}
use native.Mathlib.Nat.{zero-min, min-zero, suc-min-suc, le_of_suc-le-suc, eq-or-lt_of_le, not-suc-le-zero}
use native.Mathlib.Omega.{arith}
use lib.Dec.{eqb}
use lib.ListN.{length}
use borrow.Author.Tests.{eqb-true, eqb-false, eq-eqb, ne_eqb}
use Rattle.lists.specs.Tests.{pick}
use Rattle.protocol.specs.Beginning.{begins, comparable}
use Rattle.shared_places.specs.FromEnd.{shared, same_at, differ_below, places_below, differ, places_from_end, FirstMet}

eqb_swap : (x y : ℕ) → eqb y x ≡ eqb x y
eqb_swap x y = go (eqb x y) refl
  where
    go : (t : Bool) → eqb x y ≡ t → eqb y x ≡ t
    go true e = eq-eqb y x (sym (eqb-true x y e))
    go false e = ne_eqb y x (λ q. eqb-false x y e (sym q))

if-or : (t u v : Bool) → pick t (u || v) true ≡ (pick t u true || v)
unfolding pick
if-or true u v = refl
if-or false u v = refl

neither : (t p q : Bool) → (not (p || q) || pick t false true) ≡ not ((t && p) || (t && q))
unfolding pick
neither true true q = refl
neither true false true = refl
neither true false false = refl
neither false true q = refl
neither false false true = refl
neither false false false = refl

-- a difference is one after the first place, or one there
differ-cons : (i x y : ℕ) (a b : List ℕ) → differ_below (suc i) (x ∷ a) (y ∷ b) ≡ (differ_below i a b || pick (eqb x y) false true)
unfolding differ_below pick
differ-cons zero x y a b = refl
differ-cons (suc i) x y a b = ap (λ (t : Bool). pick (same_at i a b) t true) (differ-cons i x y a b) ∙ if-or (same_at i a b) (differ_below i a b) (pick (eqb x y) false true)

-- "neither settled log is a beginning of the other"
pub differ-exactly : (a b : List ℕ) → differ a b ≡ not (comparable a b)
unfolding begins differ_below pick
differ-exactly [] b = rw zero-min
differ-exactly (x ∷ a) [] = rw min-zero
differ-exactly (x ∷ a) (y ∷ b) =
    ap (λ (n : ℕ). differ_below n (x ∷ a) (y ∷ b)) (suc-min-suc (length a) (length b))
    ∙ differ-cons (shared a b) x y a b
    ∙ rw (eqb_swap x y, differ-exactly a b) (neither (eqb x y) (begins a b) (begins b a))

-- ── the places looked at ──
module _ (a b : List ℕ) where
  -- all the places below i, or those down to the first difference met
  abbrev Looked : ℕ → Type 0
  Looked i = ((differ_below i a b ≡ false) × (places_below i a b ≡ i)) ⊎ ((differ_below i a b ≡ true) × FirstMet i a b)

  looked : (i : ℕ) → Looked i
  unfolding differ_below places_below pick
  looked zero = inl (refl, refl)
  looked (suc i) = go (same_at i a b) refl (looked i)
    where
      behind : (m : FirstMet i a b) → same_at i a b ≡ true → (j : ℕ) → m.0 < j → (j ≡ i) ⊎ (j < i) → same_at j a b ≡ true
      behind m q j h (inl s) = rw s q
      behind m q j h (inr k) = m.3 j h k

      go : (t : Bool) → same_at i a b ≡ t → Looked i → Looked (suc i)
      go false q l = inr (rw q, (i, rw q (omega arith), q, λ j h k. absurd (not-suc-le-zero {n = 0} (omega arith))))
      go true q (inl l) = inl (rw q l.0, rw q (ap suc l.1))
      go true q (inr l) = let m = l.1 in inr (rw q l.0, (m.0, rw q (omega (arith, m.1)), m.2, λ j h k. behind m q j h (eq-or-lt_of_le (le_of_suc-le-suc k))))

  pub places-most : places_from_end a b ≤ shared a b
  places-most = go (looked (shared a b))
    where
      go : Looked (shared a b) → places_from_end a b ≤ shared a b
      go (inl l) = omega (arith, l.1)
      go (inr l) = omega (arith, l.1.1)

  -- "every shared place if none differs"
  pub places-all : differ a b ≡ false → places_from_end a b ≡ shared a b
  places-all e = go (looked (shared a b))
    where
      go : Looked (shared a b) → places_from_end a b ≡ shared a b
      go (inl l) = l.1
      go (inr l) = absurd (true≢false (sym l.0 ∙ e))

  -- "up to and including the first difference met"
  pub places-met : differ a b ≡ true → FirstMet (shared a b) a b
  places-met e = go (looked (shared a b))
    where
      go : Looked (shared a b) → FirstMet (shared a b) a b
      go (inl l) = absurd (true≢false (sym e ∙ l.0))
      go (inr l) = l.1
