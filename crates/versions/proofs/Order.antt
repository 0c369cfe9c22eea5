-- Two vectors, count by count.
--     both-ways                               what is found both ways is the answer
--     WalkedTo, walked-first, walked_next     a walk over the counts, both ways: its start, and one office more
--     found-stands                            at its end, what was found both ways is the answer
--     sized                                   a vector has the length of one
-- Assumes nothing.
use mathlib.Core.Path.{◌≡◌, refl, sym, ap, ap₂, ◌∙◌}
use mathlib.Core.Bool.{Bool, true, ◌&&◌}
use mathlib.Core.List.{List, [], ◌∷◌}
use Prim.Native.Nat.{ℕ, ◌+◌, ◌*◌, ◌<◌, ◌≤◌}
use native.Mathlib.Omega.{arith}
use lib.Dec.{leb}
use lib.ListN.{length, get_or, take, drop, drop_of_length-le}
use lib.Seq.{length-take-le, get_or-take}
use borrow.Author.Tests.{eqb-true}
use Rattle.std.specs.Prelude.{nat_le}
use Rattle.std.specs.List.{list_all, zip}
use Rattle.lists.specs.Tests.{both}
use Rattle.lists.proofs.Tests.{both-assoc, both-comm}
use Rattle.lists.proofs.Walk.{and_both, rest-step}
use Rattle.versions.specs.Versions.{at_most, compared_to, is_vector, stands}

-- ── one way ──
-- what was found of the first k of n counts, and the rest
abbrev AtMostWith : ℕ → List ℕ → List ℕ → Bool → ℕ → Type 0
AtMostWith n a b good k = at_most (take n a) (take n b) ≡ both good (at_most (drop k (take n a)) (drop k (take n b)))

most-first : (a b : List ℕ) → at_most a b ≡ both true (at_most a b)
unfolding both
most-first a b = refl

most-next : (a b : List ℕ) (k : ℕ) → k < length a → k < length b → at_most (drop k a) (drop k b) ≡ both (leb (get_or a k 0) (get_or b k 0)) (at_most (drop (k + 1) a) (drop (k + 1) b))
unfolding at_most
most-next a b k h j = ap₂ at_most (rest-step 0 a k h) (rest-step 0 b k j)

most-last : (a b : List ℕ) (k : ℕ) → length a ≤ k → at_most (drop k a) (drop k b) ≡ true
unfolding at_most
most-last a b k h = ap (λ (l : List ℕ). at_most l (drop k b)) (drop_of_length-le a h)

module _ (n : ℕ) (a b : List ℕ) (la : n ≤ length a) (lb : n ≤ length b) (good : Bool) (k : ℕ) (inv : AtMostWith n a b good k) where
  way_next : k < n → AtMostWith n a b (good && leb (get_or a k 0) (get_or b k 0)) (k + 1)
  way_next h =
      let x : Bool = leb (get_or a k 0) (get_or b k 0) in
      let rest : Bool = at_most (drop (k + 1) (take n a)) (drop (k + 1) (take n b)) in
      inv ∙ ap (both good) (most-next (take n a) (take n b) k (omega (arith, length-take-le n a la)) (omega (arith, length-take-le n b lb))
      ∙ ap₂ (λ (p q : ℕ). both (leb p q) rest) (get_or-take n a k 0 h) (get_or-take n b k 0 h))
      ∙ sym (both-assoc good x rest) ∙ ap (λ (t : Bool). both t rest) (sym (and_both good x))

  way-done : n ≤ k → good ≡ at_most (take n a) (take n b)
  unfolding both
  way-done h = sym (inv ∙ ap (both good) (most-last (take n a) (take n b) k (omega (arith, length-take-le n a la))) ∙ both-comm good true)

-- ── both ways ──
abbrev pub WalkedTo : ℕ → List ℕ → List ℕ → Bool → Bool → ℕ → Type 0
WalkedTo n a b low high k = (k ≤ n) × (AtMostWith n a b low k × AtMostWith n b a high k)

pub walked-first : (n : ℕ) (a b : List ℕ) → 0 ≤ n → WalkedTo n a b true true 0
walked-first n a b h = (h, (most-first (take n a) (take n b), most-first (take n b) (take n a)))

module _ (n : ℕ) (a b : List ℕ) (la : n ≤ length a) (lb : n ≤ length b) (low high : Bool) (k : ℕ) (inv : WalkedTo n a b low high k) where
  pub walked_next : k < n → WalkedTo n a b (low && leb (get_or a k 0) (get_or b k 0)) (high && leb (get_or b k 0) (get_or a k 0)) (k + 1)
  walked_next h = (omega arith, (way_next n a b la lb low k inv.1.0 h, way_next n b a lb la high k inv.1.1 h))

  -- the walk is at its end, and found this both ways
  pub found-stands : n ≤ k → (l h : Bool) → low ≡ l → high ≡ h → stands l h ≡ compared_to (take n a) (take n b)
  unfolding compared_to
  found-stands e l h p q = ap₂ stands (sym p ∙ way-done n a b la lb low k inv.1.0 e) (sym q ∙ way-done n b a lb la high k inv.1.1 e)

-- ── vectors of one length ──
one-way : (a b : List ℕ) → length a ≡ length b → list_all (λ p. nat_le p.0 p.1) (zip a b) ≡ at_most a b
unfolding at_most
one-way [] b e = refl
one-way (x ∷ a) [] e = absurd (omega (arith, e))
one-way (x ∷ a) (y ∷ b) e = and_both (leb x y) (list_all (λ p. nat_le p.0 p.1) (zip a b)) ∙ ap (both (leb x y)) (one-way a b (omega (arith, e)))

pub both-ways : (a b : List ℕ) → length a ≡ length b → (low high : Bool) → low ≡ list_all (λ p. nat_le p.0 p.1) (zip a b)
    → high ≡ list_all (λ p. nat_le p.0 p.1) (zip b a) → stands low high ≡ compared_to a b
unfolding compared_to
both-ways a b e low high p q = ap₂ stands (p ∙ one-way a b e) (q ∙ one-way b a (sym e))

-- ── the bytes of a vector ──
pub sized : (n : ℕ) (s : List ℕ) → is_vector n s ≡ true → length s ≡ 8 * n
unfolding is_vector
sized n s e = eqb-true (length s) (8 * n) e
