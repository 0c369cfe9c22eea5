-- Choices of weights within bounds, and which of them is worst for an entry.
--     fits-true, fits-of         the test `fits` and the order `≼`, both ways
--     ≼_refl, ≼-length           bounds that meet are a choice; a choice has as many weights as the bounds
--     worst-low, worst-high      the worst choice for an entry is a choice
--     worst-worse                no choice gives the entry less, another entry more, or more to the offices with no ballot
--     worst-met                  of bounds that meet it is the only one
-- Assumes nothing.
use mathlib.Core.Path.{◌≡◌, refl, sym, ap, ap₂, ◌∙◌}
use mathlib.Core.List.{List, [], ◌∷◌}
use Rattle.std.specs.Prelude.{Option, None, Some}
use mathlib.Core.Bool.{Bool, true, false, cond, true≢false}
use Prim.Native.Nat.{ℕ, suc, ◌≤◌}
use native.Mathlib.Omega.{arith}
use lib.Dec.{eqb}
use lib.ListN.{length}
use borrow.Author.Tests.{eqb-true, ne_eqb, leb-true, le-leb}
use Rattle.lists.proofs.Tests.{if-cases, both-0, both-1, both_true}
use Rattle.protocol.specs.Vote.{Votes, later, is_for, is_none, tally, unheard}
use Rattle.bounds.specs.Bounds.{◌≼◌, fits, worst}

pub fits-true : (a b : List ℕ) → fits a b ≡ true → a ≼ b
unfolding fits
fits-true [] [] h = tt
fits-true [] (y ∷ b) h = true≢false (sym h)
fits-true (x ∷ a) [] h = true≢false (sym h)
fits-true (x ∷ a) (y ∷ b) h = (leb-true x y (both-0 _ _ h), fits-true a b (both-1 _ _ h))

pub fits-of : (a b : List ℕ) → a ≼ b → fits a b ≡ true
unfolding fits
fits-of [] [] p = refl
fits-of [] (y ∷ b) p = absurd p
fits-of (x ∷ a) [] p = absurd p
fits-of (x ∷ a) (y ∷ b) p = both_true _ _ (le-leb x y p.0) (fits-of a b p.1)

pub ≼_refl : (a : List ℕ) → a ≼ a
≼_refl [] = tt
≼_refl (x ∷ a) = (omega arith, ≼_refl a)

pub ≼-length : (a b : List ℕ) → a ≼ b → length a ≡ length b
≼-length [] [] p = refl
≼-length [] (y ∷ b) p = absurd p
≼-length (x ∷ a) [] p = absurd p
≼-length (x ∷ a) (y ∷ b) p = ap suc (≼-length a b p.1)

-- ── the worst choice for an entry ──
pub worst-low : (low high : List ℕ) (v : Votes) (e : ℕ) → low ≼ high → low ≼ worst low high v e
unfolding worst
worst-low [] high v e p = tt
worst-low (l ∷ low) [] v e p = absurd p
worst-low (l ∷ low) (h ∷ high) v e p = (if-cases (λ x. l ≤ x) (is_for e (v 0)) l h (λ _. omega arith) (λ _. p.0), worst-low low high (later v) e p.1)

pub worst-high : (low high : List ℕ) (v : Votes) (e : ℕ) → low ≼ high → worst low high v e ≼ high
unfolding worst
worst-high [] [] v e p = tt
worst-high [] (h ∷ high) v e p = absurd p
worst-high (l ∷ low) [] v e p = absurd p
worst-high (l ∷ low) (h ∷ high) v e p = (if-cases (λ x. x ≤ h) (is_for e (v 0)) l h (λ _. p.0) (λ _. omega arith), worst-high low high (later v) e p.1)

pub worst-met : (ws : List ℕ) (v : Votes) (e : ℕ) → worst ws ws v e ≡ ws
unfolding worst
worst-met [] v e = refl
worst-met (w ∷ ws) v e = ap₂ (λ (x : ℕ) (l : List ℕ). x ∷ l) (either (is_for e (v 0))) (worst-met ws (later v) e)
  where
    either : (t : Bool) → cond t w w ≡ w
    either true = refl
    either false = refl

-- one choice is worse for e than another, in every comparison
pub record Worse (bad ws : List ℕ) (v : Votes) (e : ℕ) : Type 0 where
  pub own : tally bad v e ≤ tally ws v e
  pub others : (f : ℕ) → (f ≡ e → ⊥) → tally ws v f ≤ tally bad v f
  pub silent : unheard ws v ≤ unheard bad v

-- one office's part of the sums
part-own : (l w h e : ℕ) (a : Option ℕ) → l ≤ w → cond (is_for e a) (cond (is_for e a) l h) 0 ≤ cond (is_for e a) w 0
part-own l w h e a p = go (is_for e a)
  where
    go : (t : Bool) → cond t (cond t l h) 0 ≤ cond t w 0
    go true = p
    go false = omega arith

part-others : (l w h e f : ℕ) (a : Option ℕ) → w ≤ h → (f ≡ e → ⊥) → cond (is_for f a) w 0 ≤ cond (is_for f a) (cond (is_for e a) l h) 0
part-others l w h e f None p n = omega arith
part-others l w h e f (Some x) p n =
    if-cases (λ r. cond (eqb x f) w 0 ≤ cond (eqb x f) r 0) (eqb x e) l h
    (λ q. rw (ne_eqb x f (λ s. n (sym s ∙ eqb-true x e q))) (omega arith))
    (λ _. go (eqb x f))
  where
    go : (t : Bool) → cond t w 0 ≤ cond t h 0
    go true = p
    go false = omega arith

part-silent : (l w h e : ℕ) (a : Option ℕ) → w ≤ h → cond (is_none a) w 0 ≤ cond (is_none a) (cond (is_for e a) l h) 0
part-silent l w h e None p = p
part-silent l w h e (Some x) p = omega arith

pub worst-worse : (low ws high : List ℕ) (v : Votes) (e : ℕ) → low ≼ ws → ws ≼ high → Worse (worst low high v e) ws v e
unfolding worst tally unheard
worst-worse [] [] high v e p q = record { own = omega arith; others = λ f n. omega arith; silent = omega arith }
worst-worse [] (w ∷ ws) high v e p q = absurd p
worst-worse (l ∷ low) [] high v e p q = absurd p
worst-worse (l ∷ low) (w ∷ ws) [] v e p q = absurd q
worst-worse (l ∷ low) (w ∷ ws) (h ∷ high) v e p q =
    let rest = worst-worse low ws high (later v) e p.1 q.1 in
    record {
      own = omega (arith, part-own l w h e (v 0) p.0, rest.own);
      others = λ f n. omega (arith, part-others l w h e f (v 0) q.0 n, rest.others f n);
      silent = omega (arith, part-silent l w h e (v 0) q.0, rest.silent);
    }
