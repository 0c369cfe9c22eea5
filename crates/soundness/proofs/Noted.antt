-- The noted lengths: facts by name, both ways, and each place by the most that may be noted there.
--     noted-facts, noted-true      the test `noted_fine` and its facts
--     limited, facts-of            the facts, and eight lengths that are no more than the most at each place
--     limits-next, limits-done     a walk that makes every test: one more, all eight made
-- Assumes nothing.
use mathlib.Core.Path.{◌≡◌, refl, sym, ap, subst, ◌∙◌}
use mathlib.Core.Bool.{Bool, true, false, ◌&&◌, ◌||◌}
use mathlib.Core.List.{List}
use mathlib.Core.Logic.{◌⊎◌, inl, inr}
use Prim.Native.Nat.{ℕ, ◌+◌, ◌-◌, ◌<◌, ◌≤◌}
use native.Mathlib.Nat.{eq-or-lt_of_le}
use native.Mathlib.Omega.{arith}
use lib.Dec.{eqb, leb, ltb}
use lib.ListN.{length, get_or, drop, get_or-eq_default}
use lib.Seq.{get_or-drop}
use borrow.Author.Tests.{eqb-true, eq-eqb, leb-true, le-leb, ltb-true, ltb-false}
use Rattle.lists.specs.Tests.{all_b}
use Rattle.lists.proofs.Tests.{both-0, both-1, both_true, alike, all_get_d, all_of, and-true, and-of, or-true, or_right, pick-cases, pick_true}
use Rattle.soundness.specs.Noted.{noted_fine, NotedFacts, limit_at}

module _ (n own settled : ℕ) (noted : List ℕ) where
  pub noted-facts : noted_fine n own settled noted ≡ true → NotedFacts n own settled noted
  unfolding noted_fine
  noted-facts e =
      let each = both-1 (eqb (length noted) 8) _ e in
      let zeros = both-1 (all_b (λ (l : ℕ). leb l settled) noted) _ each in
      record {
        eight = eqb-true (length noted) 8 (both-0 _ _ e);
        most = λ j. leb-true (get_or noted j 0) settled (all_get_d (λ (l : ℕ). leb l settled) 0 noted j (both-0 _ _ each) (le-leb 0 settled (omega arith)));
        none-own = sym (eqb-true 0 (get_or noted own 0) (both-0 _ _ zeros));
        rest = λ j h. behind j h (both-1 (eqb 0 (get_or noted own 0)) _ zeros);
      }
    where
      behind : (j : ℕ) → n ≤ j → all_b (eqb 0) (drop n noted) ≡ true → get_or noted j 0 ≡ 0
      behind j h z =
          let there : get_or (drop n noted) (j - n) 0 ≡ get_or noted j 0 = get_or-drop n noted (j - n) 0 ∙ ap (λ (i : ℕ). get_or noted i 0) (omega arith) in
          sym there ∙ sym (eqb-true 0 (get_or (drop n noted) (j - n) 0) (all_get_d (eqb 0) 0 (drop n noted) (j - n) z refl))

  pub noted-true : NotedFacts n own settled noted → noted_fine n own settled noted ≡ true
  unfolding noted_fine
  noted-true F =
      both_true _ _ (eq-eqb (length noted) 8 F.eight)
      (both_true _ _ (all_of (λ (l : ℕ). leb l settled) 0 noted (λ i h. le-leb (get_or noted i 0) settled (F.most i)))
      (both_true _ _ (eq-eqb 0 (get_or noted own 0) (sym F.none-own))
      (all_of (eqb 0) 0 (drop n noted) (λ i h. eq-eqb 0 (get_or (drop n noted) i 0) (sym (get_or-drop n noted i 0 ∙ F.rest (n + i) (omega arith)))))))

  -- ── the most at a place ──
  limit-most : (j : ℕ) → limit_at n own settled j ≤ settled
  unfolding limit_at
  limit-most j = pick-cases (λ r. r ≤ settled) (eqb j own || leb n j) 0 settled (λ _. omega arith) (λ _. omega arith)

  limit-none : (j : ℕ) → (j ≡ own) ⊎ (n ≤ j) → limit_at n own settled j ≡ 0
  unfolding limit_at
  limit-none j h = pick_true (eqb j own || leb n j) 0 settled (test h)
    where
      test : (j ≡ own) ⊎ (n ≤ j) → (eqb j own || leb n j) ≡ true
      test (inl e) = rw (eq-eqb j own e)
      test (inr h) = rw (le-leb n j h) (or_right (eqb j own))

  limited : NotedFacts n own settled noted → (j : ℕ) → get_or noted j 0 ≤ limit_at n own settled j
  unfolding limit_at
  limited F j =
      pick-cases (λ r. get_or noted j 0 ≤ r) (eqb j own || leb n j) 0 settled
      (λ t. none (or-true (eqb j own) (leb n j) t)) (λ _. F.most j)
    where
      none : (eqb j own ≡ true) ⊎ (leb n j ≡ true) → get_or noted j 0 ≤ 0
      none (inl e) = omega (arith, ap (λ (i : ℕ). get_or noted i 0) (eqb-true j own e), F.none-own)
      none (inr e) = omega (arith, F.rest j (leb-true n j e))

  facts-of : length noted ≡ 8 → ((j : ℕ) → j < 8 → get_or noted j 0 ≤ limit_at n own settled j) → NotedFacts n own settled noted
  facts-of eight h = record {
    eight = eight;
    most = λ j. omega (arith, all j, limit-most j);
    none-own = omega (arith, all own, limit-none own (inl refl));
    rest = λ j more. omega (arith, all j, limit-none j (inr more));
  }
    where
      at : (j : ℕ) (t : Bool) → ltb j 8 ≡ t → get_or noted j 0 ≤ limit_at n own settled j
      at j true e = h j (ltb-true j 8 e)
      at j false e = omega (arith, get_or-eq_default noted 0 {n = j} (omega (arith, ltb-false j 8 e)))

      all : (j : ℕ) → get_or noted j 0 ≤ limit_at n own settled j
      all j = at j (ltb j 8) refl

  -- ── the walk ──
  -- what was found so far says that no length passes the most at its place, and facts are never missed
  abbrev pub Walked : Bool → ℕ → Type 0
  Walked good i = (good ≡ true → (j : ℕ) → j < i → get_or noted j 0 ≤ limit_at n own settled j) × (NotedFacts n own settled noted → good ≡ true)

  pub limits-next : (good : Bool) (i : ℕ) → Walked good i → (x : Bool) → x ≡ leb (get_or noted i 0) (limit_at n own settled i) → Walked (good && x) (i + 1)
  limits-next good i w x e = (
    (λ t. let both_hold = and-true good x t in λ j h. at j (w.0 both_hold.0) (leb-true _ _ (sym e ∙ both_hold.1)) (eq-or-lt_of_le (at_most j h))),
    (λ F. and-of good x (w.1 F) (e ∙ le-leb _ _ (limited F i))),
  )
    where
      at_most : (j : ℕ) → j < i + 1 → j ≤ i
      at_most j h = omega arith

      at : (j : ℕ) → ((j : ℕ) → j < i → get_or noted j 0 ≤ limit_at n own settled j) → get_or noted i 0 ≤ limit_at n own settled i → (j ≡ i) ⊎ (j < i) → get_or noted j 0 ≤ limit_at n own settled j
      at j before here (inr less) = before j less
      at j before here (inl same) = subst (λ (k : ℕ). get_or noted k 0 ≤ limit_at n own settled k) (sym same) here

  pub limits-done : (good : Bool) (i : ℕ) → Walked good i → length noted ≡ 8 → 8 ≤ i → good ≡ noted_fine n own settled noted
  limits-done good i w eight h = alike good (noted_fine n own settled noted) (λ t. noted-true (facts-of eight (λ j few. w.0 t j (omega arith)))) (λ e. w.1 (noted-facts e))
