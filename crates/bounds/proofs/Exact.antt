-- The worst choice for an entry is worst in every comparison at once, so an entry that wins under it wins under every choice.
--     surely-worst               e wins under every choice exactly if it wins under its worst
--     surely-unique              at most one entry does
--     sure-some, sure-none       `sure_winner` names e exactly if e wins under every choice, and none exactly where no entry does
--     sure-met                   of bounds that meet it is the winner by those weights
--     sure-zero                  where every lowest is zero, it names none
-- Assumes nothing.
use mathlib.Core.Path.{◌≡◌, refl, sym, ap, ◌∙◌}
use mathlib.Core.List.{List, [], ◌∷◌}
use Rattle.std.specs.Prelude.{Option, None, Some}
use Rattle.std.proofs.lemmas.Option.{same_Some, none-some}
use mathlib.Core.Bool.{Bool, true, false, cond, true≢false}
use mathlib.Core.Logic.{inl, inr, ◌↔◌}
use Prim.Native.Nat.{ℕ, zero, suc, ◌+◌, ◌≤◌, ◌<◌}
use native.Mathlib.Nat.{le_of_suc-le-suc, not-suc-le-zero}
use native.Mathlib.Decide.{dec_lt}
use native.Mathlib.Omega.{arith}
use lib.Dec.{eqb}
use lib.ListN.{length}
use borrow.Author.Tests.{eqb-true}
use Rattle.lists.specs.Tests.{all_b}
use Rattle.lists.proofs.Tests.{both-0, both-1}
use Rattle.protocol.specs.Vote.{Votes, later, is_for, tally, unheard, and-also, supported, wins, winner, first_that}
use Rattle.protocol.specs.Winning.{Supported, Beats, Wins, Asymmetric}
use Rattle.protocol_laws.proofs.Vote.{wins-unique, wins-voted, wins-true, wins-of}
use Rattle.bounds.specs.Bounds.{◌≼◌, WinsSurely, worst, wins_worst, sure_winner}
use Rattle.bounds.proofs.Choices.{≼_refl, ≼-length, worst-low, worst-high, worst-met, Worse, worst-worse}

-- ── the first entry of which a test holds ──
first_holds : (t : ℕ → Bool) (fs : List ℕ) (e : ℕ) → first_that t fs ≡ Some e → t e ≡ true
first_holds t [] e h = absurd (none-some e h)
first_holds t (f ∷ fs) e h = go (t f) refl h (first_holds t fs e)
  where
    go : (b : Bool) → t f ≡ b → cond b (Some f) (first_that t fs) ≡ Some e → (first_that t fs ≡ Some e → t e ≡ true) → t e ≡ true
    go true q a ih = ap t (sym (same_Some f e a)) ∙ q
    go false q a ih = ih a

-- where there is none, the test fails of every entry that is supported
first-none : (t : ℕ → Bool) (us : List ℕ) (u : Votes) (e : ℕ) → Supported us u e → first_that t (supported us u) ≡ None → t e ≡ false
unfolding supported
first-none t [] u e s h = absurd (not-suc-le-zero s.1)
first-none t (w ∷ us) u e s h = go (first-none t us (later u) e) (u 0) refl s.0 s.1 s.2 h
  where
    skip : (x : ℕ) (b : Bool) → t x ≡ b → cond b (Some x) (first_that t (supported us (later u))) ≡ None → (t x ≡ false) × (first_that t (supported us (later u)) ≡ None)
    skip x true q h = absurd (none-some x (sym h))
    skip x false q h = (q, h)

    go : (Supported us (later u) e → first_that t (supported us (later u)) ≡ None → t e ≡ false)
        → (a : Option ℕ) → u 0 ≡ a → (k : ℕ) → k < suc (length us) → u k ≡ Some e → first_that t (and-also a (supported us (later u))) ≡ None → t e ≡ false
    go ih None q zero l r h = absurd (none-some e (sym q ∙ r))
    go ih None q (suc k) l r h = ih (k, le_of_suc-le-suc l, r) h
    go ih (Some x) q zero l r h = ap t (sym (same_Some x e (sym q ∙ r))) ∙ (skip x (t x) refl h).0
    go ih (Some x) q (suc k) l r h = ih (k, le_of_suc-le-suc l, r) (skip x (t x) refl h).1

-- of one test or another that agree
first-same : (t u : ℕ → Bool) (fs : List ℕ) → ((e : ℕ) → t e ≡ u e) → first_that t fs ≡ first_that u fs
first-same t u fs h = ap (λ (x : ℕ → Bool). first_that x fs) (λ i e. h e i)

-- no weight is in a tally of weights that are all zero
nothing-told : (ws : List ℕ) (v : Votes) (e : ℕ) → all_b (eqb 0) ws ≡ true → tally ws v e ≡ 0
unfolding tally all_b
nothing-told [] v e h = refl
nothing-told (w ∷ ws) v e h = omega (arith, part (is_for e (v 0)), nothing-told ws (later v) e (both-1 _ _ h))
  where
    none_here : w ≡ 0
    none_here = sym (eqb-true 0 w (both-0 _ _ h))

    part : (t : Bool) → cond t w 0 ≡ 0
    part true = none_here
    part false = refl

module _ (before : ℕ → ℕ → Bool) where
  -- ── winning ──
  -- e beats f still, with no less weight against no more
  beats-kept : (bad ws : List ℕ) (v : Votes) (e f : ℕ) → tally bad v e ≤ tally ws v e → tally ws v f + unheard ws v ≤ tally bad v f + unheard bad v
      → Beats bad before v e f → Beats ws before v e f
  beats-kept bad ws v e f up down (inl h) = inl (omega arith)
  beats-kept bad ws v e f up down (inr h) = tie (dec_lt (tally ws v f + unheard ws v) (tally ws v e))
    where
      tie : Dec (tally ws v f + unheard ws v < tally ws v e) → Beats ws before v e f
      tie (yes a) = inl a
      tie (no a) = inr (omega (arith, h.0), h.1)

  worse-wins : (bad ws : List ℕ) (v : Votes) (e : ℕ) → length ws ≡ length bad → Worse bad ws v e → Wins bad before v e → Wins ws before v e
  worse-wins bad ws v e same w p = record {
    above = omega (arith, w.own, w.silent, p.above);
    others = λ f n s. beats-kept bad ws v e f w.own (omega (arith, w.others f n, w.silent)) (p.others f n (s.0, rw (← same) s.1, s.2));
  }

  module _ (low high : List ℕ) (fit : low ≼ high) (v : Votes) where
    -- "it wins under every choice"
    pub surely-worst : (e : ℕ) → WinsSurely low high before v e ↔ Wins (worst low high v e) before v e
    surely-worst e = (
      λ h. h (worst low high v e) (worst-low low high v e fit) (worst-high low high v e fit),
      λ p ws a b. worse-wins (worst low high v e) ws v e (sym (≼-length low ws a) ∙ ≼-length low (worst low high v e) (worst-low low high v e fit)) (worst-worse low ws high v e a b) p,
    )

    -- the lowest weights are a choice
    surely-at-low : (e : ℕ) → WinsSurely low high before v e → Wins low before v e
    surely-at-low e h = h low (≼_refl low) fit

    pub surely-unique : Asymmetric before → (e f : ℕ) → WinsSurely low high before v e → WinsSurely low high before v f → e ≡ f
    surely-unique asym e f p q = wins-unique low before asym v e f (surely-at-low e p) (surely-at-low f q)

    sure-wins : (e : ℕ) → sure_winner low high before v ≡ Some e → WinsSurely low high before v e
    unfolding sure_winner wins_worst
    sure-wins e h = (surely-worst e).1 (wins-true (worst low high v e) before v e (first_holds (wins_worst low high before v) (supported low v) e h))

    no_sure : sure_winner low high before v ≡ None → (e : ℕ) → WinsSurely low high before v e → ⊥
    unfolding sure_winner wins_worst
    no_sure h e s =
        true≢false (sym (wins-of (worst low high v e) before v e ((surely-worst e).0 s))
        ∙ first-none (wins_worst low high before v) low v e (wins-voted low before v e (surely-at-low e s)) h)

    -- "or say that none would"
    pub sure-none : (sure_winner low high before v ≡ None) ↔ ((e : ℕ) → WinsSurely low high before v e → ⊥)
    sure-none = (no_sure, λ h. go h (sure_winner low high before v) refl)
      where
        go : ((e : ℕ) → WinsSurely low high before v e → ⊥) → (r : Option ℕ) → sure_winner low high before v ≡ r → sure_winner low high before v ≡ None
        go h None q = q
        go h (Some e) q = absurd (h e (sure-wins e q))

    -- "It is named exactly if it wins under every choice"
    pub sure-some : Asymmetric before → (e : ℕ) → (sure_winner low high before v ≡ Some e) ↔ WinsSurely low high before v e
    sure-some asym e = (sure-wins e, λ s. go s (sure_winner low high before v) refl)
      where
        go : WinsSurely low high before v e → (r : Option ℕ) → sure_winner low high before v ≡ r → sure_winner low high before v ≡ Some e
        go s None q = absurd (no_sure q e s)
        go s (Some f) q = q ∙ ap Some (surely-unique asym f e (sure-wins f q) s)

    -- "a total of zero counts as a choice"
    pub sure-zero : all_b (eqb 0) low ≡ true → sure_winner low high before v ≡ None
    sure-zero z = sure-none.1 (λ e s. not-suc-le-zero (rw (nothing-told low v e z) at (surely-at-low e s).above))

  -- bounds that meet leave one choice
  pub sure-met : (ws : List ℕ) (v : Votes) → sure_winner ws ws before v ≡ winner ws before v
  unfolding sure_winner wins_worst winner
  sure-met ws v = first-same (wins_worst ws ws before v) (wins ws before v) (supported ws v) (λ e. ap (λ (x : List ℕ). wins x before v e) (worst-met ws v e))
