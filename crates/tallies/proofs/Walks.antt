-- The walks over eight votes and their weights: what is left of them answers as all of them do.
--     weight-step, weight-end                 the walk that sums the weights of one vote
--     beats-other                             an entry against another
--     supported-step                          the supported entries from a place on
--     wins-unheard, wins-beats                whether an entry wins, by its T and U and by all others
--     beats-votes                             an entry beats all supported ones as it beats each of the first n votes
--     first-silent, first-next, first-stop, first-done      the walk that looks for the first entry of which a test holds
-- Assumes nothing.
use mathlib.Core.Path.{◌≡◌, refl, sym, ap, ap₂, ◌∙◌}
use mathlib.Core.Bool.{Bool, true, false, ◌&&◌, ◌||◌, cond}
use mathlib.Core.List.{List, [], ◌∷◌}
use Rattle.std.specs.Prelude.{Option, None, Some}
use Rattle.std.specs.Option.{option_eq}
use Prim.Native.Nat.{ℕ, zero, suc, ◌+◌, ◌<◌, ◌≤◌}
use native.Mathlib.Omega.{arith}
use lib.Dec.{eqb}
use lib.ListN.{length, get_or, take, drop, drop_of_length-le}
use Rattle.protocol.specs.Vote.{Votes, is_none, tally, unheard, and-also, supported, beats, beats_all, wins, first_that, above}
use Rattle.lists.specs.Tests.{all_b}
use Rattle.lists.proofs.Tests.{both-0, both-1}
use Rattle.lists.proofs.Walk.{rest-step, and_both}
use borrow.Author.Tests.{ne_eqb, le-ltb, lt-ltb}
use Rattle.tallies.specs.Tallies.{votes_in, SilentFrom, weight_for, beats_vote}

-- a value of the weights and votes from place i on, by the first of them
module _ {A : Type 0} (f : List ℕ → Votes → A) (xs : List (Option ℕ)) (ws : List ℕ) (i : ℕ) (hx : i < length xs) (hw : i < length ws) where
  from_step : f (drop i ws) (votes_in (drop i xs)) ≡ f (get_or ws i 0 ∷ drop (i + 1) ws) (votes_in (get_or xs i None ∷ drop (i + 1) xs))
  from_step = ap₂ (λ (w : List ℕ) (t : List (Option ℕ)). f w (votes_in t)) (rest-step 0 ws i hw) (rest-step None xs i hx)

-- ── the weight of one vote ──
weight-first : (w : ℕ) (ws : List ℕ) (y : Option ℕ) (xs : List (Option ℕ)) (x : Option ℕ)
    → weight_for (w ∷ ws) (votes_in (y ∷ xs)) x ≡ cond (option_eq eqb y x) w 0 + weight_for ws (votes_in xs) x
unfolding tally unheard
weight-first w ws None xs None = refl
weight-first w ws (Some y) xs None = refl
weight-first w ws None xs (Some x) = refl
weight-first w ws (Some y) xs (Some x) = refl

module _ (x : Option ℕ) (xs : List (Option ℕ)) (ws : List ℕ) (i whole sum : ℕ) (inv : whole ≡ sum + weight_for (drop i ws) (votes_in (drop i xs)) x) where
  pub weight-step : i < length xs → i < length ws → (b : Bool) → option_eq eqb (get_or xs i None) x ≡ b
      → whole ≡ sum + cond b (get_or ws i 0) 0 + weight_for (drop (i + 1) ws) (votes_in (drop (i + 1) xs)) x
  weight-step hx hw b q = omega (arith, inv, step, ap (λ (t : Bool). cond t (get_or ws i 0) 0) q)
    where
      step : weight_for (drop i ws) (votes_in (drop i xs)) x ≡ cond (option_eq eqb (get_or xs i None) x) (get_or ws i 0) 0 + weight_for (drop (i + 1) ws) (votes_in (drop (i + 1) xs)) x
      step = from_step (λ (w : List ℕ) (v : Votes). weight_for w v x) xs ws i hx hw ∙ weight-first (get_or ws i 0) (drop (i + 1) ws) (get_or xs i None) (drop (i + 1) xs) x

  pub weight-end : length ws ≤ i → sum ≡ whole
  unfolding tally unheard
  weight-end h = omega (arith, inv, ap (λ (w : List ℕ). weight_for w (votes_in (drop i xs)) x) (drop_of_length-le ws h), nothing x)
    where
      nothing : (y : Option ℕ) → weight_for [] (votes_in (drop i xs)) y ≡ 0
      nothing None = refl
      nothing (Some e) = refl

-- ── the supported entries ──
pub supported-step : (xs : List (Option ℕ)) (ws : List ℕ) (i : ℕ) → i < length xs → i < length ws
    → supported (drop i ws) (votes_in (drop i xs)) ≡ and-also (get_or xs i None) (supported (drop (i + 1) ws) (votes_in (drop (i + 1) xs)))
unfolding supported
supported-step xs ws i hx hw = from_step supported xs ws i hx hw

-- where all votes are none
silent-none : (ws : List ℕ) (xs : List (Option ℕ)) → all_b is_none xs ≡ true → supported ws (votes_in xs) ≡ []
unfolding supported all_b
silent-none [] xs h = refl
silent-none (w ∷ ws) [] h = silent-none ws [] h
silent-none (w ∷ ws) (None ∷ xs) h = silent-none ws xs (both-1 _ _ h)
silent-none (w ∷ ws) (Some e ∷ xs) h = let z : false ≡ true = both-0 _ _ h in cc

supported-end : (xs : List (Option ℕ)) (ws : List ℕ) (n i : ℕ) → SilentFrom n xs → i ≡ n → supported (drop i ws) (votes_in (drop i xs)) ≡ []
supported-end xs ws n i h e = silent-none (drop i ws) (drop i xs) (ap (λ (k : ℕ). all_b is_none (drop k xs)) e ∙ h.1)

-- ── the first supported entry of which a test holds ──
module _ (t : ℕ → Bool) (who : Option ℕ) (xs : List (Option ℕ)) (ws : List ℕ) (i : ℕ) (inv : who ≡ first_that t (supported (drop i ws) (votes_in (drop i xs)))) where
  abbrev rest : List ℕ
  rest = supported (drop (i + 1) ws) (votes_in (drop (i + 1) xs))

  first-step : i < length xs → i < length ws → (x : Option ℕ) → get_or xs i None ≡ x → who ≡ first_that t (and-also x rest)
  first-step hx hw x q = inv ∙ ap (first_that t) (supported-step xs ws i hx hw ∙ ap (λ (y : Option ℕ). and-also y rest) q)

  pub first-silent : i < length xs → i < length ws → get_or xs i None ≡ None → who ≡ first_that t rest
  first-silent hx hw q = first-step hx hw None q

  pub first-next : i < length xs → i < length ws → (e : ℕ) → get_or xs i None ≡ Some e → t e ≡ false → who ≡ first_that t rest
  first-next hx hw e q p = first-step hx hw (Some e) q ∙ ap (λ (b : Bool). cond b (Some e) (first_that t rest)) p

  pub first-stop : i < length xs → i < length ws → (e : ℕ) → get_or xs i None ≡ Some e → t e ≡ true → Some e ≡ who
  first-stop hx hw e q p = sym (first-step hx hw (Some e) q ∙ ap (λ (b : Bool). cond b (Some e) (first_that t rest)) p)

  pub first-done : (n : ℕ) → SilentFrom n xs → i ≡ n → None ≡ who
  first-done n h q = sym (inv ∙ ap (first_that t) (supported-end xs ws n i h q))

-- in any order in which ties go
module _ (before : ℕ → ℕ → Bool) where
  -- an entry against one vote and those behind it
  beats-also : (ws : List ℕ) (v : Votes) (e : ℕ) (x : Option ℕ) (fs : List ℕ) → beats_all ws before v e (and-also x fs) ≡ (beats_vote before ws v e x && beats_all ws before v e fs)
  beats-also ws v e None fs = refl
  beats-also ws v e (Some f) fs = go (eqb f e || beats ws before v e f)
    where
      go : (b : Bool) → (b && beats_all ws before v e fs) ≡ ((b && true) && beats_all ws before v e fs)
      go true = refl
      go false = refl

  -- against another entry f, by its T and U
  pub beats-other : (ws : List ℕ) (v : Votes) (e f te u tf : ℕ) → te ≡ tally ws v e → u ≡ unheard ws v → tf ≡ tally ws v f → (f ≡ e → ⊥)
      → above before te (tf + u) e f ≡ beats_vote before ws v e (Some f)
  beats-other ws v e f te u tf p q r n = rw (p, q, r, ne_eqb f e n) (sym (and-true (beats ws before v e f)))
    where
      and-true : (b : Bool) → (b && true) ≡ b
      and-true true = refl
      and-true false = refl

  -- against all
  pub beats-votes : (us : List ℕ) (v : Votes) (e n : ℕ) (xs : List (Option ℕ)) (ws : List ℕ) → length xs ≡ length ws → all_b is_none (drop n xs) ≡ true
      → beats_all us before v e (supported ws (votes_in xs)) ≡ all_b (beats_vote before us v e) (take n xs)
  unfolding supported all_b
  beats-votes us v e zero xs ws l h = ap (beats_all us before v e) (silent-none ws xs h)
  beats-votes us v e (suc n) [] [] l h = refl
  beats-votes us v e (suc n) [] (w ∷ ws) l h = absurd (omega (arith, l))
  beats-votes us v e (suc n) (x ∷ xs) [] l h = absurd (omega (arith, l))
  beats-votes us v e (suc n) (x ∷ xs) (w ∷ ws) l h =
      beats-also us v e x (supported ws (votes_in xs)) ∙ ap (λ (b : Bool). beats_vote before us v e x && b) (beats-votes us v e n xs ws (omega (arith, l)) h) ∙
      and_both (beats_vote before us v e x) (all_b (beats_vote before us v e) (take n xs))

  -- an entry wins by its T and U, and by all others
  module _ (ws : List ℕ) (v : Votes) (e te u : ℕ) (p : te ≡ tally ws v e) (q : u ≡ unheard ws v) where
    pub wins-unheard : te ≤ u → false ≡ wins ws before v e
    unfolding wins
    wins-unheard l = simp (le-ltb (unheard ws v) (tally ws v e) (omega (arith, p, q)))

    pub wins-beats : u < te → (t : Bool) → t ≡ beats_all ws before v e (supported ws v) → t ≡ wins ws before v e
    unfolding wins
    wins-beats l t b = simp (lt-ltb (unheard ws v) (tally ws v e) (omega (arith, p, q))) b
