-- The walks over the first n of eight bounds and votes.
--     fit_next, fit-stop, fit-done     whether no lowest exceeds its highest
--     worst-next, worst-done   the worst choice for an entry, written into eight cells
--     worst-won                whether an entry is the winner by it
-- Assumes nothing.
use mathlib.Core.Path.{◌≡◌, refl, sym, ap, ap₂, ◌∙◌}
use mathlib.Core.List.{List, [], ◌∷◌, ◌++◌}
use Rattle.std.specs.Prelude.{Option, None, Some}
use mathlib.Core.Bool.{Bool, true, false, cond, true≢false}
use Prim.Native.Nat.{ℕ, zero, suc, ◌+◌, ◌-◌, ◌<◌, ◌≤◌}
use native.Mathlib.Nat.{not-suc-le-zero}
use native.Mathlib.Omega.{arith}
use lib.Dec.{eqb, leb}
use lib.ListN.{length, get_or, take, drop, set, replicate, length-replicate, drop_of_length-le}
use lib.Seq.{length-take-le, get_or-take, take_all}
use borrow.Author.Tests.{eqb-true, eq-eqb, le-leb, lt-leb}
use Rattle.lists.specs.Tests.{both}
use Rattle.lists.proofs.Tests.{alike}
use Rattle.lists.proofs.Walk.{rest-step}
use Rattle.lists.proofs.Fill.{filled, front-step}
use Rattle.protocol.specs.Vote.{Votes, later, is_for, winner}
use Rattle.protocol.specs.Counts.{quieter_by}
use Rattle.protocol_laws.proofs.Quieter.{quieter-asymmetric}
use Rattle.protocol_laws.proofs.Vote as vote
use Rattle.std.specs.Option.{option_eq}
use Rattle.tallies.specs.Tallies.{votes_in, SilentFrom}
use Rattle.bounds.specs.Bounds.{fits, worst, wins_worst}
use Rattle.lists.specs.Padded.{in_eight}
use Rattle.bounds.proofs.Eight.{silent-votes, winner-eight}

-- what is left of zeros
pub zeros-left : (i k : ℕ) → drop {A = ℕ} i (replicate k 0) ≡ replicate (k - i) 0
zeros-left zero k = let d : k ≡ k - 0 = omega arith in ap (λ (j : ℕ). replicate j 0) d
zeros-left (suc i) zero = let d : 0 ≡ 0 - suc i = omega arith in ap (λ (j : ℕ). replicate j 0) d
zeros-left (suc i) (suc k) = let d : k - i ≡ suc k - suc i = omega arith in zeros-left i k ∙ ap (λ (j : ℕ). replicate j 0) d

-- ── no lowest exceeds its highest ──
module _ (a b : List ℕ) (same : length a ≡ length b) (whole : Bool) (i : ℕ) (inv : whole ≡ fits (drop i a) (drop i b)) where
  fit-step : i < length a → whole ≡ both (leb (get_or a i 0) (get_or b i 0)) (fits (drop (i + 1) a) (drop (i + 1) b))
  unfolding fits
  fit-step h = inv ∙ ap₂ fits (rest-step 0 a i h) (rest-step 0 b i (omega (arith, h, same)))

  pub fit_next : i < length a → get_or a i 0 ≤ get_or b i 0 → whole ≡ fits (drop (i + 1) a) (drop (i + 1) b)
  unfolding both
  fit_next h le = fit-step h ∙ rw (le-leb (get_or a i 0) (get_or b i 0) le)

  pub fit-stop : i < length a → get_or b i 0 < get_or a i 0 → false ≡ whole
  unfolding both
  fit-stop h lt = sym (fit-step h ∙ rw (lt-leb (get_or a i 0) (get_or b i 0) lt))

  pub fit-done : length a ≤ i → true ≡ whole
  unfolding fits
  fit-done h = sym (inv ∙ ap₂ fits (drop_of_length-le a h) (drop_of_length-le b (omega (arith, h, same))))

worst-length : (low high : List ℕ) (v : Votes) (e : ℕ) → length low ≡ length high → length (worst low high v e) ≡ length low
unfolding worst
worst-length [] high v e h = refl
worst-length (l ∷ low) [] v e h = absurd (omega (arith, h))
worst-length (l ∷ low) (x ∷ high) v e h = ap suc (worst-length low high (later v) e (omega (arith, h)))

worst-at : (low high : List ℕ) (v : Votes) (e i : ℕ) → i < length low → i < length high → get_or (worst low high v e) i 0 ≡ cond (is_for e (v i)) (get_or low i 0) (get_or high i 0)
unfolding worst
worst-at [] high v e i a b = absurd (not-suc-le-zero a)
worst-at (l ∷ low) [] v e i a b = absurd (not-suc-le-zero b)
worst-at (l ∷ low) (x ∷ high) v e zero a b = refl
worst-at (l ∷ low) (x ∷ high) v e (suc i) a b = worst-at low high (later v) e i (omega arith) (omega arith)

-- lo and hi are eight bounds, of which the first n count
module _ (n : ℕ) (few : n ≤ 8) (lo hi : List ℕ) (lo8 : length lo ≡ 8) (hi8 : length hi ≡ 8) where
  low-length : length (take n lo) ≡ n
  low-length = length-take-le n lo (omega arith)

  high-length : length (take n hi) ≡ n
  high-length = length-take-le n hi (omega arith)

  module _ (xs : List (Option ℕ)) (xs8 : length xs ≡ 8) (e : ℕ) where
    abbrev bad : List ℕ
    bad = worst (take n lo) (take n hi) (votes_in xs) e

    bad-length : length bad ≡ n
    bad-length = worst-length (take n lo) (take n hi) (votes_in xs) e (low-length ∙ sym high-length) ∙ low-length

    -- ── the worst choice for e ──
    module _ (ws : List ℕ) (i : ℕ) (inv : ws ≡ filled bad (replicate 8 0) i) where
      pub worst-next : i < n → (t : Bool) → option_eq eqb (get_or xs i None) (Some e) ≡ t → set ws i (cond t (get_or lo i 0) (get_or hi i 0)) ≡ filled bad (replicate 8 0) (i + 1)
      worst-next h t q =
          ap₂ (λ (l : List ℕ) (y : ℕ). set l i y) inv same ∙
          front-step 0 bad (replicate 8 0) i (omega (arith, bad-length)) (omega (arith, length-replicate {A = ℕ} 8 0))
        where
          for_e : (x : Option ℕ) → option_eq eqb x (Some e) ≡ is_for e x
          for_e None = refl
          for_e (Some x) = refl

          supports : t ≡ is_for e (votes_in xs i)
          supports = sym q ∙ for_e (get_or xs i None)

          same : cond t (get_or lo i 0) (get_or hi i 0) ≡ get_or bad i 0
          same =
              (λ j. cond (supports j) (sym (get_or-take n lo i 0 h) j) (sym (get_or-take n hi i 0 h) j)) ∙
              sym (worst-at (take n lo) (take n hi) (votes_in xs) e i (omega (arith, low-length)) (omega (arith, high-length)))

      pub worst-done : i ≡ n → ws ≡ in_eight bad
      worst-done h = inv ∙ ap₂ (λ (l m : List ℕ). l ++ m) (take_all i bad (omega (arith, bad-length))) (zeros-left i 8 ∙ ap (λ (k : ℕ). replicate (8 - k) 0) (h ∙ sym bad-length))

    -- ── e is the winner by it ──
    module _ (counts : List ℕ) (silent : SilentFrom n xs) (ws : List ℕ) (made : ws ≡ in_eight bad) (w : Option ℕ) (q : w ≡ winner ws (quieter_by counts) (votes_in xs)) where
      abbrev test : Bool
      test = wins_worst (take n lo) (take n hi) (quieter_by counts) (votes_in xs) e

      told : w ≡ winner bad (quieter_by counts) (votes_in xs)
      told =
          q ∙ ap (λ (l : List ℕ). winner l (quieter_by counts) (votes_in xs)) made ∙
          winner-eight (quieter_by counts) bad (votes_in xs) (λ k h. silent-votes n xs silent k (omega (arith, bad-length)))

      exact : (w ≡ Some e → test ≡ true) × (test ≡ true → w ≡ Some e)
      unfolding wins_worst
      exact =
          let both_ways = vote.winner-some bad (quieter_by counts) (quieter-asymmetric counts) (votes_in xs) e in
          (λ h. vote.wins-of bad (quieter_by counts) (votes_in xs) e (both_ways.0 (sym told ∙ h)), λ h. told ∙ both_ways.1 (vote.wins-true bad (quieter_by counts) (votes_in xs) e h))

      pub worst-won : option_eq eqb w (Some e) ≡ test
      worst-won = alike (option_eq eqb w (Some e)) test (λ h. exact.0 (there w h)) (λ h. ap (λ (x : Option ℕ). option_eq eqb x (Some e)) (exact.1 h) ∙ eq-eqb e e refl)
        where
          there : (x : Option ℕ) → option_eq eqb x (Some e) ≡ true → x ≡ Some e
          there None h = absurd (true≢false (sym h))
          there (Some x) h = ap Some (eqb-true x e h)
