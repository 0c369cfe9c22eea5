-- The weights of n offices in eight cells, where the offices from place n on cast no vote: zeros behind the weights change nothing.
--     silent-votes          the words of eight votes that are silent from place n on
--     winner-eight          who wins by the eight cells wins by the n weights
--     eight-zeros           eight cells that are zero from place n on are the first n of them in eight cells
-- Assumes nothing.
use mathlib.Core.Path.{◌≡◌, refl, sym, ap, ap₂, ◌∙◌}
use mathlib.Core.List.{List, [], ◌∷◌, ◌++◌}
use Rattle.std.specs.Prelude.{Option, None, Some}
use mathlib.Core.Bool.{Bool, true, false, true≢false, cond, ◌&&◌, ◌||◌}
use Prim.Native.Nat.{ℕ, zero, suc, ◌+◌, ◌-◌, ◌≤◌}
use native.Mathlib.Omega.{arith}
use lib.Dec.{eqb, ltb}
use lib.ListN.{length, get_or, take, drop, replicate, length-drop, take-append-drop}
use lib.Seq.{length-take-le, get_or-drop}
use Rattle.lists.specs.Tests.{all_b}
use Rattle.lists.proofs.Tests.{zeros, all_get_d}
use Rattle.protocol.specs.Vote.{Votes, later, is_for, is_none, tally, unheard, and-also, supported, beats, beats_all, wins, first_winner, winner}
use Rattle.tallies.specs.Tallies.{votes_in, SilentFrom}
use Rattle.lists.specs.Padded.{in_eight}

-- the offices from place n on cast no vote
abbrev pub Silent : ℕ → Votes → Type 0
Silent n v = (k : ℕ) → n ≤ k → v k ≡ None

pub silent-votes : (n : ℕ) (xs : List (Option ℕ)) → SilentFrom n xs → Silent n (votes_in xs)
silent-votes n xs h k l =
    let at : k ≡ n + (k - n) = omega arith in
    ap (λ (j : ℕ). get_or xs j None) at ∙ sym (get_or-drop n xs (k - n) None) ∙
    none (get_or (drop n xs) (k - n) None) (all_get_d is_none None (drop n xs) (k - n) h.1 refl)
  where
    none : (x : Option ℕ) → is_none x ≡ true → x ≡ None
    none None q = refl
    none (Some e) q = absurd (true≢false (sym q))

-- ── zeros behind the weights ──
no_part : (t : Bool) → ◌≡◌ {A = ℕ} (cond t 0 0) 0
no_part true = refl
no_part false = refl

tally-zeros : (ws : List ℕ) (k : ℕ) (v : Votes) (e : ℕ) → tally (ws ++ replicate k 0) v e ≡ tally ws v e
unfolding tally
tally-zeros [] zero v e = refl
tally-zeros [] (suc k) v e = omega (arith, no_part (is_for e (v 0)), tally-zeros [] k (later v) e)
tally-zeros (w ∷ ws) k v e = ap (λ (x : ℕ). cond (is_for e (v 0)) w 0 + x) (tally-zeros ws k (later v) e)

unheard-zeros : (ws : List ℕ) (k : ℕ) (v : Votes) → unheard (ws ++ replicate k 0) v ≡ unheard ws v
unfolding unheard
unheard-zeros [] zero v = refl
unheard-zeros [] (suc k) v = omega (arith, no_part (is_none (v 0)), unheard-zeros [] k (later v))
unheard-zeros (w ∷ ws) k v = ap (λ (x : ℕ). cond (is_none (v 0)) w 0 + x) (unheard-zeros ws k (later v))

supported-zeros : (ws zs : List ℕ) (v : Votes) → Silent (length ws) v → supported (ws ++ zs) v ≡ supported ws v
unfolding supported
supported-zeros [] [] v s = refl
supported-zeros [] (z ∷ zs) v s = ap₂ and-also (s 0 (omega arith)) (supported-zeros [] zs (later v) (λ k h. s (suc k) (omega arith)))
supported-zeros (w ∷ ws) zs v s = ap (and-also (v 0)) (supported-zeros ws zs (later v) (λ k h. s (suc k) (omega arith)))

module _ (before : ℕ → ℕ → Bool) (ws : List ℕ) (k : ℕ) (v : Votes) where
  beaten-zeros : (e : ℕ) (fs : List ℕ) → beats_all (ws ++ replicate k 0) before v e fs ≡ beats_all ws before v e fs
  beaten-zeros e [] = refl
  beaten-zeros e (f ∷ fs) = ap₂ (λ (s t : Bool). (eqb f e || s) && t) here (beaten-zeros e fs)
    where
      here : beats (ws ++ replicate k 0) before v e f ≡ beats ws before v e f
      here = rw (tally-zeros ws k v e, tally-zeros ws k v f, unheard-zeros ws k v)

  module _ (s : Silent (length ws) v) where
    wins-zeros : (e : ℕ) → wins (ws ++ replicate k 0) before v e ≡ wins ws before v e
    unfolding wins
    wins-zeros e =
        ap₂ (λ (a b : Bool). a && b) (ap₂ (λ (x y : ℕ). ltb x y) (unheard-zeros ws k v) (tally-zeros ws k v e))
        (beaten-zeros e (supported (ws ++ replicate k 0) v) ∙ ap (beats_all ws before v e) (supported-zeros ws (replicate k 0) v s))

    first-zeros : (fs : List ℕ) → first_winner (ws ++ replicate k 0) before v fs ≡ first_winner ws before v fs
    first-zeros [] = refl
    first-zeros (f ∷ fs) = ap₂ (λ (t : Bool) (r : Option ℕ). cond t (Some f) r) (wins-zeros f) (first-zeros fs)

    winner-zeros : winner (ws ++ replicate k 0) before v ≡ winner ws before v
    unfolding winner
    winner-zeros = first-zeros (supported (ws ++ replicate k 0) v) ∙ ap (first_winner ws before v) (supported-zeros ws (replicate k 0) v s)

-- ── in eight cells ──
pub winner-eight : (before : ℕ → ℕ → Bool) (ws : List ℕ) (v : Votes) → Silent (length ws) v → winner (in_eight ws) before v ≡ winner ws before v
winner-eight before ws v s = winner-zeros before ws (8 - length ws) v s

pub eight-zeros : (n : ℕ) (ws : List ℕ) → n ≤ 8 → length ws ≡ 8 → all_b (eqb 0) (drop n ws) ≡ true → in_eight (take n ws) ≡ ws
eight-zeros n ws m e z =
    ap (λ (l : List ℕ). take n ws ++ l) (ap (λ (k : ℕ). replicate k 0) left ∙ sym (zeros (drop n ws) z)) ∙ take-append-drop n ws
  where
    left : 8 - length (take n ws) ≡ length (drop n ws)
    left = omega (arith, length-take-le n ws (omega arith), length-drop n ws, e)
