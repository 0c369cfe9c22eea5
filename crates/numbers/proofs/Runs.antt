-- Runs of items of one width: what is written is read back, and what is read is what was written. One law for weights, values and
-- log records. Assumes nothing.
use Prim.Native.Nat.{ℕ, zero, suc, ◌+◌, ◌-◌, ◌*◌, ◌≤◌}
use mathlib.Core.Bool.{Bool, true}
use mathlib.Core.List.{List, [], ◌∷◌, ◌++◌, append_assoc}
use mathlib.Core.Path.{◌≡◌, refl, sym, ap, ◌∙◌}
use native.Mathlib.Nat.{mul-zero, sub-zero}
use native.Mathlib.Omega.{arith}
use lib.ListN.{length, drop, length-append}
use lib.Seq.{drop_at, drop-drop, get_or-drop}
use Rattle.lists.specs.Tests.{all_b, both}
use Rattle.lists.proofs.Tests.{both-1, both-0}
use Rattle.numbers.specs.Numbers.{run_at, Bytes, run, run_ok}

-- an item of w bytes: f writes it, g reads it, p tests that it stands there, ok its limits
pub record Item (w : ℕ) (f : ℕ → List ℕ) (g : List ℕ → ℕ) (p : List ℕ → Bool) (ok : ℕ → Bool) : Type 0 where
  pub wide : (v : ℕ) → length (f v) ≡ w
  pub said : (v : ℕ) (r : List ℕ) → ok v ≡ true → g (f v ++ r) ≡ v
  pub here : (v : ℕ) (r : List ℕ) → ok v ≡ true → p (f v ++ r) ≡ true
  pub back : (s : List ℕ) → Bytes s → p s ≡ true → f (g s) ++ drop w s ≡ s
  pub fine : (s : List ℕ) → Bytes s → p s ≡ true → ok (g s) ≡ true

pub bytes_drop : (k : ℕ) (s : List ℕ) → Bytes s → Bytes (drop k s)
bytes_drop k s h i = rw get_or-drop (h (k + i))

pub run_at-length : {A : Type 0} (w : ℕ) (g : List ℕ → A) (k : ℕ) (s : List ℕ) → length (run_at w g k s) ≡ k
unfolding run_at
run_at-length w g zero s = refl
run_at-length w g (suc k) s = ap suc (run_at-length w g k (drop w s))

pub drop_more : (w k : ℕ) (s : List ℕ) → drop (w * suc k) s ≡ drop (w * k) (drop w s)
drop_more w k s = let e : w * suc k ≡ w + w * k = omega arith in rw (drop-drop, e)

-- the items after the first i
pub run-rest : (w : ℕ) (g : List ℕ → ℕ) (k i : ℕ) (s : List ℕ) → i ≤ k → drop i (run_at w g k s) ≡ run_at w g (k - i) (drop (w * i) s)
unfolding run_at
run-rest w g k zero s h = rw (sub-zero, mul-zero)
run-rest w g zero (suc i) s h = absurd (omega arith)
run-rest w g (suc k) (suc i) s h =
    let q : suc k - suc i ≡ k - i = omega arith in
    rw (q, drop_more) (run-rest w g k i (drop w s) (omega arith))

module _ (w : ℕ) (f : ℕ → List ℕ) (g : List ℕ → ℕ) (p : List ℕ → Bool) (ok : ℕ → Bool) (I : Item w f g p ok) where
  pub run_length : (vs : List ℕ) → length (run f vs) ≡ w * length vs
  unfolding run
  run_length [] = sym (mul-zero w)
  run_length (v ∷ vs) = length-append (f v) (run f vs) ∙ omega (arith, I.wide v, run_length vs)

  past : (v : ℕ) (r : List ℕ) → drop w (f v ++ r) ≡ r
  past v r = drop_at (f v) r w (I.wide v)

  pub run-said : (vs r : List ℕ) → all_b ok vs ≡ true → run_at w g (length vs) (run f vs ++ r) ≡ vs
  unfolding run run_at all_b
  run-said [] r h = refl
  run-said (v ∷ vs) r h =
      rw (append_assoc, I.said v (run f vs ++ r) (both-0 (ok v) (all_b ok vs) h), past v (run f vs ++ r))
      (ap (λ (l : List ℕ). v ∷ l) (run-said vs r (both-1 (ok v) (all_b ok vs) h)))

  pub run-here : (vs r : List ℕ) → all_b ok vs ≡ true → run_ok w p (length vs) (run f vs ++ r) ≡ true
  unfolding run run_ok all_b both
  run-here [] r h = refl
  run-here (v ∷ vs) r h =
      rw (append_assoc, I.here v (run f vs ++ r) (both-0 (ok v) (all_b ok vs) h), past v (run f vs ++ r))
      (run-here vs r (both-1 (ok v) (all_b ok vs) h))

  pub run_past : (vs r : List ℕ) → drop (w * length vs) (run f vs ++ r) ≡ r
  run_past vs r = drop_at (run f vs) r (w * length vs) (run_length vs)

  pub run-back : (k : ℕ) (s : List ℕ) → Bytes s → run_ok w p k s ≡ true → run f (run_at w g k s) ++ drop (w * k) s ≡ s
  unfolding run run_at run_ok
  run-back zero s b h = rw mul-zero
  run-back (suc k) s b h =
      rw (append_assoc, drop_more, run-back k (drop w s) (bytes_drop w s b) (both-1 (p s) _ h)) (I.back s b (both-0 (p s) _ h))
