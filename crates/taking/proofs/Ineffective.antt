-- Dropped entries that have done nothing: what is kept of them may be kept in a sound record.
--     ineffective         the founding weights, no code, and all the entries office 0's
--     ineffective-fine    within the limits
-- Assumes nothing.
use mathlib.Core.Path.{◌≡◌, refl}
use mathlib.Core.Bool.{true}
use mathlib.Core.List.{List, ◌∷◌}
use Prim.Native.Nat.{ℕ, zero, suc, ◌≤◌}
use native.Mathlib.Omega.{arith}
use native.Mathlib.Nat.{not-suc-le-zero}
use lib.Dec.{eqb}
use lib.ListN.{drop, replicate}
use Rattle.lists.specs.Tests.{all_b}
use Rattle.lists.proofs.Tests.{all_drop, all_replicate}
use Rattle.protocol.specs.Limits.{Head, total}
use Rattle.summary.specs.Summary.{start_with}
use Rattle.kept.specs.Kept.{KeptFacts}
use Rattle.kept.specs.declared.Kept.{Kept}
use Rattle.kept.proofs.Laws.{nothing-fine}
use Rattle.frame.proofs.Found.{weights-fine}

abbrev pub ineffective : List ℕ → ℕ → Kept
ineffective founding dropped = record { dropped = dropped; summary = start_with founding; counts = dropped ∷ replicate 7 0 }

total_first : (x : ℕ) → total (x ∷ replicate 7 0) ≡ x
unfolding total
total_first x = omega arith

pub ineffective-fine : (n own : ℕ) (founding : List ℕ) → Head n own founding → (dropped : ℕ) → KeptFacts n founding (ineffective founding dropped)
ineffective-fine n own founding H dropped =
    let N = nothing-fine n founding (weights-fine n own founding H) in
    record {
      eight = N.eight;
      weights = N.weights;
      rest = N.rest;
      same_total = N.same_total;
      lines = N.lines;
      codes = N.codes;
      offices = refl;
      rest-counts = zeros-from n H.some;
      add-up = total_first dropped;
      nothing = λ _. refl;
    }
  where
    zeros-from : (n : ℕ) → 1 ≤ n → all_b (eqb 0) (drop n (dropped ∷ replicate 7 0)) ≡ true
    zeros-from zero h = absurd (not-suc-le-zero h)
    zeros-from (suc k) h = all_drop (eqb 0) k (replicate 7 0) (all_replicate (eqb 0) 7 0 refl)
