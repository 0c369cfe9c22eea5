-- The walks over a tail.
--     tail-first, tail-next, tail-done      the counts of a tail, one word more, and the walk's end
--     tail-room                             a count is at most the tail's length
-- Assumes nothing.
use mathlib.Core.Path.{◌≡◌, refl, sym, ap, ◌∙◌}
use mathlib.Core.List.{List}
use Prim.Native.Nat.{ℕ, ◌+◌, ◌<◌, ◌≤◌}
use native.Mathlib.Omega.{arith}
use lib.ListN.{length, get_or, take, length-take}
use lib.Seq.{take-suc, take_all}
use native.Mathlib.Numerals.{add-one}
use Rattle.protocol.specs.Counts.{no_counts, count_of, counted, counts_after}
use Rattle.protocol_laws.proofs.Counts.{count_most, counts-next}

-- the cells hold the counts of the first i words
abbrev pub Counting : List ℕ → List ℕ → ℕ → Type 0
Counting tail cells i = cells ≡ counts_after (no_counts 8) (take i tail)

pub tail-first : (tail : List ℕ) → Counting tail (no_counts 8) 0
unfolding counts_after
tail-first tail = refl

module _ (tail cells : List ℕ) (i : ℕ) (inv : Counting tail cells i) where
  pub tail-room : (k : ℕ) → count_of cells k ≤ i
  tail-room k = omega (arith, ap (λ (c : List ℕ). count_of c k) inv, count_most 8 (take i tail) k, length-take i tail)

  pub tail-next : i < length tail → (next : List ℕ) → next ≡ counted cells (get_or tail i 0) → Counting tail next (i + 1)
  tail-next h next q =
      q ∙ ap (λ (c : List ℕ). counted c (get_or tail i 0)) inv ∙ sym (counts-next (no_counts 8) (take i tail) (get_or tail i 0)) ∙
      ap (counts_after (no_counts 8)) (sym (ap (λ (j : ℕ). take j tail) (add-one i) ∙ take-suc tail i 0 h))

  pub tail-done : length tail ≤ i → cells ≡ counts_after (no_counts 8) tail
  tail-done h = inv ∙ ap (counts_after (no_counts 8)) (take_all i tail h)
