-- The answer's 64 places.
--     named-at                       a line named is one of the frame
--     placing-again, placing-ends    the first i places hold what the cells, or else the kept codes, say of the lines
--     get_or-mapped                    what stands at a place of a list
-- Assumes nothing.
use mathlib.Core.Path.{◌≡◌, refl, sym, ap, ap₂, ◌∙◌}
use mathlib.Core.List.{List, [], ◌∷◌, ◌++◌, map}
use Prim.Native.Nat.{ℕ, zero, suc, ◌+◌, ◌-◌, ◌≤◌, ◌<◌}
use native.Mathlib.Nat.{not-suc-le-zero, le_of_suc-le-suc}
use native.Mathlib.Numerals.{unary_clauses}
use native.Mathlib.Omega.{arith}
use lib.Dec.{leb}
use lib.ListN.{length, get_or, set, drop, replicate, length-map, length-replicate}
use lib.Seq.{take_all}
use borrow.Author.Tests.{leb-true}
use Rattle.lists.proofs.Tests.{all-at}
use Rattle.lists.proofs.Fill.{filled, front-step}
use Rattle.runs.specs.Runs.{Named}
use Rattle.backward.specs.Cells.{or_kept, placed, cells_at}

pub named-at : (lines : List ℕ) → Named lines → (i : ℕ) → i < length lines → get_or lines i 0 ≤ 63
named-at lines n i h = leb-true (get_or lines i 0) 63 (all-at (λ (line : ℕ). leb line 63) 0 lines i n.each h)

pub get_or-mapped : (f : ℕ → ℕ) (xs : List ℕ) (i : ℕ) → i < length xs → get_or (map f xs) i 0 ≡ f (get_or xs i 0)
get_or-mapped f [] i h = absurd (not-suc-le-zero h)
get_or-mapped f (x ∷ xs) zero h = refl
get_or-mapped f (x ∷ xs) (suc i) h = get_or-mapped f xs i (le_of_suc-le-suc h)

drop-zeros : (k n : ℕ) → drop {A = ℕ} k (replicate n 0) ≡ replicate (n - k) 0
drop-zeros zero n = simp unary_clauses
drop-zeros (suc k) zero = ap (λ (m : ℕ). replicate {A = ℕ} m 0) none
  where
    none : 0 ≡ 0 - suc k
    none = omega arith
drop-zeros (suc k) (suc n) = simp unary_clauses (drop-zeros k n)

module _ (codes cells lines : List ℕ) where
  -- what is shown of a line
  abbrev shown : ℕ → ℕ
  shown line = or_kept (get_or cells line 0) (get_or codes line 0)

  abbrev pub Placing : List ℕ → ℕ → Type 0
  Placing edits i = edits ≡ filled (cells_at codes cells lines) (replicate 64 0) i

  as_long : length (cells_at codes cells lines) ≡ length lines
  as_long = length-map lines shown

  pub placing-again : (edits : List ℕ) (i : ℕ) → Placing edits i → i < length lines → length lines ≤ 64 → (edit : ℕ)
      → edit ≡ or_kept (get_or cells (get_or lines i 0) 0) (get_or codes (get_or lines i 0) 0) → Placing (set edits i edit) (i + 1)
  placing-again edits i e h few edit s =
      ap₂ (λ (l : List ℕ) (x : ℕ). set l i x) e (s ∙ sym (get_or-mapped shown lines i h))
      ∙ front-step 0 (cells_at codes cells lines) (replicate 64 0) i (omega (arith, as_long)) (omega (arith, length-replicate {A = ℕ} 64 0))

  pub placing-ends : (edits : List ℕ) (i : ℕ) → Placing edits i → i ≡ length lines → edits ≡ placed (cells_at codes cells lines)
  placing-ends edits i e q =
      e ∙ ap (λ (l : List ℕ). l ++ drop i (replicate 64 0)) (take_all i (cells_at codes cells lines) (omega (arith, as_long)))
      ∙ ap (λ (l : List ℕ). cells_at codes cells lines ++ l) (ap (λ (k : ℕ). drop k (replicate 64 0)) (q ∙ sym as_long) ∙ drop-zeros (length (cells_at codes cells lines)) 64)
