-- Runs of stores.
--     sets-append      one run behind another
--     Left, left-all, left-next, left-none      what a loop that stores piece by piece has left
-- Assumes nothing.
use Prim.Native.Nat.{ℕ, suc, ◌+◌}
use mathlib.Core.List.{List, [], ◌∷◌, ◌++◌}
use mathlib.Core.Path.{◌≡◌, refl, sym, ap, ◌∙◌}
use native.Mathlib.Nat.{add-zero, add-suc, suc-add}
use native.Mathlib.Omega.{arith}
use lib.ListN.{length, set, length-append}
use lib.Seq.{sets, length-sets}

pub sets-append : (l : List ℕ) (i : ℕ) (xs ys : List ℕ) → sets l i (xs ++ ys) ≡ sets (sets l i xs) (i + length xs) ys
sets-append l i [] ys = rw add-zero
sets-append l i (x ∷ xs) ys = sets-append (set l i x) (suc i) xs ys ∙ simp (add-suc, suc-add)

-- `all` was to be stored into l₀ from place `at` on; `rest` is left to store into l from place p on, and gives the same
pub record Left (l₀ : List ℕ) (at : ℕ) (all l : List ℕ) (p : ℕ) (rest : List ℕ) : Type 0 where
  pub long : length l ≡ length l₀
  pub place : p + length rest ≡ at + length all
  pub bytes : sets l p rest ≡ sets l₀ at all

pub left-all : (l : List ℕ) (at : ℕ) (all : List ℕ) → Left l at all l at all
left-all l at all = record { long = refl; place = refl; bytes = refl }

module _ {l₀ : List ℕ} {at : ℕ} {all l : List ℕ} {p : ℕ} {rest : List ℕ} (left : Left l₀ at all l p rest) where
  -- the first piece of the rest is stored
  pub left-next : (piece : List ℕ) {rest' l' : List ℕ} {p' : ℕ} → rest ≡ piece ++ rest' → p' ≡ p + length piece → l' ≡ sets l p piece → Left l₀ at all l' p' rest'
  left-next piece {rest'} e ep el =
      record {
        long = ap length el ∙ length-sets l p piece ∙ left.long;
        place = omega (arith, left.place, length-append piece rest', ap length e);
        bytes = rw (el, ep) (sym (sets-append l p piece rest') ∙ ap (λ (r : List ℕ). sets l p r) (sym e) ∙ left.bytes);
      }

  pub left-none : rest ≡ [] → (p ≡ at + length all) × (l ≡ sets l₀ at all)
  left-none e = (omega (arith, left.place, ap length e), ap (λ (r : List ℕ). sets l p r) (sym e) ∙ left.bytes)
