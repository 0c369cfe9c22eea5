-- A loop that overwrites the list xs by the list ys, of the same length, from the front: after i turns the first i elements are those of ys.
--     filled         the list after i turns
--     fill_step      a store of the next element of ys
--     fill_end       after the last turn
--     fill_here      the next element to be overwritten
--     fill-rest      after a turn behind which nothing is left to store
-- Assumes nothing.
use mathlib.Core.Path.{◌≡◌, sym, ap, ◌∙◌}
use mathlib.Core.List.{List, [], ◌∷◌, ◌++◌, append_assoc, append-nil}
use Prim.Native.Nat.{ℕ, ◌+◌, ◌<◌, ◌≤◌}
use native.Mathlib.Numerals.{add-one}
use native.Mathlib.Omega.{arith}
use lib.ListN.{length, get_or, take, drop, set, drop_of_length-le, take-append-drop}
use lib.Seq.{length-take-le, take-suc, set_at, get_or_at, take_all}
use Rattle.lists.proofs.Walk.{rest-step}

abbrev pub filled : {A : Type 0} → List A → List A → ℕ → List A
filled ys xs i = take i ys ++ drop i xs

-- the same where ys may be shorter
module _ {A : Type 0} (d : A) (ys xs : List A) where
  pub front-step : (i : ℕ) → i < length ys → i < length xs → set (filled ys xs i) i (get_or ys i d) ≡ filled ys xs (i + 1)
  front-step i l h =
      ap (λ (l : List A). set (take i ys ++ l) i (get_or ys i d)) (rest-step d xs i h) ∙
      set_at (take i ys) (get_or xs i d) (drop (i + 1) xs) (get_or ys i d) i (length-take-le i ys (omega arith)) ∙
      sym (ap (λ (l : List A). l ++ drop (i + 1) xs) (ap (λ (k : ℕ). take k ys) (add-one i) ∙ take-suc ys i d l) ∙ append_assoc (take i ys) (get_or ys i d ∷ []) (drop (i + 1) xs))

  pub fill_here : (i : ℕ) → i ≤ length ys → i < length xs → get_or (filled ys xs i) i d ≡ get_or xs i d
  fill_here i l h = ap (λ (r : List A). get_or (take i ys ++ r) i d) (rest-step d xs i h) ∙ get_or_at (take i ys) (get_or xs i d) (drop (i + 1) xs) d i (length-take-le i ys l)

pub fill-rest : {A : Type 0} (ys xs : List A) (i : ℕ) → drop i xs ≡ drop i ys → filled ys xs i ≡ ys
fill-rest ys xs i q = ap (λ (l : List _). take i ys ++ l) q ∙ take-append-drop i ys

module _ {A : Type 0} (d : A) (ys xs : List A) (same : length ys ≡ length xs) where
  pub fill_step : (i : ℕ) → i < length xs → set (filled ys xs i) i (get_or ys i d) ≡ filled ys xs (i + 1)
  fill_step i h = front-step d ys xs i (omega arith) h

  pub fill_end : (i : ℕ) → length xs ≤ i → filled ys xs i ≡ ys
  fill_end i h = rw (take_all i ys (omega arith), drop_of_length-le xs h, append-nil)
