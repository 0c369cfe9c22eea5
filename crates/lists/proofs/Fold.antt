-- Loops that fold a list of numbers: what is left of it, from what was made so far, gives what all of it gives from the start.
--     fold_next      one element more
--     fold_done      the list is at its end
-- Assumes nothing.
use mathlib.Core.Path.{◌≡◌, sym, ap, ◌∙◌}
use mathlib.Core.List.{List, foldl}
use Prim.Native.Nat.{ℕ, ◌+◌, ◌<◌, ◌≤◌}
use lib.ListN.{length, get_or, drop, drop_of_length-le}
use Rattle.lists.proofs.Walk.{rest-step}

abbrev pub FoldedUpTo : {S : Type 0} → (S → ℕ → S) → S → List ℕ → S → ℕ → Type 0
FoldedUpTo f start xs made i = foldl f made (drop i xs) ≡ foldl f start xs

module _ {S : Type 0} (f : S → ℕ → S) (start : S) (xs : List ℕ) (made : S) (i : ℕ) (inv : FoldedUpTo f start xs made i) where
  pub fold_next : i < length xs → (next : S) → next ≡ f made (get_or xs i 0) → FoldedUpTo f start xs next (i + 1)
  fold_next h next e = ap (λ (s : S). foldl f s (drop (i + 1) xs)) e ∙ sym (ap (foldl f made) (rest-step 0 xs i h)) ∙ inv

  pub fold_done : length xs ≤ i → made ≡ foldl f start xs
  fold_done h = sym (ap (foldl f made) (drop_of_length-le xs h)) ∙ inv
