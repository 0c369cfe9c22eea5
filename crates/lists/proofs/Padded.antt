-- What stands in the cells of a list with others behind it.
--     padded-at      in its own cells the list's
--     padded-past    the same in every other
-- Assumes nothing.
use mathlib.Core.Path.{◌≡◌, ap, ◌∙◌}
use mathlib.Core.List.{List}
use Prim.Native.Nat.{ℕ, ◌+◌, ◌-◌, ◌≤◌, ◌<◌}
use native.Mathlib.Omega.{arith}
use lib.ListN.{length, get_or, replicate, get_or-append}
use lib.Seq.{get_or-append-add}
use Rattle.lists.specs.Padded.{padded}
use Rattle.lists.proofs.Tests.{get_d_replicate}

module _ {A : Type 0} (size : ℕ) (x : A) (xs : List A) (i : ℕ) where
  pub padded-at : i < length xs → get_or (padded size x xs) i x ≡ get_or xs i x
  padded-at h = get_or-append xs (replicate (size - length xs) x) x i h

  pub padded-past : length xs ≤ i → get_or (padded size x xs) i x ≡ x
  padded-past h =
      ap (λ (k : ℕ). get_or (padded size x xs) k x) split
      ∙ get_or-append-add xs (replicate (size - length xs) x) (i - length xs) x
      ∙ get_d_replicate (size - length xs) x (i - length xs)
    where
      split : i ≡ length xs + (i - length xs)
      split = omega arith
