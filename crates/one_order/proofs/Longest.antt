-- The longest of some logs: a log of the list that all others are beginnings of. Assumes nothing.
use mathlib.Core.Path.{◌≡◌, sym, ap}
use mathlib.Core.List.{List, [], ◌∷◌}
use mathlib.Core.Bool.{true, false}
use mathlib.Core.Logic.{◌⊎◌, inl, inr}
use Prim.Native.Nat.{ℕ, zero, suc, ◌<◌, ◌≤◌}
use native.Mathlib.Nat.{le_of_suc-le-suc, not-suc-le-zero}
use native.Mathlib.Omega.{arith}
use lib.Dec.{ltb}
use lib.ListN.{length, get_or}
use borrow.Author.Tests.{ltb-true, ltb-false}
use Rattle.protocol.specs.Beginning.{◌⊑◌, ◌⊏◌}
use Rattle.protocol.specs.Longest.{longest}
use Rattle.lists.proofs.Tests.{if-cases}
use Rattle.protocol_laws.proofs.Beginning.{⊑-cases, ⊏-length}

-- no log of the list is longer
abbrev Most : List (List ℕ) → Type 0
Most ls = (k : ℕ) → k < length ls → length (get_or ls k []) ≤ length (longest ls)

longest-most : (ls : List (List ℕ)) → Most ls
unfolding longest
longest-most [] k h = absurd (not-suc-le-zero h)
longest-most (l ∷ ls) k h = if-cases (λ r. length (get_or (l ∷ ls) k []) ≤ length r) (ltb (length l) (length (longest ls))) (longest ls) l
    (λ e. more e k h (longest-most ls)) (λ e. less e k h (longest-most ls))
  where
    more : ltb (length l) (length (longest ls)) ≡ true → (k : ℕ) → k < suc (length ls) → Most ls → length (get_or (l ∷ ls) k []) ≤ length (longest ls)
    more e zero h ih = omega (arith, ltb-true (length l) (length (longest ls)) e)
    more e (suc k) h ih = ih k (le_of_suc-le-suc h)

    less : ltb (length l) (length (longest ls)) ≡ false → (k : ℕ) → k < suc (length ls) → Most ls → length (get_or (l ∷ ls) k []) ≤ length l
    less e zero h ih = omega arith
    less e (suc k) h ih = omega (arith, ih k (le_of_suc-le-suc h), ltb-false (length l) (length (longest ls)) e)

longest-⊑ : (q : List ℕ) (ls : List (List ℕ)) → ((k : ℕ) → get_or ls k [] ⊑ q) → longest ls ⊑ q
unfolding longest
longest-⊑ q [] h = tt
longest-⊑ q (l ∷ ls) h = if-cases (λ r. r ⊑ q) (ltb (length l) (length (longest ls))) (longest ls) l (λ _. longest-⊑ q ls (λ k. h (suc k))) (λ _. h 0)

-- a log of the list that all others are beginnings of is the longest
pub longest-is : (q : List ℕ) (ls : List (List ℕ)) → ((k : ℕ) → get_or ls k [] ⊑ q) → (k : ℕ) → k < length ls → get_or ls k [] ≡ q → q ≡ longest ls
longest-is q ls h k b e = go (⊑-cases (longest ls) q (longest-⊑ q ls h))
  where
    go : (longest ls ≡ q) ⊎ (longest ls ⊏ q) → q ≡ longest ls
    go (inl d) = sym d
    go (inr d) = absurd (omega (arith, ⊏-length (longest ls) q d, longest-most ls k b, ap length e))
