-- Which of two entries a tie goes to, by the counts c and d of their offices: fewer entries, or as many and the lower value. Assumes nothing.
use mathlib.Core.Path.{◌≡◌, ap₂}
use mathlib.Core.Bool.{true, false, ◌&&◌, ◌||◌}
use mathlib.Core.List.{List}
use Prim.Native.Nat.{ℕ, ◌<◌, ◌≤◌}
use lib.Dec.{ltb, eqb}
use borrow.Author.Tests.{le-ltb, lt-ltb, eq-eqb, ne_eqb}
use native.Mathlib.Omega.{arith}
use Rattle.protocol.specs.Entry.{office_of}
use Rattle.protocol.specs.Counts.{count_of, quieter_by}

module _ (counts : List ℕ) (e f c d : ℕ) (p : c ≡ count_of counts (office_of e)) (q : d ≡ count_of counts (office_of f)) where
  is : (ltb c d || (eqb c d && ltb e f)) ≡ quieter_by counts e f
  unfolding quieter_by
  is = ap₂ (λ (a b : ℕ). ltb a b || (eqb a b && ltb e f)) p q

  pub tie-fewer : c < d → true ≡ quieter_by counts e f
  tie-fewer h = simp (lt-ltb c d h) at is

  pub tie-more : d ≤ c → (c ≡ d → ⊥) → false ≡ quieter_by counts e f
  tie-more h n = simp (le-ltb c d h, ne_eqb c d n) at is

  pub tie-even : c ≡ d → ltb e f ≡ quieter_by counts e f
  tie-even h = simp (le-ltb c d (omega arith), eq-eqb c d h) at is
