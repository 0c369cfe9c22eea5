-- (iii) The order in which ties go.
--     quieter-is              the test says what the request says
--     quieter-asymmetric      of two entries at most one comes first
--     quieter-total           of two different entries one does
-- Assumes nothing.
use mathlib.Core.Path.{◌≡◌, refl}
use mathlib.Core.Bool.{true, ◌&&◌, ◌||◌}
use mathlib.Core.List.{List}
use mathlib.Core.Logic.{◌⊎◌, inl, inr, ◌↔◌}
use Prim.Native.Nat.{ℕ, ◌<◌}
use native.Mathlib.Decide.{ℕ_discrete, dec_lt}
use native.Mathlib.Omega.{arith}
use lib.Dec.{eqb, ltb}
use borrow.Author.Tests.{eqb-true, ltb-true, eq-eqb, lt-ltb}
use Rattle.lists.proofs.Tests.{and-true, and-of, or-true, or_right}
use Rattle.protocol.specs.Entry.{office_of}
use Rattle.protocol.specs.Winning.{Asymmetric}
use Rattle.protocol.specs.Counts.{count_in, no_counts, count_of, counts_after, quieter_by, quieter}
use Rattle.protocol_laws.proofs.Counts.{count-of}

-- entry e, whose office has c entries, against f, whose office has d: "fewer entries .., then .. the lower value"
abbrev pub Before : ℕ → ℕ → ℕ → ℕ → Type 0
Before c d e f = (c < d) ⊎ ((c ≡ d) × (e < f))

quieter-true : (counts : List ℕ) (e f : ℕ) → quieter_by counts e f ≡ true → Before (count_of counts (office_of e)) (count_of counts (office_of f)) e f
unfolding quieter_by
quieter-true counts e f h = go (count_of counts (office_of e)) (count_of counts (office_of f)) (or-true _ _ h)
  where
    go : (c d : ℕ) → (ltb c d ≡ true) ⊎ ((eqb c d && ltb e f) ≡ true) → Before c d e f
    go c d (inl a) = inl (ltb-true c d a)
    go c d (inr a) = let b = and-true (eqb c d) (ltb e f) a in inr (eqb-true c d b.0, ltb-true e f b.1)

quieter-of : (counts : List ℕ) (e f : ℕ) → Before (count_of counts (office_of e)) (count_of counts (office_of f)) e f → quieter_by counts e f ≡ true
unfolding quieter_by
quieter-of counts e f h = go (count_of counts (office_of e)) (count_of counts (office_of f)) h
  where
    go : (c d : ℕ) → Before c d e f → (ltb c d || (eqb c d && ltb e f)) ≡ true
    go c d (inl a) = rw (lt-ltb c d a) refl
    go c d (inr a) = rw (and-of _ _ (eq-eqb c d a.0) (lt-ltb e f a.1)) (or_right (ltb c d))

-- "a tie goes to the entry whose office has fewer entries in the settled log, then to the lower value"
pub quieter-is : (n : ℕ) (log : List ℕ) (e f : ℕ) → office_of e < n → office_of f < n
    → (quieter (no_counts n) log e f ≡ true) ↔ Before (count_in (office_of e) log) (count_in (office_of f) log) e f
quieter-is n log e f p q =
    let c = count-of n log (office_of e) p in
    let d = count-of n log (office_of f) q in
    (λ h. rw (c, d) at (quieter-true (counts_after (no_counts n) log) e f h), λ h. quieter-of (counts_after (no_counts n) log) e f (rw (c, d) h))

pub quieter-asymmetric : (counts : List ℕ) → Asymmetric (quieter_by counts)
quieter-asymmetric counts e f p q = clash _ _ (quieter-true counts e f p) (quieter-true counts f e q)
  where
    clash : (c d : ℕ) → Before c d e f → Before d c f e → ⊥
    clash c d (inl a) (inl b) = omega arith
    clash c d (inl a) (inr b) = omega arith
    clash c d (inr a) (inl b) = omega arith
    clash c d (inr a) (inr b) = omega arith

pub quieter-total : (counts : List ℕ) (e f : ℕ) → (e ≡ f → ⊥) → (quieter_by counts e f ≡ true) ⊎ (quieter_by counts f e ≡ true)
quieter-total counts e f n = which (one _ _)
  where
    one : (c d : ℕ) → Before c d e f ⊎ Before d c f e
    one c d = go (dec_lt c d) (ℕ_discrete c d) (dec_lt e f)
      where
        go : Dec (c < d) → Dec (c ≡ d) → Dec (e < f) → Before c d e f ⊎ Before d c f e
        go (yes a) _ _ = inl (inl a)
        go (no a) (yes b) (yes h) = inl (inr (b, h))
        go (no a) (yes b) (no h) = inr (inr (omega arith, omega arith))
        go (no a) (no b) _ = inr (inl (omega arith))

    which : Before (count_of counts (office_of e)) (count_of counts (office_of f)) e f ⊎ Before (count_of counts (office_of f)) (count_of counts (office_of e)) f e
        → (quieter_by counts e f ≡ true) ⊎ (quieter_by counts f e ≡ true)
    which (inl b) = inl (quieter-of counts e f b)
    which (inr b) = inr (quieter-of counts f e b)
