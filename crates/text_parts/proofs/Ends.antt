-- The first part.
--     part-within     it ends within the bytes
--     part-taken     it is what comes before the first mark
--     part-lent     so it is of the bytes from a place on
--     part-past     past the end there is none
-- Assumes nothing.
use mathlib.Core.Path.{◌≡◌, refl, ap}
use mathlib.Core.Bool.{Bool, true, false}
use mathlib.Core.List.{List, [], ◌∷◌}
use Prim.Native.Nat.{ℕ, suc, ◌+◌, ◌-◌, ◌≤◌, zero-le, suc-le-suc}
use native.Mathlib.Omega.{arith}
use lib.Dec.{eqb}
use lib.ListN.{length, take, drop, length-drop, drop_of_length-le}
use Rattle.std.specs.Prelude.{◌==◌, not, take_while}
use Rattle.std.proofs.lemmas.List.{take_rest}
use Rattle.std.proofs.lemmas.List.Sums.{take_while-cons}
use Rattle.lists.specs.Tests.{pick}
use Rattle.lists.proofs.Tests.{pick-cases}
use Rattle.text_parts.specs.Parts.{part_length}

pub part-short : (mark : ℕ) (s : List ℕ) → part_length mark s ≤ length s
unfolding part_length
part-short mark [] = zero-le
part-short mark (b ∷ s) = pick-cases (λ (k : ℕ). k ≤ suc (length s)) (eqb b mark) 0 (suc (part_length mark s)) (λ e. zero-le) (λ e. suc-le-suc (part-short mark s))

pub part-within : (mark : ℕ) (s : List ℕ) (at : ℕ) → at ≤ length s → at + part_length mark (drop at s) ≤ length s
part-within mark s at h = omega (arith, part-short mark (drop at s), length-drop at s)

-- what a chain that stops at the mark takes
taken-by : (mark b : ℕ) (s : List ℕ) (t : Bool) → eqb b mark ≡ t → part_length mark s ≡ length (take_while (λ (c : ℕ). not (c == mark)) s)
    → part_length mark (b ∷ s) ≡ length (take_while (λ (c : ℕ). not (c == mark)) (b ∷ s))
unfolding part_length pick
taken-by mark b s true e h = rw (take_while-cons, e)
taken-by mark b s false e h = rw (take_while-cons, e) (ap suc h)

pub part-taken : (mark : ℕ) (s : List ℕ) → part_length mark s ≡ length (take_while (λ (b : ℕ). not (b == mark)) s)
unfolding part_length
part-taken mark [] = refl
part-taken mark (b ∷ s) = taken-by mark b s (eqb b mark) refl (part-taken mark s)

pub part-lent : (mark : ℕ) (s : List ℕ) (at k : ℕ) → k ≡ length (take_while (λ (b : ℕ). not (b == mark)) (take (length s - at) (drop at s))) → k ≡ part_length mark (drop at s)
part-lent mark s at k h = rw (part-taken mark (drop at s)) (rw (take_rest s at) at h)

pub part-past : (mark : ℕ) (s : List ℕ) (at : ℕ) → length s ≤ at → at ≡ at + part_length mark (drop at s)
unfolding part_length
part-past mark s at h = rw (drop_of_length-le s h) (omega arith)
