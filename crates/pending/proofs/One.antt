-- One entry, by the test of its office.
--     one-is, one-not     it is the office's, or it is not
--     one-number          the test as a number is how many it is, one at most
-- Assumes nothing.
use mir.Val.{bool_byte}
use mathlib.Core.Path.{◌≡◌, sym, ap, ◌∙◌}
use mathlib.Core.Bool.{Bool, true, false, cond}
use mathlib.Core.List.{[], ◌∷◌}
use Prim.Native.Nat.{ℕ, ◌≤◌}
use native.Mathlib.Omega.{arith}
use lib.Dec.{eqb}
use lib.ListN.{length}
use Rattle.protocol.specs.Entry.{office_of}
use Rattle.own_entries.specs.Parts.{entries_of}

pub one-is : (k e : ℕ) → eqb (office_of e) k ≡ true → entries_of k (e ∷ []) ≡ e ∷ []
unfolding entries_of
one-is k e h = rw h

pub one-not : (k e : ℕ) → eqb (office_of e) k ≡ false → entries_of k (e ∷ []) ≡ []
unfolding entries_of
one-not k e h = rw h

pub one-number : (k e n : ℕ) (t : Bool) → n ≡ bool_byte t → t ≡ eqb (office_of e) k → (length (entries_of k (e ∷ [])) ≡ n) × (n ≤ 1)
unfolding entries_of
one-number k e n t h j = let d = h ∙ ap bool_byte j in (go (eqb (office_of e) k) n d, few (eqb (office_of e) k) n d)
  where
    go : (t : Bool) (n : ℕ) → n ≡ bool_byte t → length (cond t (e ∷ []) []) ≡ n
    go true n h = sym h
    go false n h = sym h

    few : (t : Bool) (n : ℕ) → n ≡ bool_byte t → n ≤ 1
    few true n h = omega (arith, h)
    few false n h = omega (arith, h)
