-- A number's digits, from the front.
--     digits-none, digits-one, digits_more      no place left; a last digit; the digits before it and it
--     decimal-short      there are no more than the places
--     put-behind, put_last      a byte, a number's last digit behind what was written
--     printed-all, printed-none      with room for 20 digits, and without
-- Assumes nothing.
use mathlib.Core.Path.{◌≡◌, sym}
use mathlib.Core.List.{List, [], ◌∷◌, ◌++◌}
use Prim.Native.Nat.{ℕ, zero, suc, ◌+◌, ◌-◌, ◌/◌, ◌%◌, ◌<◌, ◌≤◌, zero-le}
use native.Mathlib.Omega.{arith}
use lib.Dec.{ltb}
use lib.ListN.{length, set, length-append}
use lib.Seq.{sets}
use borrow.Author.Tests.{lt-ltb, le-ltb, le-leb, lt-leb}
use Rattle.lists.specs.Tests.{pick}
use Rattle.lists.proofs.Tests.{pick-cases}
use Rattle.lists.proofs.Stores.{sets-append}
use Rattle.printing.specs.Printing.{glyph, decimal_in, decimal_of, printed_at, Puts}

pub digits-none : (places n : ℕ) → places ≡ 0 → decimal_in places n ≡ []
unfolding decimal_in
digits-none places n e = rw e

pub digits-one : (places n : ℕ) → 1 ≤ places → n < 10 → decimal_in places n ≡ glyph n ∷ []
unfolding decimal_in pick
digits-one zero n h l = absurd (omega arith)
digits-one (suc places) n h l = rw (lt-ltb n 10 l)

pub digits_more : (places n : ℕ) → 1 ≤ places → 10 ≤ n → decimal_in places n ≡ decimal_in (places - 1) (n / 10) ++ (glyph (n % 10) ∷ [])
unfolding decimal_in pick
digits_more zero n h l = absurd (omega arith)
digits_more (suc places) n h l =
    let e : suc places - 1 ≡ places = omega arith in
    rw (le-ltb n 10 l, e)

pub decimal-short : (places n : ℕ) → length (decimal_in places n) ≤ places
unfolding decimal_in
decimal-short zero n = zero-le
decimal-short (suc places) n =
    pick-cases (λ (s : List ℕ). length s ≤ suc places) (ltb n 10) (glyph n ∷ []) (decimal_in places (n / 10) ++ (glyph (n % 10) ∷ []))
    (λ e. omega arith)
    (λ e. simp length-append (omega (arith, decimal-short places (n / 10))))

-- a byte behind what was written
pub put-behind : (out : List ℕ) (at g : ℕ) (xs : List ℕ) → set (sets out at xs) (at + length xs) g ≡ sets out at (xs ++ (g ∷ []))
put-behind out at g xs = sym (sets-append out at xs (g ∷ []))

module _ (out last : List ℕ) (at r g places n : ℕ) (h : 1 ≤ places) (l : 10 ≤ n) where
  pub put_last : r ≡ at + length (decimal_in (places - 1) (n / 10)) → last ≡ sets out at (decimal_in (places - 1) (n / 10)) → g ≡ glyph (n % 10)
      → Puts out at (decimal_in places n) (r + 1) (set last r g)
  put_last er el eg =
      let e = digits_more places n h l in
      record { end = rw (e, length-append) (omega arith); output = rw (er, el, eg, e) (put-behind out at (glyph (n % 10)) (decimal_in (places - 1) (n / 10))) }

-- where there is room, all digits are printed, and else none
module _ (out : List ℕ) (at n : ℕ) where
  pub printed-all : at + 20 ≤ length out → printed_at out at n ≡ decimal_of n
  unfolding printed_at pick
  printed-all h = rw (le-leb (at + 20) (length out) h)

  pub printed-none : length out < at + 20 → printed_at out at n ≡ []
  unfolding printed_at pick
  printed-none h = rw (lt-leb (at + 20) (length out) h)
