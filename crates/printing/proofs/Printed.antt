-- What is printed of a number reads back as that number.
--     printed-number      of every number of at most 20 digits that is within the most that is read
-- Assumes nothing.
use mathlib.Core.Path.{◌≡◌, refl, ap}
use mathlib.Core.Bool.{Bool, true, false}
use mathlib.Core.List.{List, [], ◌∷◌, ◌++◌}
use Prim.Native.Nat.{ℕ, zero, suc, ◌+◌, ◌-◌, ◌*◌, ◌/◌, ◌%◌, ◌^◌, ◌<◌, ◌≤◌}
use native.Mathlib.Nat.{pow-succ'}
use native.Mathlib.Omega.{arith}
use lib.Dec.{ltb}
use lib.ListN.{length, get_or, length-append, get_or-append}
use borrow.Author.Tests.{le-leb, ne_eqb, ltb-true, ltb-false}
use Rattle.lists.specs.Tests.{both, pick}
use Rattle.std.specs.Prelude.{Option, Some, None, option_and_then}
use Rattle.decimal.specs.Number.{is_digit, appended, digit_of, digits_of, leading_zero, number_of}
use Rattle.printing.specs.Printing.{glyph, decimal_in, decimal_of}
use Rattle.printing.proofs.Digits.{digits-one, digits_more}

module _ (most : ℕ) where
  -- one more digit at the end
  by_itself : (x : Option ℕ) → option_and_then (λ (w : ℕ). digits_of most w []) x ≡ x
  unfolding digits_of
  by_itself (Some v) = refl
  by_itself None = refl

  last-by : (x : Option ℕ) (xs : List ℕ) (d : ℕ) → ((w : ℕ) → digits_of most w (xs ++ (d ∷ [])) ≡ option_and_then (λ (u : ℕ). digit_of most u d) (digits_of most w xs))
      → option_and_then (λ (w : ℕ). digits_of most w (xs ++ (d ∷ []))) x ≡ option_and_then (λ (u : ℕ). digit_of most u d) (option_and_then (λ (w : ℕ). digits_of most w xs) x)
  last-by (Some w) xs d h = h w
  last-by None xs d h = refl

  digits_last : (v : ℕ) (xs : List ℕ) (d : ℕ) → digits_of most v (xs ++ (d ∷ [])) ≡ option_and_then (λ (w : ℕ). digit_of most w d) (digits_of most v xs)
  unfolding digits_of
  digits_last v [] d = by_itself (digit_of most v d)
  digits_last v (b ∷ xs) d = last-by (digit_of most v b) xs d (λ w. digits_last w xs d)

  digit-read : (v d : ℕ) → d < 10 → v * 10 + d ≤ most → digit_of most v (glyph d) ≡ Some (v * 10 + d)
  unfolding digit_of is_digit both pick
  digit-read v d h l =
      let e : appended v (glyph d) ≡ v * 10 + d = omega arith in
      rw (le-leb 48 (glyph d) (omega arith), le-leb (glyph d) 57 (omega arith), e, le-leb (v * 10 + d) most l)

  -- a number of more than one digit, by the digits before its last
  module _ (places n : ℕ) (l : n ≤ most) where
    read_by : (t : Bool) → ltb n 10 ≡ t → (10 ≤ n → digits_of most 0 (decimal_in places (n / 10)) ≡ Some (n / 10)) → digits_of most 0 (decimal_in (suc places) n) ≡ Some n
    unfolding digits_of
    read_by true e h =
        let k : n < 10 = ltb-true n 10 e in
        let z : 0 * 10 + n ≡ n = omega arith in
        rw (digits-one (suc places) n (omega arith) k, digit-read 0 n k (omega arith), z)
    read_by false e h =
        let k : 10 ≤ n = ltb-false n 10 e in
        let p : suc places - 1 ≡ places = omega arith in
        let z : n / 10 * 10 + n % 10 ≡ n = omega arith in
        rw (digits_more (suc places) n (omega arith) k, p, digits_last, h k, digit-read (n / 10) (n % 10) (omega arith) (omega arith), z)

    starts_by : (t : Bool) → ltb n 10 ≡ t → 1 ≤ n → (10 ≤ n → (0 < length (decimal_in places (n / 10))) × (49 ≤ get_or (decimal_in places (n / 10)) 0 0))
        → (0 < length (decimal_in (suc places) n)) × (49 ≤ get_or (decimal_in (suc places) n) 0 0)
    starts_by true e o h =
        let k : n < 10 = ltb-true n 10 e in
        rw (digits-one (suc places) n (omega arith) k) (omega arith, omega arith)
    starts_by false e o h =
        let k : 10 ≤ n = ltb-false n 10 e in
        let p : suc places - 1 ≡ places = omega arith in
        let ds = decimal_in places (n / 10) in
        let g : get_or (ds ++ (glyph (n % 10) ∷ [])) 0 0 ≡ get_or ds 0 0 = get_or-append ds (glyph (n % 10) ∷ []) 0 0 (h k).0 in
        rw (digits_more (suc places) n (omega arith) k, p, g, length-append) (omega (arith, (h k).0), (h k).1)

  digits-read : (places n : ℕ) → n ≤ most → n < 10 ^ places → digits_of most 0 (decimal_in places n) ≡ Some n
  unfolding digits_of decimal_in
  digits-read zero n l h = ap Some (omega arith)
  digits-read (suc places) n l h =
      read_by places n l (ltb n 10) refl (λ k. digits-read places (n / 10) (omega arith) (omega (arith, rw pow-succ' at h)))

  -- only 0 begins with the digit 0
  starts : (places n : ℕ) → n ≤ most → n < 10 ^ places → 1 ≤ n → (0 < length (decimal_in places n)) × (49 ≤ get_or (decimal_in places n) 0 0)
  starts zero n l h o = absurd (omega arith)
  starts (suc places) n l h o =
      starts_by places n l (ltb n 10) refl o (λ k. starts places (n / 10) (omega arith) (omega (arith, rw pow-succ' at h)) (omega arith))

  number-of : (field : List ℕ) (n : ℕ) → 0 < length field → 49 ≤ get_or field 0 0 → digits_of most 0 field ≡ Some n → number_of most field ≡ Some n
  unfolding number_of leading_zero both pick
  number-of field n h g e =
      rw (ne_eqb (length field) 0 (λ z. omega (arith, z)), ne_eqb (get_or field 0 0) 48 (λ z. omega (arith, z))) (without (ltb 1 (length field)))
    where
      without : (t : Bool) → pick (both t false) None (digits_of most 0 field) ≡ Some n
      without true = e
      without false = e

  pub printed-number : (n : ℕ) → n ≤ most → n < 10 ^ 20 → number_of most (decimal_of n) ≡ Some n
  unfolding number_of leading_zero digits_of digit_of decimal_in is_digit both pick
  printed-number zero l h = rw (le-leb 0 most l)
  printed-number (suc n) l h =
      let s = starts 20 (suc n) l h (omega arith) in
      number-of (decimal_of (suc n)) (suc n) s.0 s.1 (digits-read 20 (suc n) l h)
