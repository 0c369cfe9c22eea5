-- The raised numbers of words: no carry says that each word is an entry that codes a line, and words may be joined by `|` before the bits are
-- looked at.
--     no-carry-raised     one word: no carry exactly where it is such an entry
--     no-carry-or         joined numbers: no carry exactly where neither has one
--     no-carry-zero       no word was joined yet
--     raised-next         a walk that joins raised words, one word more
--     zero-next           a walk that joins words as they are, to see whether all are zero, one word more
-- Assumes nothing.
use mathlib.Core.Path.{◌≡◌, refl, sym, ap, ap₂, ◌∙◌}
use mathlib.Core.Bool.{Bool, true}
use mathlib.Core.List.{List}
use Prim.Native.Nat.{ℕ, suc, ◌+◌, ◌/◌, ◌%◌, ◌^◌, ◌<◌, ◌≤◌}
use native.Mathlib.Omega.{arith}
use lib.Dec.{eqb, leb, ltb}
use lib.ListN.{get_or, length}
use lib.Bits.{bit_or, or_add_and, and_le_l, and_le_r, or_shr, or_mod}
use borrow.Author.Tests.{eqb-true, leb-true, ltb-true, eq-eqb, le-leb, lt-ltb}
use Rattle.lists.specs.Tests.{both, pick}
use Rattle.lists.proofs.Tests.{both-0, both-1, both_true, alike, both-comm, both-assoc, both-swap}
use Rattle.protocol.specs.Entry.{office_of, line_of, code_of}
use Rattle.entries.specs.Carries.{is_coding, raised, no_carry}
use Rattle.lists.proofs.Walk.{AllWith, with-next, and_both}
use Rattle.entries.proofs.Word.{at-most-256, few}

ruleset any_order = (both-comm, both-assoc, both-swap)

-- a number is 0 exactly where another is within its limit
zero-leb : (x y k : ℕ) → (x ≡ 0 → y ≤ k) → (y ≤ k → x ≡ 0) → eqb x 0 ≡ leb y k
zero-leb x y k p q = alike (eqb x 0) (leb y k) (λ e. le-leb y k (p (eqb-true x 0 e))) (λ e. eq-eqb x 0 (q (leb-true y k e)))

-- one number is below its limit exactly where another is
below : (x j y k : ℕ) → (x < j → y < k) → (y < k → x < j) → ltb x j ≡ ltb y k
below x j y k p q = alike (ltb x j) (ltb y k) (λ e. lt-ltb y k (p (ltb-true x j e))) (λ e. lt-ltb x j (q (ltb-true y k e)))

-- the three tests of a raised word, each as the definition makes it
module _ (n w : ℕ) (h : w < 4294967296) where
  -- half the code reaches bit 15 where the code is past 9999, and nothing stands between bit 15 and the line's bits
  code-carries : eqb (raised n w / 32768 % 2) 0 ≡ leb (code_of w) 9999
  unfolding raised
  code-carries = zero-leb (raised n w / 32768 % 2) (code_of w) 9999 (λ e. omega arith) (λ e. omega arith)

  -- the line's bits stand as they are
  line-stands : eqb (raised n w / 2097152 % 4) 0 ≡ leb (line_of w) 63
  unfolding raised
  line-stands = ap (λ (x : ℕ). eqb x 0) bits ∙ zero-leb (w / 4194304 % 4) (line_of w) 63 (λ e. omega arith) (λ e. omega arith)
    where
      bits : raised n w / 2097152 % 4 ≡ w / 4194304 % 4
      bits = omega arith

  -- the office reaches bit 31 where it is not below the offices
  office-carries : ltb (raised n w) 2147483648 ≡ ltb (office_of w) n
  unfolding raised
  office-carries =
      let most = at-most-256 n in
      below (raised n w) 2147483648 (office_of w) (pick (leb n 256) n 256) (λ e. omega arith) (λ e. omega arith) ∙ few n (office_of w) (λ (k : ℕ). k) (λ k. omega arith) (omega arith)

-- one word: no carry exactly where it is an entry that codes a line
pub no-carry-raised : (n w : ℕ) → w < 4294967296 → no_carry (raised n w) ≡ is_coding n w
unfolding no_carry is_coding
no-carry-raised n w h = rw (code-carries n w h, line-stands n w h, office-carries n w h) (simp any_order)

-- two numbers joined are 0 where both are
or-zero : (x y : ℕ) → eqb (bit_or x y) 0 ≡ both (eqb x 0) (eqb y 0)
or-zero x y =
    alike (eqb (bit_or x y) 0) (both (eqb x 0) (eqb y 0))
    (λ e. let z : bit_or x y ≡ 0 = eqb-true _ _ e in both_true _ _ (eq-eqb x 0 (omega (arith, or_add_and x y, and_le_r x y))) (eq-eqb y 0 (omega (arith, or_add_and x y, and_le_l x y))))
    (λ e. eq-eqb (bit_or x y) 0 (ap₂ bit_or (eqb-true x 0 (both-0 _ _ e)) (eqb-true y 0 (both-1 _ _ e))))

-- so are the j bits from bit k on
pub or-bits : (k j a b : ℕ) → eqb (bit_or a b / 2 ^ k % 2 ^ j) 0 ≡ both (eqb (a / 2 ^ k % 2 ^ j) 0) (eqb (b / 2 ^ k % 2 ^ j) 0)
or-bits k j a b = rw (or_shr a b k, or_mod (a / 2 ^ k) (b / 2 ^ k) j) (or-zero (a / 2 ^ k % 2 ^ j) (b / 2 ^ k % 2 ^ j))

-- and they are below 2 ^ 31, with no bit from bit 31 on, where both are
or-below : (a b : ℕ) → ltb (bit_or a b) 2147483648 ≡ both (ltb a 2147483648) (ltb b 2147483648)
or-below a b = top (bit_or a b) ∙ ap (λ (x : ℕ). eqb x 0) (or_shr a b 31) ∙ or-zero (a / 2 ^ 31) (b / 2 ^ 31) ∙ sym (ap₂ both (top a) (top b))
  where
    top : (x : ℕ) → ltb x 2147483648 ≡ eqb (x / 2147483648) 0
    top x = sym (zero-leb (x / 2147483648) (suc x) 2147483648 (λ e. omega arith) (λ e. omega arith))

-- joined numbers: no carry exactly where neither has one
pub no-carry-or : (a b : ℕ) → no_carry (bit_or a b) ≡ both (no_carry a) (no_carry b)
unfolding no_carry
no-carry-or a b = ap₂ both (or-bits 15 1 a b) (ap₂ both (or-bits 21 2 a b) (or-below a b)) ∙ regrouped _ _ _ _ _ _
  where
    regrouped : (c d e f g h : Bool) → both (both c d) (both (both e f) (both g h)) ≡ both (both c (both e g)) (both d (both f h))
    regrouped c d e f g h = simp any_order

-- no word was joined yet
pub no-carry-zero : no_carry 0 ≡ true
unfolding no_carry both
no-carry-zero = refl

-- walks over a list: what was joined so far stands for the tests made
module _ {b : Bool} (xs : List ℕ) (bits i v : ℕ) (h : i < length xs) where
  pub raised-next : (n : ℕ) → AllWith b (is_coding n) xs (no_carry bits) i → no_carry v ≡ is_coding n (get_or xs i 0) → AllWith b (is_coding n) xs (no_carry (bit_or bits v)) (i + 1)
  raised-next n inv e = rw (and_both (no_carry bits) (no_carry v) ∙ sym (no-carry-or bits v)) at (with-next (is_coding n) 0 xs (no_carry bits) i inv h (no_carry v) e)

  pub zero-next : AllWith b (eqb 0) xs (eqb bits 0) i → v ≡ get_or xs i 0 → AllWith b (eqb 0) xs (eqb (bit_or bits v) 0) (i + 1)
  zero-next inv e = rw (and_both (eqb bits 0) (eqb v 0) ∙ sym (or-zero bits v)) at (with-next (eqb 0) 0 xs (eqb bits 0) i inv h (eqb v 0) (turned v ∙ ap (eqb 0) e))
    where
      turned : (x : ℕ) → eqb x 0 ≡ eqb 0 x
      turned x = alike (eqb x 0) (eqb 0 x) (λ t. eq-eqb 0 x (sym (eqb-true x 0 t))) (λ t. eq-eqb x 0 (sym (eqb-true 0 x t)))
