-- An input of more than 18 bytes is not one line of three numbers, so that a program needs no more than its first 19.
--     number_short     a number has at most five digits
--     long-input       more than 18 bytes are answered by a question mark
--     input-cut        the first 19 bytes are answered as the whole input
-- Assumes nothing.
use mathlib.Core.Path.{◌≡◌, refl, sym, ap, subst, ◌∙◌}
use mathlib.Core.Bool.{Bool, true, false, true≢false}
use mathlib.Core.List.{List, [], ◌∷◌}
use Prim.Native.Nat.{ℕ, suc, ◌+◌, ◌*◌, ◌≤◌, ◌<◌}
use native.Mathlib.Decide.{dec_lt}
use native.Mathlib.Omega.{arith}
use lib.Dec.{eqb, ltb, leb}
use lib.ListN.{length, take, set, replicate}
use lib.Seq.{length-take-le, take_all}
use borrow.Author.Tests.{eqb-true, eqb-false, ne_eqb, leb-true, le-leb, lt-ltb}
use Rattle.lists.specs.Tests.{both, pick, all_b}
use Rattle.lists.proofs.Tests.{both-0, both-1, both_true, pick-false}
use Rattle.text_parts.specs.Parts.{part_length}
use Rattle.decimal.specs.Number.{is_digit, appended, digit_of, digits_of, leading_zero, number_of}
use Rattle.decimal.specs.Numbers.{in_first, fields, field_number, numbers_after, numbers_of}
use Rattle.std.specs.Prelude.{Option, Some, None, option_and_then}
use Rattle.decimal.specs.declared.numbers.Numbers.{Numbers}
use Rattle.text_parts.proofs.Ends.{part-short}
use Rattle.decimal.proofs.Walks.{fields-all}
use Rattle.table_lines.specs.Answers.{numbers_in, three_numbers, answer_to}
use Rattle.table_lines.proofs.Input.{second-line, only-line}
use Rattle.table_lines.proofs.Printed.{answer-question}

-- ── a number has at most five digits ──
-- whether a number was read
pub is_number : Option ℕ → Bool
is_number (Some v) = true
is_number None = false

-- whether digits behind the number w make one
reads : ℕ → List ℕ → Bool
reads w s = is_number (digits_of 65535 w s)

-- one digit more
record Next (w b : ℕ) (s : List ℕ) : Type 0 where
  next : ℕ
  more : reads next s ≡ true
  made : next ≡ appended w b
  low : 48 ≤ b
  most : next ≤ 65535

next-by : (w b : ℕ) (s : List ℕ) (t : Bool) → both (is_digit b) (leb (appended w b) 65535) ≡ t
    → is_number (option_and_then (λ (u : ℕ). digits_of 65535 u s) (pick t (Some (appended w b)) None)) ≡ true → Next w b s
unfolding reads is_number is_digit pick
next-by w b s true e h = record {
  next = appended w b;
  more = h;
  made = refl;
  low = leb-true 48 b (both-0 _ _ (both-0 _ _ e));
  most = leb-true (appended w b) 65535 (both-1 _ _ e);
}
next-by w b s false e h = absurd (true≢false (sym h))

next-digit : (w b : ℕ) (s : List ℕ) → reads w (b ∷ s) ≡ true → Next w b s
unfolding reads digits_of digit_of
next-digit w b s h = next-by w b s (both (is_digit b) (leb (appended w b) 65535)) refl h

-- the larger the number, the fewer digits fit behind it
abbrev AtMost : ℕ → ℕ → Type 0
AtMost low k = (w : ℕ) (s : List ℕ) → low ≤ w → reads w s ≡ true → length s ≤ k

no_more : AtMost 6554 0
no_more w [] h e = omega arith
no_more w (b ∷ s) h e = let n = next-digit w b s e in absurd (omega (arith, n.made, n.most))

one_more : (low k : ℕ) → AtMost (low * 10) k → AtMost low (suc k)
one_more low k behind w [] h e = omega arith
one_more low k behind w (b ∷ s) h e = let n = next-digit w b s e in omega (arith, behind n.next s (omega (arith, n.made)) n.more)

above : (low high k : ℕ) → low ≤ high → AtMost low k → AtMost high k
above low high k l f w s h e = f w s (omega arith) e

four-more : AtMost 1 4
four-more =
    one_more 1 3 (above 7 10 3 (omega arith)
    (one_more 7 2 (above 66 70 2 (omega arith)
    (one_more 66 1 (above 656 660 1 (omega arith)
    (one_more 656 0 (above 6554 6560 0 (omega arith) no_more)))))))

-- a field of two bytes or more begins with another digit than 0
long-field : (b c : ℕ) (s : List ℕ) → field_number (b ∷ c ∷ s) ≡ pick (both true (eqb b 48)) None (digits_of 65535 0 (b ∷ c ∷ s))
unfolding number_of leading_zero
long-field b c s =
    let some = ne_eqb (length (b ∷ c ∷ s)) 0 (λ z. omega (arith, z)) in
    let two = lt-ltb 1 (length (b ∷ c ∷ s)) (omega arith) in
    pick-false (eqb (length (b ∷ c ∷ s)) 0) None (pick (both (ltb 1 (length (b ∷ c ∷ s))) (eqb b 48)) None (digits_of 65535 0 (b ∷ c ∷ s))) some
    ∙ ap (λ (t : Bool). pick (both t (eqb b 48)) None (digits_of 65535 0 (b ∷ c ∷ s))) two

begins-by : (b : ℕ) (x : Option ℕ) (t : Bool) → eqb b 48 ≡ t → is_number (pick (both true t) None x) ≡ true → (b ≡ 48 → ⊥) × (is_number x ≡ true)
unfolding is_number both pick
begins-by b x true e h = absurd (true≢false (sym h))
begins-by b x false e h = (eqb-false b 48 e, h)

begins : (b c : ℕ) (s : List ℕ) → is_number (field_number (b ∷ c ∷ s)) ≡ true → (b ≡ 48 → ⊥) × (reads 0 (b ∷ c ∷ s) ≡ true)
unfolding reads
begins b c s h = begins-by b (digits_of 65535 0 (b ∷ c ∷ s)) (eqb b 48) refl (subst (λ (x : Option ℕ). is_number x ≡ true) (long-field b c s) h)

pub number_short : (f : List ℕ) → is_number (field_number f) ≡ true → length f ≤ 5
number_short [] h = omega arith
number_short (b ∷ []) h = omega arith
number_short (b ∷ c ∷ s) h =
    let g = begins b c s h in
    let n = next-digit 0 b (c ∷ s) g.1 in
    omega (arith, four-more n.next (c ∷ s) (omega (arith, n.made, n.low, g.0)) n.more)

-- ── three fields ──
short_field : List ℕ → Bool
short_field f = leb (length f) 5

none-three : three_numbers None ≡ true → ⊥
unfolding three_numbers
none-three h = true≢false (sym h)

-- what is claimed of these fields
abbrev Fields : ℕ → List (List ℕ) → Type 0
Fields count fs = (count + length fs ≡ 3) × (all_b short_field fs ≡ true)

field-more : (count : ℕ) (f : List ℕ) (fs : List (List ℕ)) → length f ≤ 5 → Fields (count + 1) fs → Fields count (f ∷ fs)
unfolding all_b short_field
field-more count f fs h r = (omega (arith, r.0), both_true _ _ (le-leb (length f) 5 h) r.1)

by_field : (count : ℕ) (cells : List ℕ) (f : List ℕ) (fs : List (List ℕ)) (x : Option ℕ) → field_number f ≡ x
    → ((v : ℕ) → three_numbers (numbers_after (count + 1) (set cells count v) fs) ≡ true → Fields (count + 1) fs)
    → three_numbers (option_and_then (λ (v : ℕ). numbers_after (count + 1) (set cells count v) fs) x) ≡ true → Fields count (f ∷ fs)
unfolding is_number
by_field count cells f fs (Some v) e again q = field-more count f fs (number_short f (ap is_number e)) (again v q)
by_field count cells f fs None e again q = absurd (none-three q)

by_count : (count : ℕ) (cells : List ℕ) (f : List ℕ) (fs : List (List ℕ)) (t : Bool)
    → ((v : ℕ) → three_numbers (numbers_after (count + 1) (set cells count v) fs) ≡ true → Fields (count + 1) fs)
    → three_numbers (pick t None (option_and_then (λ (v : ℕ). numbers_after (count + 1) (set cells count v) fs) (field_number f))) ≡ true
    → Fields count (f ∷ fs)
unfolding pick
by_count count cells f fs true again q = absurd (none-three q)
by_count count cells f fs false again q = by_field count cells f fs (field_number f) refl again q

three-fields : (count : ℕ) (cells : List ℕ) (fs : List (List ℕ)) → three_numbers (numbers_after count cells fs) ≡ true → Fields count fs
unfolding numbers_after three_numbers all_b
three-fields count cells [] h = (omega (arith, eqb-true count 3 h), refl)
three-fields count cells (f ∷ fs) h = by_count count cells f fs (eqb count 8) (λ v q. three-fields (count + 1) (set cells count v) fs q) h

-- ── the bytes of a line, by its fields ──
-- each field with a byte behind it
joined : List (List ℕ) → ℕ
joined [] = 0
joined (f ∷ fs) = length f + 1 + joined fs

joined-first : (b n : ℕ) (fs : List (List ℕ)) → joined fs ≡ n + 1 → joined (in_first b fs) ≡ suc n + 1
unfolding joined in_first
joined-first b n [] h = absurd (omega (arith, h))
joined-first b n (f ∷ fs) h = omega (arith, h)

joined_by : (b : ℕ) (s : List ℕ) (t : Bool) → joined (fields s) ≡ length s + 1 → joined (pick t ([] ∷ fields s) (in_first b (fields s))) ≡ length (b ∷ s) + 1
unfolding joined pick
joined_by b s true h = omega (arith, h)
joined_by b s false h = joined-first b (length s) (fields s) h

line-bytes : (s : List ℕ) → joined (fields s) ≡ length s + 1
unfolding joined fields
line-bytes [] = refl
line-bytes (b ∷ s) = joined_by b s (eqb b 32) (line-bytes s)

joined-most : (fs : List (List ℕ)) → all_b short_field fs ≡ true → joined fs ≤ 6 * length fs
unfolding joined all_b short_field
joined-most [] h = omega arith
joined-most (f ∷ fs) h = omega (arith, leb-true (length f) 5 (both-0 _ _ h), joined-most fs (both-1 _ _ h))

line-short : (s : List ℕ) → three_numbers (numbers_of (fields s)) ≡ true → length s ≤ 17
line-short s h = let f = three-fields 0 (replicate 8 0) (fields s) h in omega (arith, f.0, joined-most (fields s) f.1, line-bytes s)

-- ── the whole input ──
three-short : (input : List ℕ) → three_numbers (numbers_in input) ≡ true → length input ≤ 18
three-short input h = go (dec_lt (part_length 10 input + 1) (length input))
  where
    go : Dec (part_length 10 input + 1 < length input) → length input ≤ 18
    go (yes l) = absurd (none-three (subst (λ (x : Option Numbers). three_numbers x ≡ true) (second-line input l) h))
    go (no l) =
        let p = part_length 10 input in
        let line = take p input in
        let only = only-line input (omega arith) ∙ ap numbers_of (fields-all line 0 (omega arith)) in
        let short = line-short line (subst (λ (x : Option Numbers). three_numbers x ≡ true) only h) in
        omega (arith, short, length-take-le p input (part-short 10 input))

pub long-input : (input : List ℕ) → 18 < length input → answer_to input ≡ 63 ∷ 10 ∷ []
long-input input h = go (three_numbers (numbers_in input)) refl
  where
    go : (t : Bool) → three_numbers (numbers_in input) ≡ t → answer_to input ≡ 63 ∷ 10 ∷ []
    go true e = absurd (omega (arith, three-short input e))
    go false e = answer-question input (numbers_in input) refl e

-- so that the first 19 bytes say it all
pub input-cut : (input : List ℕ) → answer_to (take 19 input) ≡ answer_to input
input-cut input = go (dec_lt 18 (length input))
  where
    go : Dec (18 < length input) → answer_to (take 19 input) ≡ answer_to input
    go (yes h) = long-input (take 19 input) (omega (arith, length-take-le 19 input (omega arith))) ∙ sym (long-input input h)
    go (no h) = ap answer_to (take_all 19 input (omega arith))
