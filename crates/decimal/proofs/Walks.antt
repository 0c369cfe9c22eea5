-- The walks over a text.
--     digits_step, digits-end      a number, digit by digit
--     number-within      a number is at most the most that it may be
--     fields-here, fields-none, fields-all      the fields from a place on, one by one; none; all from there on
--     parts_from      what `split` gives of the bytes from a place on
--     numbers-step, numbers-end      the numbers of the fields, which are those parts
-- Assumes nothing.
use mathlib.Core.Path.{◌≡◌, refl, sym, ap, subst, ◌∙◌}
use mathlib.Core.Bool.{Bool, true, false, cond}
use mathlib.Core.List.{List, [], ◌∷◌}
use Prim.Native.Nat.{ℕ, suc, ◌+◌, ◌-◌, ◌<◌, ◌≤◌, zero-le}
use native.Mathlib.Numerals.{add-one}
use native.Mathlib.Omega.{arith}
use lib.Dec.{ltb, leb, eqb, leb-suc-suc}
use lib.ListN.{length, get_or, take, drop, set, drop_of_length-le, length-drop}
use lib.Seq.{drop-cons, drop-drop, take_all}
use denote.Param.Members.{Mut}
use denote.Ref.{Bor}
use borrow.Author.Tests.{lt-ltb, le-leb, lt-leb, leb-true, leb-false}
use Rattle.lists.specs.Tests.{both, pick}
use Rattle.lists.proofs.Tests.{both-1, pick-cases}
use Rattle.std.specs.Prelude.{Option, Some, None, option_and_then}
use Rattle.std.specs.Fn.{CalledAt}
use Rattle.std.specs.List.{slice_split, onto_first}
use Rattle.std.specs.Slice.Iter.{split_rest, split_done, split_callee, split_steps}
use Rattle.std.proofs.lemmas.Iterator.{YieldsList}
use Rattle.std.proofs.lemmas.Iterator.Consumers.{YieldsList-at}
use Rattle.std.proofs.lemmas.Iterator.Splits.{YieldsList-from_slice_split}
use Rattle.std.proofs.lemmas.List.{at_drop_more, at_drop_all}
use Rattle.text_parts.specs.Parts.{part_length}
use Rattle.decimal.specs.Number.{is_digit, appended, digit_of, digits_of, leading_zero, number_of}
use Rattle.decimal.specs.Numbers.{in_first, fields, fields_from, field_number, numbers_after}

module _ (most v : ℕ) (s : List ℕ) (i : ℕ) where
  pub digits_step : i < length s → digits_of most v (drop i s) ≡ option_and_then (λ (w : ℕ). digits_of most w (drop (i + 1) s)) (digit_of most v (get_or s i 0))
  unfolding digits_of
  digits_step h = rw (add-one, drop-cons s i 0)

  pub digits-end : length s ≤ i → digits_of most v (drop i s) ≡ Some v
  unfolding digits_of
  digits-end h = rw (drop_of_length-le s h)

-- what is read is within the most that is read
module _ (most : ℕ) where
  abbrev Within : Option ℕ → Type 0
  Within (Some v) = v ≤ most
  Within None = Unit

  digit-within : (v byte : ℕ) → Within (digit_of most v byte)
  unfolding digit_of
  digit-within v byte = pick-cases Within (both (is_digit byte) (leb (appended v byte) most)) (Some (appended v byte)) None (λ e. leb-true (appended v byte) most (both-1 _ _ e)) (λ e. tt)

  by-within : (x : Option ℕ) (f : ℕ → Option ℕ) → Within x → ((w : ℕ) → w ≤ most → Within (f w)) → Within (option_and_then f x)
  by-within (Some w) f h g = g w h
  by-within None f h g = tt

  digits-within : (v : ℕ) (s : List ℕ) → v ≤ most → Within (digits_of most v s)
  unfolding digits_of
  digits-within v [] h = h
  digits-within v (b ∷ s) h = by-within (digit_of most v b) (λ (w : ℕ). digits_of most w s) (digit-within v b) (λ w l. digits-within w s l)

  pub number-within : (field : List ℕ) (v : ℕ) → number_of most field ≡ Some v → v ≤ most
  unfolding number_of
  number-within field v e = subst Within e
      (pick-cases Within (eqb (length field) 0) None (pick (leading_zero field) None (digits_of most 0 field)) (λ t. tt)
      (λ t. pick-cases Within (leading_zero field) None (digits_of most 0 field) (λ u. tt) (λ u. digits-within 0 field zero-le)))

-- the fields after the first
abbrev after : ℕ → List ℕ → List (List ℕ)
after k s = pick (ltb k (length s)) (fields (drop (suc k) s)) []

split_by : (b : ℕ) (s : List ℕ) (t : Bool) → eqb b 32 ≡ t → fields s ≡ take (part_length 32 s) s ∷ after (part_length 32 s) s
    → fields (b ∷ s) ≡ take (part_length 32 (b ∷ s)) (b ∷ s) ∷ after (part_length 32 (b ∷ s)) (b ∷ s)
unfolding fields part_length in_first pick
split_by b s true e h = rw (e, lt-ltb 0 (length (b ∷ s)) (omega arith))
split_by b s false e h = rw (e, h, leb-suc-suc (suc (part_length 32 s)) (length s))

fields_split : (s : List ℕ) → fields s ≡ take (part_length 32 s) s ∷ after (part_length 32 s) s
unfolding fields part_length pick
fields_split [] = refl
fields_split (b ∷ s) = split_by b s (eqb b 32) refl (fields_split s)

after-from : (s : List ℕ) (at k : ℕ) (t : Bool) → at ≤ length s → leb (suc k) (length s - at) ≡ t → after k (drop at s) ≡ fields_from s (at + k + 1)
unfolding fields_from pick
after-from s at k true h e =
    let g : at + suc k ≡ at + k + 1 = omega arith in
    rw (length-drop, e, le-leb (at + k + 1) (length s) (omega (arith, leb-true (suc k) (length s - at) e)), drop-drop, g)
after-from s at k false h e = rw (length-drop, e, lt-leb (at + k + 1) (length s) (omega (arith, leb-false (suc k) (length s - at) e)))

module _ (s : List ℕ) (at : ℕ) where
  pub fields-here : at ≤ length s → fields_from s at ≡ take (part_length 32 (drop at s)) (drop at s) ∷ fields_from s (at + part_length 32 (drop at s) + 1)
  unfolding fields_from pick
  fields-here h =
      let k = part_length 32 (drop at s) in
      rw (le-leb at (length s) h, fields_split (drop at s)) (ap (λ (fs : List (List ℕ)). take k (drop at s) ∷ fs) (after-from s at k (leb (suc k) (length s - at)) h refl))

  pub fields-all : at ≤ length s → fields_from s at ≡ fields (drop at s)
  unfolding fields_from pick
  fields-all h = rw (le-leb at (length s) h)

  pub fields-none : length s < at → fields_from s at ≡ []
  unfolding fields_from pick
  fields-none h = rw (lt-leb at (length s) h)

-- the fields are the parts that std cuts at each space
by-part : (b : ℕ) (t : Bool) (x y : List (List ℕ)) → x ≡ y → cond t ([] ∷ x) (onto_first b x) ≡ pick t ([] ∷ y) (in_first b y)
unfolding pick in_first
by-part b true x y e = ap (λ (fs : List (List ℕ)). [] ∷ fs) e
by-part b false x [] e = ap (onto_first b) e
by-part b false x (f ∷ fs) e = ap (onto_first b) e

split_fields : (s : List ℕ) → slice_split (λ (b : ℕ). eqb b 32) s ≡ fields s
unfolding fields
split_fields [] = refl
split_fields (b ∷ s) = by-part b (eqb b 32) _ _ (split_fields s)

-- what `split` gives of the bytes from a place on
pub parts_from : {F : Type 0} {it s : _} (g : Mut F (Bor ℕ × Unit {0}) Bool) {f : F} (bytes : List ℕ) (start : ℕ) → it ≡ s
    → split_rest s ≡ take (length bytes - start) (drop start bytes) → split_done s ≡ false → split_callee s ≡ f
    → ((x : ℕ) (b : Bool) (q : F) → CalledAt g f x b q → (q ≡ f) × (b ≡ eqb x 32))
    → YieldsList (split_steps g) (λ x. x.now) it (slice_split (λ (b : ℕ). eqb b 32) (drop start bytes))
parts_from g bytes start it rest done closure tests =
    let whole = take_all _ (drop start bytes) (omega (arith, length-drop start bytes)) in
    YieldsList-at it (YieldsList-from_slice_split g (λ (b : ℕ). eqb b 32) (drop start bytes) (rest ∙ whole) done closure tests)

-- the numbers of the parts from one of them on
module _ (s cells : List ℕ) (count at : ℕ) where
  abbrev parts : List (List ℕ)
  parts = slice_split (λ (b : ℕ). eqb b 32) s

  pub numbers-step : (part : List ℕ) → (at < length parts) × (part ≡ get_or parts at part)
      → numbers_after count cells (drop at (fields s))
      ≡ pick (eqb count 8) None (option_and_then (λ (v : ℕ). numbers_after (count + 1) (set cells count v) (drop (at + 1) (fields s))) (field_number part))
  unfolding numbers_after
  numbers-step part h =
      rw (← split_fields s) (at_drop_more (numbers_after count cells) parts at part h.0
      ∙ ap (λ (x : List ℕ). numbers_after count cells (x ∷ drop (at + 1) parts)) (sym h.1))

  pub numbers-end : at ≡ length parts → numbers_after count cells (drop at (fields s)) ≡ Some (record { count = count; cells = cells })
  unfolding numbers_after
  numbers-end h = rw (← split_fields s, h) (at_drop_all (numbers_after count cells) parts (length parts) (omega arith))
