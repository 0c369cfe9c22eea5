-- The line that is held.
--     line-held, held-again, held_more      the line of the struct that holds it; the struct of that line, and of more behind it
--     HeldRest, held-begins, held-full, held-ends, held-put      more bytes put behind a held line
--     take_within      a count above a list's length
--     none-held      whether no byte is held
-- Assumes nothing.
use mathlib.Core.Path.{◌≡◌, refl, sym, ap, ap₂, ◌∙◌}
use mathlib.Core.List.{List, [], ◌∷◌, ◌++◌, append_assoc, append-nil}
use Prim.Native.Nat.{ℕ, zero, suc, ◌+◌, ◌-◌, ◌<◌, ◌≤◌, min}
use native.Mathlib.Omega.{arith}
use mathlib.Core.Bool.{Bool, true, false}
use native.Mathlib.Nat.{min-eq_left, min-eq_right, le_of_lt}
use lib.Dec.{eqb, leb}
use borrow.Author.Tests.{eq-eqb, ne_eqb, leb-true, leb-false}
use borrow.Rule.Slice.PartMut.{put_mid}
use lib.ListN.{length, take, drop, replicate, length-append, length-drop, drop_of_length-le, length-take, take-append-drop}
use lib.Seq.{drop-drop, drop-append_seam, take_all, take-append-le, take-append_seam, length-take-le}
use Rattle.std.proofs.lemmas.List.{drop-replicate}
use Rattle.rehearsal_lines.specs.declared.Held.{Held}
use Rattle.rehearsal_lines.specs.Held.{line_held, cut, held_of}

-- a count above a list's length takes no more than that length
pub take_within : {A : Type 0} (n most : ℕ) (xs : List A) → length xs ≡ most → take (min n most) xs ≡ take n xs
take_within {A} n most xs h = by-test (leb n most) refl
  where
    by-test : (t : Bool) → leb n most ≡ t → take (min n most) xs ≡ take n xs
    by-test true e = rw (min-eq_left (leb-true n most e))
    by-test false e =
        let l : most < n = leb-false n most e in
        rw (min-eq_right (le_of_lt l)) (take_all most xs (omega arith) ∙ sym (take_all n xs (omega arith)))

take-append-cut : (n : ℕ) (x y : List ℕ) → take n (take n x ++ y) ≡ take n (x ++ y)
take-append-cut zero x y = refl
take-append-cut (suc n) [] y = refl
take-append-cut (suc n) (a ∷ x) y = ap (λ (t : List ℕ). a ∷ t) (take-append-cut n x y)

-- what is held of a line and more behind it
pub cut-more : (x y : List ℕ) → cut (cut x ++ y) ≡ cut (x ++ y)
cut-more x y = take-append-cut 129 x y

pub line-held : (l : List ℕ) → line_held (held_of l) ≡ cut l
line-held l = take-append_seam (cut l) (replicate (129 - length (cut l)) 0)

-- a struct by the bytes that it holds
abbrev held_by : List ℕ → Held
held_by c = record { length = length c; bytes = c ++ replicate (129 - length c) 0 }

cut_short : (l : List ℕ) → length (cut l) ≤ 129
cut_short l = rw length-take (omega arith)

module _ (h : Held) (l : List ℕ) (e : h ≡ held_of l) where
  line-is : line_held h ≡ cut l
  line-is = ap line_held e ∙ line-held l

  pub held-again : h ≡ held_of (line_held h)
  held-again = e ∙ ap held_by (sym (take_all 129 (cut l) (cut_short l)) ∙ ap cut (sym line-is))

  pub held_more : (more : List ℕ) → held_of (line_held h ++ more) ≡ held_of (l ++ more)
  held_more more = ap held_by (ap (λ (c : List ℕ). cut (c ++ more)) line-is ∙ cut-more l more)

-- the invariant: the bytes so far and those that are left make the line that is to be held, and the cells behind are zero
pub record HeldRest (line more bytes : List ℕ) (size i : ℕ) : Type 0 where
  pub long : length bytes ≡ 129
  pub within : size ≤ 129
  pub whole : cut (take size bytes ++ drop i more) ≡ cut (line ++ more)
  pub zeros : drop size bytes ≡ replicate (129 - size) 0

pub held-begins : (h : Held) (more : List ℕ) (size : ℕ) → length h.bytes ≡ 129 → h ≡ held_of (line_held h) → size ≡ min h.length 129 → HeldRest (take size h.bytes) more h.bytes size 0
held-begins h more size long e es =
    let n : h.length ≡ length (cut (line_held h)) = ap (λ (x : Held). x.length) e in
    let b : h.bytes ≡ cut (line_held h) ++ replicate (129 - length (cut (line_held h))) 0 = ap (λ (x : Held). x.bytes) e in
    let s : size ≡ h.length = es ∙ min-eq_left (omega (arith, n, cut_short (line_held h))) in
    record {
      long = long;
      within = omega (arith, s, n, cut_short (line_held h));
      whole = refl;
      zeros = ap (λ (k : ℕ). drop k h.bytes) (s ∙ n) ∙ ap (drop (length (cut (line_held h)))) b ∙ drop-append_seam (cut (line_held h)) _ ∙ ap (λ (k : ℕ). replicate (129 - k) 0) (sym (s ∙ n));
    }

module _ {line more bytes : List ℕ} {size i : ℕ} (inv : HeldRest line more bytes size i) where
  held-is : take size bytes ≡ cut (line ++ more) → ◌≡◌ {A = Held} (record { length = size; bytes = bytes }) (held_of (line ++ more))
  held-is t =
      let n : size ≡ length (cut (line ++ more)) = sym (length-take-le size bytes (omega (arith, inv.long, inv.within))) ∙ ap length t in
      ap₂ (λ (k : ℕ) (b : List ℕ). record { length = k; bytes = b }) n
      (sym (take-append-drop size bytes) ∙ ap₂ (λ (x y : List ℕ). x ++ y) t inv.zeros ∙ ap (λ (k : ℕ). cut (line ++ more) ++ replicate (129 - k) 0) n)

  pub held-full : size ≡ 129 → ◌≡◌ {A = Held} (record { length = size; bytes = bytes }) (held_of (line ++ more))
  held-full e =
      let t : length (take 129 bytes) ≡ 129 = length-take-le 129 bytes (omega (arith, inv.long)) in
      held-is
      (rw e (sym (take-append-le 129 (take 129 bytes) (drop i more) (omega arith) ∙ take_all 129 (take 129 bytes) (omega arith))) ∙
      ap (λ (k : ℕ). cut (take k bytes ++ drop i more)) (sym e) ∙
      inv.whole)

  pub held-ends : length more ≤ i → ◌≡◌ {A = Held} (record { length = size; bytes = bytes }) (held_of (line ++ more))
  held-ends h =
      held-is (sym (rw (drop_of_length-le more h, append-nil) (take_all 129 (take size bytes) (rw length-take (omega (arith, inv.within))))) ∙ inv.whole)

-- as many of the bytes as there is room for, stored behind the line at once
held-stored : {line more bytes : List ℕ} {size : ℕ} (n : ℕ) → HeldRest line more bytes size 0 → n ≡ min (length more) (129 - size)
    → HeldRest line more (take size bytes ++ (take n more ++ drop (size + n) bytes)) (size + n) n
held-stored {line} {more} {bytes} {size} n inv e =
    let few : n ≤ length more = omega (arith, e) in
    let room : n ≤ 129 - size = omega (arith, e) in
    let a : length (take size bytes) ≡ size = length-take-le size bytes (omega (arith, inv.long, inv.within)) in
    let b : length (take n more) ≡ n = length-take-le n more few in
    let front : List ℕ = take size bytes ++ take n more in
    let f : length front ≡ size + n = length-append (take size bytes) (take n more) ∙ ap₂ (λ (x y : ℕ). x + y) a b in
    let all : take size bytes ++ (take n more ++ drop (size + n) bytes) ≡ front ++ drop (size + n) bytes = sym (append_assoc (take size bytes) (take n more) (drop (size + n) bytes)) in
    let rest : drop (size + n) bytes ≡ replicate (129 - (size + n)) 0 =
    sym (drop-drop n size bytes) ∙ ap (drop n) inv.zeros ∙ drop-replicate n (129 - size) 0 ∙ ap (λ (k : ℕ). replicate k 0) (omega arith) in
    record {
      long = ap length all ∙ length-append front (drop (size + n) bytes) ∙ omega (arith, f, length-drop (size + n) bytes, inv.long, inv.within, room);
      within = omega (arith, inv.within, room);
      whole =
          ap (λ (x : List ℕ). cut (x ++ drop n more)) (ap (take (size + n)) all ∙ ap (λ (k : ℕ). take k (front ++ drop (size + n) bytes)) (sym f) ∙ take-append_seam front (drop (size + n) bytes))
          ∙ ap cut (append_assoc (take size bytes) (take n more) (drop n more) ∙ ap (λ (x : List ℕ). take size bytes ++ x) (take-append-drop n more)) ∙ inv.whole;
      zeros = ap (drop (size + n)) all ∙ ap (λ (k : ℕ). drop k (front ++ drop (size + n) bytes)) (sym f) ∙ drop-append_seam front (drop (size + n) bytes) ∙ rest;
    }

held-behind : {line more bytes : List ℕ} {size : ℕ} (n : ℕ) → HeldRest line more bytes size 0 → n ≡ min (length more) (129 - size)
    → ◌≡◌ {A = Held} (record { length = size + n; bytes = take size bytes ++ (take n more ++ drop (size + n) bytes) }) (held_of (line ++ more))
held-behind {line} {more} {bytes} {size} n inv e = by-test (leb (length more) (129 - size)) refl
  where
    by-test : (t : Bool) → leb (length more) (129 - size) ≡ t → ◌≡◌ {A = Held} (record { length = size + n; bytes = take size bytes ++ (take n more ++ drop (size + n) bytes) }) (held_of (line ++ more))
    by-test true q = held-ends (held-stored n inv e) (omega (arith, e, leb-true (length more) (129 - size) q))
    by-test false q = held-full (held-stored n inv e) (omega (arith, e, inv.within, leb-false (length more) (129 - size) q))

-- as the code has it: w bytes at once, in the place of as many
pub held-put : {line more bytes : List ℕ} {size : ℕ} (n w : ℕ) (ys : List ℕ) → HeldRest line more bytes size 0 → n ≡ min (length more) (129 - size) → w ≡ n → ys ≡ take w more
    → ◌≡◌ {A = Held} (record { length = size + n; bytes = put_mid size w bytes ys }) (held_of (line ++ more))
held-put {line} {more} {bytes} {size} n w ys inv e v y = rw (y, v, drop-drop) (held-behind n inv e)

-- none is held exactly where the length is 0
pub none-held : (n : ℕ) (bytes : List ℕ) → length bytes ≡ 129 → eqb n 0 ≡ eqb (length (take n bytes)) 0
none-held zero bytes h = eq-eqb 0 0 refl ∙ sym (eq-eqb (length (take 0 bytes)) 0 (omega (arith, length-take 0 bytes)))
none-held (suc n) bytes h = ne_eqb (suc n) 0 (λ e. omega (arith, e)) ∙ sym (ne_eqb (length (take (suc n) bytes)) 0 (λ e. omega (arith, e, h, length-take (suc n) bytes)))
