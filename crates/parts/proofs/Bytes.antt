-- Counts as the bytes of one number.
--     low-all                                 each of its eight bytes is below 128
--     Raised, raised-first, raised-next       a walk over cells that hold a tail: the counts of the cells so far, raised
--     office-below, raised-room               each cell's office has a byte, and there is room for one entry more
--     raised-fair                             at the walk's end the bytes are below 128 where the tail is fair
-- Assumes nothing.
use mathlib.Core.Path.{◌≡◌, refl, sym, ap, ◌∙◌}
use mathlib.Core.Bool.{Bool, true}
use mathlib.Core.List.{List, [], ◌∷◌, map}
use Prim.Native.Nat.{ℕ, zero, suc, ◌+◌, ◌-◌, ◌*◌, ◌/◌, ◌%◌, ◌<◌, ◌≤◌}
use native.Mathlib.Nat.{not-suc-le-zero, le_of_suc-le-suc, div-le_self}
use native.Mathlib.Numerals.{add-one}
use native.Mathlib.Decide.{dec_lt}
use native.Mathlib.Omega.{arith}
use lib.Dec.{eqb, ltb}
use lib.ListN.{length, get_or, take, drop, set, replicate, length-drop, take-append-drop, length-take}
use lib.Seq.{take-suc, take_all}
use borrow.Author.Tests.{eqb-true, ltb-true, lt-ltb}
use Rattle.std.specs.List.{list_all}
use Rattle.lists.specs.Tests.{both, pick, all_b}
use Rattle.lists.proofs.Tests.{both-0, both-1, alike, all-at, all_of, all_take, all-mono, if-cases, get_d_map}
use Rattle.lists.proofs.Walk.{and_both}
use Rattle.protocol.specs.Entry.{office_of, is_entry, proper}
use Rattle.protocol.specs.Counts.{count_in, counts_after}
use Rattle.protocol.specs.Fair.{part, fair}
use Rattle.protocol_laws.proofs.Counts.{counts-next, counts-length, counts-at, counts-most, count-append}
use Rattle.protocol_laws.proofs.Fair.{fair-at, fair-of}
use Rattle.parts.specs.Bytes.{Holding, low_bytes}

-- ── each byte is below 128 ──
all-both : (p : ℕ → Bool) (xs : List ℕ) → list_all p xs ≡ all_b p xs
unfolding all_b
all-both p [] = refl
all-both p (x ∷ xs) = and_both (p x) (list_all p xs) ∙ ap (both (p x)) (all-both p xs)

abbrev eight_bytes : ℕ → List ℕ
eight_bytes x = x % 256 ∷ x / 256 % 256 ∷ x / 65536 % 256 ∷ x / 16777216 % 256 ∷ x / 4294967296 % 256 ∷ x / 1099511627776 % 256 ∷ x / 281474976710656 % 256 ∷ x / 72057594037927936 % 256 ∷ []

pub low-all : (x : ℕ) → list_all (λ (b : ℕ). ltb b 128) (eight_bytes x) ≡ low_bytes 8 x
unfolding low_bytes all_b
low-all x =
    let d2 : x / 256 / 256 ≡ x / 65536 = omega arith in
    let d3 : x / 65536 / 256 ≡ x / 16777216 = omega arith in
    let d4 : x / 16777216 / 256 ≡ x / 4294967296 = omega arith in
    let d5 : x / 4294967296 / 256 ≡ x / 1099511627776 = omega arith in
    let d6 : x / 1099511627776 / 256 ≡ x / 281474976710656 = omega arith in
    let d7 : x / 281474976710656 / 256 ≡ x / 72057594037927936 = omega arith in
    rw (d2, d3, d4, d5, d6, d7) (all-both (λ (b : ℕ). ltb b 128) (eight_bytes x))

-- ── numbers below 256 as the bytes of one number, the first as its lowest ──
pub in_bytes : List ℕ → ℕ
in_bytes [] = 0
in_bytes (c ∷ cs) = c + 256 * in_bytes cs

low-is : (cs : List ℕ) → ((k : ℕ) → get_or cs k 0 < 256) → low_bytes (length cs) (in_bytes cs) ≡ all_b (λ (c : ℕ). ltb c 128) cs
unfolding low_bytes in_bytes all_b
low-is [] h = refl
low-is (c ∷ cs) h =
    let b : c < 256 = h 0 in
    let p : (c + 256 * in_bytes cs) % 256 ≡ c = omega arith in
    let q : (c + 256 * in_bytes cs) / 256 ≡ in_bytes cs = omega arith in
    rw (p, q, low-is cs (λ k. h (suc k)))

-- ── one more of an office ──
unit : ℕ → ℕ
unit zero = 1
unit (suc k) = 256 * unit k

first_units : ℕ → List ℕ
first_units zero = []
first_units (suc m) = 1 ∷ map (λ (u : ℕ). 256 * u) (first_units m)

units-at : (m k : ℕ) → k < m → get_or (first_units m) k 0 ≡ unit k
unfolding unit first_units
units-at zero k h = absurd (not-suc-le-zero h)
units-at (suc m) zero h = refl
units-at (suc m) (suc k) h = get_d_map (λ (u : ℕ). 256 * u) 0 (first_units m) k ∙ ap (λ (u : ℕ). 256 * u) (units-at m k (le_of_suc-le-suc h))

-- the code's table
abbrev pub units : List ℕ
units = 1 ∷ 256 ∷ 65536 ∷ 16777216 ∷ 4294967296 ∷ 1099511627776 ∷ 281474976710656 ∷ 72057594037927936 ∷ []

unit-at : (k : ℕ) → k < 8 → get_or units k 0 ≡ unit k
unfolding first_units
unit-at k h = units-at 8 k h

more : (cs : List ℕ) (k : ℕ) → k < length cs → in_bytes (set cs k (get_or cs k 0 + 1)) ≡ in_bytes cs + unit k
unfolding in_bytes unit
more [] k h = absurd (not-suc-le-zero h)
more (c ∷ cs) zero h = let g : c + 1 + 256 * in_bytes cs ≡ c + 256 * in_bytes cs + 1 = omega arith in g
more (c ∷ cs) (suc k) h = omega (arith, more cs k (le_of_suc-le-suc h))

-- bytes are below 256, so there is room
below : (cs : List ℕ) → ((k : ℕ) → get_or cs k 0 < 256) → in_bytes cs < unit (length cs)
unfolding in_bytes unit
below [] h = let g : 0 < 1 = omega arith in g
below (c ∷ cs) h = let b : c < 256 = h 0 in omega (arith, below cs (λ k. h (suc k)))

-- ── the unused cells, and the offices from n on ──
none-beyond : (n k : ℕ) → n ≤ k → (xs : List ℕ) → all_b (is_entry n) xs ≡ true → count_in k xs ≡ 0
unfolding count_in all_b is_entry
none-beyond n k h [] p = refl
none-beyond n k h (x ∷ xs) p =
    let b : office_of x < n = ltb-true (office_of x) n (both-0 _ _ (both-0 _ _ p)) in
    if-cases (λ (c : ℕ). c + count_in k xs ≡ 0) (eqb (office_of x) k) 1 0
    (λ q. let e : office_of x ≡ k = eqb-true (office_of x) k q in absurd (omega arith))
    (λ _. omega (arith, none-beyond n k h xs (both-1 _ _ p)))

zeros-first : (xs : List ℕ) → all_b (eqb 0) xs ≡ true → count_in 0 xs ≡ length xs
unfolding count_in all_b
zeros-first [] p = refl
zeros-first (x ∷ xs) p = let z : 0 ≡ x = eqb-true 0 x (both-0 _ _ p) in rw (← z) (omega (arith, zeros-first xs (both-1 _ _ p)))

zeros-other : (k : ℕ) (xs : List ℕ) → all_b (eqb 0) xs ≡ true → count_in (suc k) xs ≡ 0
unfolding is_entry proper both pick
zeros-other k xs p = none-beyond 1 (suc k) (omega arith) xs (all-mono (eqb 0) (is_entry 1) (λ x z. ap (is_entry 1) (sym (eqb-true 0 x z))) xs p)

-- ── the walk ──
-- a byte that starts at what a part lacks to 127 reaches 128 where the count is past the part
abbrev begin : ℕ → ℕ → List ℕ
begin n len = (127 - part n - (32 - len)) ∷ replicate 7 (127 - part n)

abbrev pub Raised : ℕ → ℕ → List ℕ → ℕ → ℕ → Type 0
Raised n len cells counts i = counts ≡ in_bytes (counts_after (begin n len) (take i cells))

pub part-most : (n : ℕ) → part n ≤ 32
part-most n = div-le_self 32 n

replicate-most : (m x k : ℕ) → get_or (replicate m x) k 0 ≤ x
replicate-most zero x k = omega arith
replicate-most (suc m) x zero = omega arith
replicate-most (suc m) x (suc k) = replicate-most m x k

replicate-at : (m x k : ℕ) → k < m → get_or (replicate m x) k 0 ≡ x
replicate-at zero x k h = absurd (not-suc-le-zero h)
replicate-at (suc m) x zero h = refl
replicate-at (suc m) x (suc k) h = replicate-at m x k (le_of_suc-le-suc h)

module _ (n len : ℕ) (cells : List ℕ) (full : length cells ≡ 32) (H : Holding n len cells) where
  pub raised-first : Raised n len cells ((127 - part n) * 72340172838076673 - (32 - len)) 0
  unfolding counts_after in_bytes
  raised-first = omega (arith, part-most n, H.0)

  begin-most : (k : ℕ) → get_or (begin n len) k 0 ≤ 127
  begin-most zero = let g : 127 - part n - (32 - len) ≤ 127 = omega arith in g
  begin-most (suc k) = omega (arith, replicate-most 7 (127 - part n) k)

  bytes : (l : List ℕ) → length l ≤ 32 → (k : ℕ) → get_or (counts_after (begin n len) l) k 0 < 256
  bytes l h k = omega (arith, counts-most (begin n len) l k, begin-most k)

  eight : (l : List ℕ) → length (counts_after (begin n len) l) ≡ 8
  eight l = counts-length (begin n len) l

  module _ (counts i : ℕ) (inv : Raised n len cells counts i) (h : i < 32) (k : ℕ) (q : k ≡ office_of (get_or cells i 0)) where
    pub office-below : n ≤ 8 → k < 8
    unfolding is_entry
    office-below most = omega (arith, ltb-true (office_of (get_or cells i 0)) n (both-0 _ _ (all-at (is_entry n) 0 cells i H.1.0 (omega arith))))

    pub raised-next : k < 8 → Raised n len cells (counts + get_or units k 0) (i + 1)
    raised-next b =
        let now : List ℕ = counts_after (begin n len) (take i cells) in
        ap (λ (c : ℕ). c + get_or units k 0) inv ∙ ap (λ (u : ℕ). in_bytes now + u) (unit-at k b) ∙ sym (more now k (omega (arith, eight (take i cells))))
        ∙ ap (λ (j : ℕ). in_bytes (set now j (get_or now j 0 + 1))) q
        ∙ ap in_bytes (sym (counts-next (begin n len) (take i cells) (get_or cells i 0)))
        ∙ ap (λ (l : List ℕ). in_bytes (counts_after (begin n len) l)) (sym (ap (λ (j : ℕ). take j cells) (add-one i) ∙ take-suc cells i 0 (omega arith)))

    pub raised-room : k < 8 → counts + get_or units k 0 < 18446744073709551616
    unfolding unit
    raised-room b =
        let l : List ℕ = take (i + 1) cells in
        let most : unit (length (counts_after (begin n len) l)) ≡ 18446744073709551616 = ap unit (eight l) in
        omega (arith, raised-next b, below (counts_after (begin n len) l) (bytes l (omega (arith, length-take (i + 1) cells))), most)

  -- the bytes at the end
  at-end : (k : ℕ) → k < 8 → get_or (counts_after (begin n len) cells) k 0 ≡ 127 - part n + count_in k (take len cells)
  at-end k h = omega (arith, counts-at (begin n len) cells k h, ap (count_in k) (take-append-drop len cells), count-append k (take len cells) (drop len cells), unused k h)
    where
      unused : (j : ℕ) → j < 8 → get_or (begin n len) j 0 + count_in j (drop len cells) ≡ 127 - part n
      unused zero b = let g : 127 - part n - (32 - len) + count_in 0 (drop len cells) ≡ 127 - part n = omega (arith, zeros-first (drop len cells) H.1.1, length-drop len cells, part-most n) in g
      unused (suc j) b = omega (arith, replicate-at 7 (127 - part n) j (le_of_suc-le-suc b), zeros-other j (drop len cells) H.1.1)

  pub raised-fair : n ≤ 8 → (counts i : ℕ) → 32 ≤ i → Raised n len cells counts i → low_bytes 8 counts ≡ fair n (take len cells)
  raised-fair most counts i e inv =
      ap (low_bytes 8) (inv ∙ ap (λ (l : List ℕ). in_bytes (counts_after (begin n len) l)) (take_all i cells (omega arith)))
      ∙ ap (λ (j : ℕ). low_bytes j (in_bytes ends)) (sym (eight cells)) ∙ low-is ends (bytes cells (omega arith)) ∙ alike _ _ to from
    where
      ends : List ℕ
      ends = counts_after (begin n len) cells

      to : all_b (λ (c : ℕ). ltb c 128) ends ≡ true → fair n (take len cells) ≡ true
      to p =
          fair-of n (take len cells)
          (λ k h. omega (arith, ltb-true (get_or ends k 0) 128 (all-at (λ (c : ℕ). ltb c 128) 0 ends k p (omega (arith, eight cells))), at-end k (omega arith), part-most n))

      from : fair n (take len cells) ≡ true → all_b (λ (c : ℕ). ltb c 128) ends ≡ true
      from f = all_of (λ (c : ℕ). ltb c 128) 0 ends (λ k h.
          let b : k < 8 = omega (arith, eight cells) in lt-ltb (get_or ends k 0) 128 (omega (arith, at-end k b, within k (dec_lt k n), part-most n)))
        where
          within : (k : ℕ) → Dec (k < n) → count_in k (take len cells) ≤ part n
          within k (yes h) = fair-at n (take len cells) f k h
          within k (no h) = omega (arith, none-beyond n k (omega arith) (take len cells) (all_take (is_entry n) len cells H.1.0))
