-- Request (v): fair tails. The counts of the n offices are at most 32 / n each and add up to the tail's length, so a fair tail has at most 32 entries,
-- and fewer where one office is below its part.
--     fair-at, fair-of            the test, and the bound for each office
--     fair-nil, fair-drop, fair-behind, fair-append      what keeps it
--     fair-short, below-short     how long a fair tail is
-- Assumes nothing.
use mathlib.Core.Path.{◌≡◌, refl}
use mathlib.Core.Bool.{true}
use mathlib.Core.List.{List, [], ◌∷◌, ◌++◌}
use Prim.Native.Nat.{ℕ, zero, suc, ◌+◌, ◌-◌, ◌*◌, ◌<◌, ◌≤◌}
use native.Mathlib.Nat.{le_of_suc-le-suc, not-suc-le-zero, mul-div-le}
use native.Mathlib.Omega.{arith}
use lib.Dec.{eqb, leb, ltb}
use lib.ListN.{length, get_or, drop, length-replicate}
use lib.Seq.{drop-append-add}
use borrow.Author.Tests.{eqb-true, leb-true, le-leb}
use Rattle.lists.specs.Tests.{all_b}
use Rattle.protocol.specs.Entry.{office_of, is_entry}
use Rattle.protocol.specs.Limits.{total}
use Rattle.protocol.specs.Counts.{count_in, no_counts, counts_after}
use Rattle.protocol.specs.Fair.{part, fair}
use Rattle.lists.proofs.Tests.{both-0, both-1, all-at, all_of, all-mono, if-cases}
use Rattle.protocol_laws.proofs.Counts.{count-append, count-drop, none-length, count-of, counts-total}

-- the counts of n offices in a tail
abbrev counts : ℕ → List ℕ → List ℕ
counts n t = counts_after (no_counts n) t

pub fair-at : (n : ℕ) (t : List ℕ) → fair n t ≡ true → (k : ℕ) → k < n → count_in k t ≤ part n
unfolding fair
fair-at n t f k h = rw (← count-of n t k h) (leb-true _ (part n) (all-at (λ (c : ℕ). leb c (part n)) 0 (counts n t) k f (rw (none-length n t) h)))

pub fair-of : (n : ℕ) (t : List ℕ) → ((k : ℕ) → k < n → count_in k t ≤ part n) → fair n t ≡ true
unfolding fair
fair-of n t h = all_of (λ (c : ℕ). leb c (part n)) 0 (counts n t) (λ k b.
    let c : k < n = rw (none-length n t) at b in le-leb (get_or (counts n t) k 0) (part n) (rw (count-of n t k c) (h k c)))

pub fair-nil : (n : ℕ) → fair n [] ≡ true
unfolding count_in
fair-nil n = fair-of n [] (λ k h. omega arith)

-- a ballot that loses its first entries
pub fair-drop : (n k : ℕ) (t : List ℕ) → fair n t ≡ true → fair n (drop k t) ≡ true
fair-drop n k t f = fair-of n (drop k t) (λ j h. omega (arith, count-drop j k t, fair-at n t f j h))

-- a ballot that keeps its path when the log grows from m to l
pub fair-behind : (n : ℕ) (l m t : List ℕ) → length m ≤ length l → fair n t ≡ true → fair n (drop (length l) (m ++ t)) ≡ true
fair-behind n l m t h f =
    let d : ℕ = length l - length m in
    let e : length l ≡ length m + d = omega arith in
    rw (e, drop-append-add m t d) (fair-drop n d t f)

-- a ballot with an entry of an office that was below its part
pub fair-append : (n e : ℕ) (t : List ℕ) → fair n t ≡ true → count_in (office_of e) t < part n → fair n (t ++ (e ∷ [])) ≡ true
unfolding count_in
fair-append n e t f b = fair-of n (t ++ (e ∷ [])) (λ j h. rw (count-append j t (e ∷ []))
    (if-cases (λ x. count_in j t + (x + 0) ≤ part n) (eqb (office_of e) j) 1 0
    (λ q. let own : count_in j t < part n = rw (eqb-true (office_of e) j q) at b in omega arith)
    (λ _. omega (arith, fair-at n t f j h))))

-- ── how long a fair tail is ──
total-zeros : (n : ℕ) → total (no_counts n) ≡ 0
unfolding total
total-zeros zero = refl
total-zeros (suc n) = omega (arith, total-zeros n)

total-most : (m : ℕ) (xs : List ℕ) → all_b (λ (c : ℕ). leb c m) xs ≡ true → total xs ≤ length xs * m
unfolding total all_b
total-most m [] p = omega arith
total-most m (x ∷ xs) p = omega (arith, leb-true x m (both-0 _ _ p), total-most m xs (both-1 _ _ p))

total-below : (m : ℕ) (xs : List ℕ) → all_b (λ (c : ℕ). leb c m) xs ≡ true → (k : ℕ) → k < length xs → get_or xs k 0 < m → total xs < length xs * m
unfolding total all_b
total-below m [] p k h b = absurd (not-suc-le-zero h)
total-below m (x ∷ xs) p zero h b = omega (arith, total-most m xs (both-1 _ _ p))
total-below m (x ∷ xs) p (suc k) h b = omega (arith, leb-true x m (both-0 _ _ p), total-below m xs (both-1 _ _ p) k (le_of_suc-le-suc h) b)

-- the counts add up to the length
total-is : (n : ℕ) (t : List ℕ) → all_b (is_entry n) t ≡ true → total (counts n t) ≡ length t
unfolding is_entry
total-is n t p =
    let offices : all_b (λ (e : ℕ). ltb (office_of e) (length (no_counts n))) t ≡ true = rw (length-replicate {A = ℕ} n 0) (all-mono (is_entry n) (λ (e : ℕ). ltb (office_of e) n) (λ e. both-0 _ _) t p) in
    omega (arith, counts-total (no_counts n) t offices, total-zeros n)

-- "a tail of 0 to 32 entries"
pub fair-short : (n : ℕ) (t : List ℕ) → fair n t ≡ true → all_b (is_entry n) t ≡ true → length t ≤ 32
unfolding fair
fair-short n t f p =
    let most : total (counts n t) ≤ n * part n = rw (none-length n t) at (total-most (part n) (counts n t) f) in
    omega (arith, most, total-is n t p, mul-div-le 32 n)

-- "An office below its part is never stopped by the others' edits": there is room behind them
pub below-short : (n k : ℕ) (t : List ℕ) → k < n → fair n t ≡ true → all_b (is_entry n) t ≡ true → count_in k t < part n → length t < 32
unfolding fair
below-short n k t h f p b =
    let most : total (counts n t) < n * part n = rw (none-length n t) at (total-below (part n) (counts n t) f k (rw (none-length n t) h) (rw (count-of n t k h) b)) in
    omega (arith, most, total-is n t p, mul-div-le 32 n)
