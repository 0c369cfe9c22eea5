-- How many entries each office has.
--     counts-append, counts-next        a log in two parts: the second goes on from the counts of the first; one entry more
--     counts-length                     as many counts
--     counts-at, count-of               the count of an office is what stood before and its entries; from no counts, its entries
--     counts-most, count_most           it grows by at most one an entry
--     no-count                          an office beyond the last has none
--     counts-total                      the counts add up to what stood before and the entries
--     count-append, count-drop          the entries of two parts; an end has no more of them
-- Assumes nothing.
use mathlib.Core.Path.{◌≡◌, refl, sym, ◌∙◌}
use mathlib.Core.Bool.{true, cond}
use mathlib.Core.List.{List, [], ◌∷◌, ◌++◌, foldl-append}
use Prim.Native.Nat.{ℕ, zero, suc, ◌+◌, ◌<◌, ◌≤◌}
use native.Mathlib.Nat.{not-suc-le-zero, le_of_suc-le-suc}
use native.Mathlib.Decide.{dec_lt}
use native.Mathlib.Omega.{arith}
use lib.Dec.{eqb, ltb}
use lib.ListN.{length, drop, length-set, length-replicate}
use lib.Seq.{get_or-set_same, get_or-set_other}
use borrow.Author.Tests.{eqb-true, eqb-false, ltb-true}
use Rattle.lists.specs.Tests.{all_b}
use Rattle.lists.proofs.Tests.{both-0, both-1, if-cases, get_d_replicate}
use Rattle.protocol.specs.Entry.{office_of}
use Rattle.protocol.specs.Limits.{total}
use Rattle.protocol.specs.Counts.{count_in, no_counts, count_of, counted, counts_after}
use Rattle.protocol_laws.proofs.Moves.{total-more}

pub no-count : (counts : List ℕ) (k : ℕ) → length counts ≤ k → count_of counts k ≡ 0
no-count [] k h = refl
no-count (c ∷ counts) zero h = absurd (not-suc-le-zero h)
no-count (c ∷ counts) (suc k) h = no-count counts k (le_of_suc-le-suc h)

-- ── one entry ──
counted-length : (counts : List ℕ) (e : ℕ) → length (counted counts e) ≡ length counts
counted-length counts e = length-set counts (office_of e) (count_of counts (office_of e) + 1)

counted-at : (counts : List ℕ) (e k : ℕ) → k < length counts → count_of (counted counts e) k ≡ count_of counts k + cond (eqb (office_of e) k) 1 0
counted-at counts e k h =
    if-cases (λ (x : ℕ). count_of (counted counts e) k ≡ count_of counts k + x) (eqb (office_of e) k) 1 0
    (λ q. rw (eqb-true (office_of e) k q) (get_or-set_same counts k (count_of counts k + 1) 0 h))
    (λ q. omega (arith, get_or-set_other counts (office_of e) k (count_of counts (office_of e) + 1) 0 (λ s. eqb-false (office_of e) k q (sym s))))

counted-most : (counts : List ℕ) (e k : ℕ) → count_of (counted counts e) k ≤ count_of counts k + 1
counted-most counts e k = go (dec_lt k (length counts))
  where
    go : Dec (k < length counts) → count_of (counted counts e) k ≤ count_of counts k + 1
    go (yes h) = if-cases (λ (x : ℕ). count_of (counted counts e) k ≡ count_of counts k + x → count_of (counted counts e) k ≤ count_of counts k + 1) (eqb (office_of e) k) 1 0
        (λ _ q. omega arith) (λ _ q. omega arith) (counted-at counts e k h)
    go (no h) = omega (arith, no-count (counted counts e) k (omega (arith, counted-length counts e)))

-- ── every log ──
pub counts-append : (counts p l : List ℕ) → counts_after counts (p ++ l) ≡ counts_after (counts_after counts p) l
unfolding counts_after
counts-append counts p l = foldl-append counted counts p l

pub counts-next : (counts log : List ℕ) (e : ℕ) → counts_after counts (log ++ (e ∷ [])) ≡ counted (counts_after counts log) e
unfolding counts_after
counts-next counts log e = foldl-append counted counts log (e ∷ [])

pub counts-length : (counts l : List ℕ) → length (counts_after counts l) ≡ length counts
unfolding counts_after
counts-length counts [] = refl
counts-length counts (e ∷ l) = counts-length (counted counts e) l ∙ counted-length counts e

pub counts-at : (counts l : List ℕ) (k : ℕ) → k < length counts → count_of (counts_after counts l) k ≡ count_of counts k + count_in k l
unfolding counts_after count_in
counts-at counts [] k h = omega arith
counts-at counts (e ∷ l) k h = omega (arith, counts-at (counted counts e) l k (rw (counted-length counts e) h), counted-at counts e k h)

pub counts-most : (counts l : List ℕ) (k : ℕ) → count_of (counts_after counts l) k ≤ count_of counts k + length l
unfolding counts_after
counts-most counts [] k = omega arith
counts-most counts (e ∷ l) k = omega (arith, counts-most (counted counts e) l k, counted-most counts e k)

-- from no counts
pub none-length : (n : ℕ) (l : List ℕ) → length (counts_after (no_counts n) l) ≡ n
none-length n l = counts-length (no_counts n) l ∙ length-replicate n 0

pub count-of : (n : ℕ) (l : List ℕ) (k : ℕ) → k < n → count_of (counts_after (no_counts n) l) k ≡ count_in k l
count-of n l k h = counts-at (no_counts n) l k (rw (length-replicate {A = ℕ} n 0) h) ∙ omega (arith, get_d_replicate {A = ℕ} n 0 k)

pub count_most : (n : ℕ) (l : List ℕ) (k : ℕ) → count_of (counts_after (no_counts n) l) k ≤ length l
count_most n l k = omega (arith, counts-most (no_counts n) l k, get_d_replicate {A = ℕ} n 0 k)

-- the counts add up
pub counts-total : (counts l : List ℕ) → all_b (λ (e : ℕ). ltb (office_of e) (length counts)) l ≡ true → total (counts_after counts l) ≡ total counts + length l
unfolding counts_after all_b
counts-total counts [] p = omega arith
counts-total counts (e ∷ l) p =
    let more = counts-total (counted counts e) l (rw (counted-length counts e) (both-1 _ _ p)) in
    omega (arith, more, total-more counts (office_of e) 1 (count_of counts (office_of e)) (ltb-true (office_of e) (length counts) (both-0 _ _ p)) refl)

-- ── one office ──
pub count-append : (office : ℕ) (p l : List ℕ) → count_in office (p ++ l) ≡ count_in office p + count_in office l
unfolding count_in
count-append office [] l = omega arith
count-append office (e ∷ p) l = omega (arith, count-append office p l)

pub count-drop : (office k : ℕ) (l : List ℕ) → count_in office (drop k l) ≤ count_in office l
unfolding count_in
count-drop office zero l = omega arith
count-drop office (suc k) [] = omega arith
count-drop office (suc k) (e ∷ l) = omega (arith, count-drop office k l)
