-- What is kept of dropped entries.
--     kept-nil, kept_append      nothing more is dropped; entries that are dropped in two parts
--     nothing-fine, after-fine   what a record starts with is within the limits, and dropping entries of n offices keeps them
--     kept-none                  with nothing dropped it is what a record starts with
--     count-within, roomy        no count is above the dropped count, so there is room where the lengths have it
-- Assumes nothing.
use mathlib.Core.Path.{◌≡◌, refl, sym, ap, ◌∙◌}
use mathlib.Core.Bool.{true}
use mathlib.Core.List.{List, [], ◌∷◌, ◌++◌}
use Prim.Native.Nat.{ℕ, suc, ◌+◌, ◌<◌, ◌≤◌}
use native.Mathlib.Nat.{add-zero}
use native.Mathlib.Omega.{arith}
use lib.Dec.{eqb, ltb}
use lib.ListN.{length, drop, replicate, length-append}
use lib.Seq.{drop-set-lt}
use borrow.Author.Tests.{eqb-true, ltb-true, lt-ltb, le-leb}
use Rattle.lists.specs.Tests.{all_b}
use Rattle.lists.proofs.Tests.{both-0, both-1, all-mono, all_set, all_drop, all-zeros, all_replicate}
use Rattle.protocol.specs.Entry.{office_of, line_of, code_of, is_entry}
use Rattle.protocol.specs.Codes.{coded, codes_after}
use Rattle.protocol.specs.Counts.{count_of, counted, counts_after}
use Rattle.protocol.specs.Limits.{total, weights_fine}
use Rattle.protocol_laws.proofs.Codes.{codes-length}
use Rattle.protocol_laws.proofs.Counts.{counts-append, counts-length, counts-total}
use Rattle.protocol_laws.proofs.Moves.{proper-true, weights-length, weights-total, weights-most, weights-zero}
use Rattle.summary.specs.Summary.{summary_after}
use Rattle.summary.proofs.Laws.{summary-append, summary-nil}
use Rattle.kept.specs.Kept.{is_kept_code, kept_nothing, kept_after, KeptFacts, Roomy}
use Rattle.kept.specs.declared.Kept.{Kept}
use Rattle.kept.proofs.Sums.{within-total, no-total}

pub kept-nil : (k : Kept) → kept_after k [] ≡ k
unfolding counts_after
kept-nil k = λ i. record { dropped = add-zero k.dropped i; summary = summary-nil k.summary i; counts = k.counts }

pub kept_append : (k : Kept) (p q : List ℕ) → kept_after (kept_after k p) q ≡ kept_after k (p ++ q)
kept_append k p q = λ i. record { dropped = all i; summary = sym (summary-append k.summary p q) i; counts = sym (counts-append k.counts p q) i }
  where
    all : k.dropped + length p + length q ≡ k.dropped + length (p ++ q)
    all = omega (arith, length-append p q)

-- ── one entry, and every log, of n offices ──
coded_kept : (n : ℕ) (codes : List ℕ) (e : ℕ) → is_entry n e ≡ true → all_b is_kept_code codes ≡ true → all_b is_kept_code (coded codes e) ≡ true
unfolding is_entry is_kept_code
coded_kept n codes e p c =
    let code = (proper-true n (line_of e) (code_of e) (both-1 _ _ p)).code_ok in
    all_set is_kept_code codes (line_of e) (suc (code_of e)) c (le-leb (suc (code_of e)) 10000 (omega arith))

codes-kept : (n : ℕ) (codes log : List ℕ) → all_b (is_entry n) log ≡ true → all_b is_kept_code codes ≡ true → all_b is_kept_code (codes_after codes log) ≡ true
unfolding codes_after all_b
codes-kept n codes [] p c = c
codes-kept n codes (e ∷ log) p c = codes-kept n (coded codes e) log (both-1 _ _ p) (coded_kept n codes e (both-0 _ _ p) c)

office-of : (n e : ℕ) → is_entry n e ≡ true → office_of e < n
unfolding is_entry
office-of n e p = ltb-true (office_of e) n (both-0 _ _ p)

counts-rest : (n : ℕ) (counts log : List ℕ) → all_b (is_entry n) log ≡ true → drop n (counts_after counts log) ≡ drop n counts
unfolding counts_after all_b
counts-rest n counts [] p = refl
counts-rest n counts (e ∷ log) p =
    counts-rest n (counted counts e) log (both-1 _ _ p) ∙ drop-set-lt n counts (office_of e) (count_of counts (office_of e) + 1) (office-of n e (both-0 _ _ p))

-- ── the limits ──
pub nothing-fine : (n : ℕ) (founding : List ℕ) → weights_fine n founding ≡ true → KeptFacts n founding (kept_nothing founding)
unfolding weights_fine is_kept_code total
nothing-fine n founding e = record {
  eight = eqb-true _ _ (both-0 _ _ e);
  weights = both-0 _ _ (both-1 _ _ e);
  rest = both-0 _ _ (both-1 _ _ (both-1 _ _ e));
  same_total = refl;
  lines = refl;
  codes = all_replicate is_kept_code 64 0 refl;
  offices = refl;
  rest-counts = all_drop (eqb 0) n (replicate 8 0) (all-zeros 8);
  add-up = refl;
  nothing = λ _. refl;
}

module _ (n : ℕ) (founding : List ℕ) (kept : Kept) (F : KeptFacts n founding kept) where
  pub count-within : (k : ℕ) → count_of kept.counts k ≤ kept.dropped
  count-within k = omega (arith, F.add-up, within-total kept.counts k)

  pub roomy : (len : ℕ) → len < 4294967296 → kept.dropped + len < 18446744073709551616 → Roomy kept len
  roomy len h l = record { short = h; within = count-within; fits = l }

  pub kept-none : kept.dropped ≡ 0 → kept ≡ kept_nothing founding
  kept-none z = λ i. record { dropped = z i; summary = F.nothing z i; counts = none i }
    where
      none : kept.counts ≡ replicate 8 0
      none = no-total kept.counts (F.add-up ∙ z) ∙ ap (λ (k : ℕ). replicate k 0) F.offices

  pub after-fine : n ≤ 8 → (log : List ℕ) → all_b (is_entry n) log ≡ true → KeptFacts n founding (kept_after kept log)
  after-fine few log p = record {
    eight = weights-length kept.summary.present log ∙ F.eight;
    weights = weights-most kept.summary.present log F.weights;
    rest = weights-zero n kept.summary.present log p F.rest;
    same_total = weights-total kept.summary.present log ∙ F.same_total;
    lines = codes-length kept.summary.codes log ∙ F.lines;
    codes = codes-kept n kept.summary.codes log p F.codes;
    offices = counts-length kept.counts log ∙ F.offices;
    rest-counts = rw (counts-rest n kept.counts log p) F.rest-counts;
    add-up = counts-total kept.counts log (all-mono (is_entry n) (λ (e : ℕ). ltb (office_of e) (length kept.counts)) there log p) ∙ ap (λ (x : ℕ). x + length log) F.add-up;
    nothing = λ z. ap (summary_after kept.summary) (empty log (omega arith)) ∙ summary-nil kept.summary ∙ F.nothing (omega arith);
  }
    where
      there : (e : ℕ) → is_entry n e ≡ true → ltb (office_of e) (length kept.counts) ≡ true
      there e q = lt-ltb (office_of e) (length kept.counts) (omega (arith, office-of n e q, F.offices))

      empty : (l : List ℕ) → length l ≡ 0 → l ≡ []
      empty [] z = refl
      empty (x ∷ l) z = absurd (omega arith)
