-- What is kept, as facts by name, both ways.
--     kept-facts, kept-true      the test `kept_fine` and its facts
--     kept-not                   without the facts the test fails
--     fine-nothing, fine-some    where the counts are fine and the weights zero from place n on, what is left to test with nothing dropped, and otherwise
-- Assumes nothing.
use mathlib.Core.Path.{◌≡◌, refl, sym, ap, ◌∙◌}
use mathlib.Core.Bool.{Bool, true, false}
use mathlib.Core.List.{List}
use Prim.Native.Nat.{ℕ}
use lib.Dec.{eqb}
use lib.ListN.{length, drop}
use borrow.Author.Tests.{eqb-true, eq-eqb}
use Rattle.lists.specs.Tests.{all_b}
use Rattle.lists.proofs.Tests.{both-0, both-1, both_true, alike, pick-cases, pick_true, all_replicate}
use Rattle.protocol.specs.Limits.{is_weight, total}
use Rattle.summary.specs.Summary.{start_with, same_summary}
use Rattle.summary.specs.declared.Summary.{Summary}
use Rattle.summary.proofs.Laws.{same-summary-true, same-summary-refl}
use Rattle.kept.specs.Kept.{is_kept_code, weights_kept, codes_kept, counts_kept, nothing_kept, kept_fine, KeptFacts}
use Rattle.kept.specs.declared.Kept.{Kept}

module _ (n : ℕ) (founding : List ℕ) (kept : Kept) where
  pub kept-facts : kept_fine n founding kept ≡ true → KeptFacts n founding kept
  unfolding kept_fine weights_kept codes_kept counts_kept nothing_kept
  kept-facts e =
      let weights = both-0 _ _ e in
      let codes = both-0 _ _ (both-1 _ _ e) in
      let counts = both-0 _ _ (both-1 _ _ (both-1 _ _ e)) in
      let same = both-1 _ _ (both-1 _ _ (both-1 _ _ e)) in
      record {
        eight = eqb-true _ _ (both-0 _ _ weights);
        weights = both-0 _ _ (both-1 _ _ weights);
        rest = both-0 _ _ (both-1 _ _ (both-1 _ _ weights));
        same_total = eqb-true _ _ (both-1 _ _ (both-1 _ _ (both-1 _ _ weights)));
        lines = eqb-true _ _ (both-0 _ _ codes);
        codes = both-1 _ _ codes;
        offices = eqb-true _ _ (both-0 _ _ counts);
        rest-counts = both-0 _ _ (both-1 _ _ counts);
        add-up = eqb-true _ _ (both-1 _ _ (both-1 _ _ counts));
        nothing = λ z. same-summary-true kept.summary (start_with founding) (sym (pick_true (eqb kept.dropped 0) _ true (eq-eqb kept.dropped 0 z)) ∙ same);
      }

  pub kept-true : KeptFacts n founding kept → kept_fine n founding kept ≡ true
  unfolding kept_fine weights_kept codes_kept counts_kept nothing_kept
  kept-true F =
      both_true _ _ (both_true _ _ (eq-eqb _ _ F.eight) (both_true _ _ F.weights (both_true _ _ F.rest (eq-eqb _ _ F.same_total))))
      (both_true _ _ (both_true _ _ (eq-eqb _ _ F.lines) F.codes)
      (both_true _ _ (both_true _ _ (eq-eqb _ _ F.offices) (both_true _ _ F.rest-counts (eq-eqb _ _ F.add-up)))
      (pick-cases (λ b. b ≡ true) (eqb kept.dropped 0) (same_summary kept.summary (start_with founding)) true
      (λ z. rw (F.nothing (eqb-true kept.dropped 0 z)) (same-summary-refl (start_with founding))) (λ _. refl))))

  pub kept-not : (KeptFacts n founding kept → ⊥) → false ≡ kept_fine n founding kept
  kept-not f = go (kept_fine n founding kept) refl
    where
      go : (t : Bool) → kept_fine n founding kept ≡ t → false ≡ t
      go true e = absurd (f (kept-facts e))
      go false e = refl

  -- what the types of the fields say
  module _ (eight : length kept.summary.present ≡ 8) (weights : all_b is_weight kept.summary.present ≡ true) (lines : length kept.summary.codes ≡ 64) (offices : length kept.counts ≡ 8)
      (add-up : total kept.counts ≡ kept.dropped) (rest-counts : all_b (eqb 0) (drop n kept.counts) ≡ true) (rest : all_b (eqb 0) (drop n kept.summary.present) ≡ true) where
    facts : total kept.summary.present ≡ total founding → all_b is_kept_code kept.summary.codes ≡ true → (kept.dropped ≡ 0 → kept.summary ≡ start_with founding) → KeptFacts n founding kept
    facts t c none =
        record { eight = eight; weights = weights; rest = rest; same_total = t; lines = lines; codes = c; offices = offices; rest-counts = rest-counts; add-up = add-up; nothing = none }

    pub fine-nothing : kept.dropped ≡ 0 → same_summary kept.summary (start_with founding) ≡ kept_fine n founding kept
    unfolding is_kept_code
    fine-nothing z =
        alike (same_summary kept.summary (start_with founding)) (kept_fine n founding kept)
        (λ e. let same = same-summary-true kept.summary (start_with founding) e in
        kept-true (facts (ap (λ (x : Summary). total x.present) same) (ap (λ (x : Summary). all_b is_kept_code x.codes) same ∙ all_replicate is_kept_code 64 0 refl) (λ _. same)))
        (λ e. rw ((kept-facts e).nothing z) (same-summary-refl (start_with founding)))

    pub fine-some : (kept.dropped ≡ 0 → ⊥) → total kept.summary.present ≡ total founding → all_b is_kept_code kept.summary.codes ≡ kept_fine n founding kept
    fine-some z t =
        alike (all_b is_kept_code kept.summary.codes) (kept_fine n founding kept) (λ c. kept-true (facts t c (λ x. absurd (z x)))) (λ e. (kept-facts e).codes)
