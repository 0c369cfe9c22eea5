-- The tests in an order of their own: the counts and what must be zero, then with nothing dropped what a record starts with, else the total and the
-- codes. What the definition says of lengths and weights beside that follows from the types.
use borrow.Author.Rules.{rules}
use borrow.Author.Tests.{eqb-true, eq-eqb, leb-true, lt-ltb, tests}
use native.Mathlib.Omega.{arith}
use mathlib.Core.Path.{◌≡◌, refl, sym, ap, ◌∙◌}
use mathlib.Core.Bool.{Bool, true, true≢false, ◌&&◌}
use mathlib.Core.List.{List}
use Prim.Native.Nat.{ℕ}
use mir.Syntax.{w16}
use mir.Val.{Fits}
use lib.Dec.{eqb, leb}
use lib.ListN.{length, get_or, drop, replicate}
use Rattle.std.specs.Cmp.Lexicographic.{pointwise}
use Rattle.std.proofs.lemmas.Iterator.{YieldsList-from_slice}
use Rattle.std.proofs.lemmas.Iterator.Adapters.{YieldsList-from_skip}
use Rattle.std.proofs.lemmas.Iterator.Search.{all_from_yields_List}
use Rattle.lists.specs.Tests.{all_b}
use Rattle.lists.proofs.Chains.{zeros_are}
use Rattle.lists.proofs.Same.{same_is, same_true, same_refl}
use Rattle.lists.proofs.Tests.{all_of, all-at, alike, all_replicate, zeros as zeros-of}
use Rattle.protocol.specs.Codes.{no_codes}
use Rattle.protocol.specs.Limits.{is_weight, total}
use Rattle.summary.specs.Summary.{start_with}
use Rattle.summary.proofs.Laws.{same-summary-eq}
use Rattle.kept.specs.Kept.{is_kept_code, kept_fine}
use Rattle.kept.specs.declared.Kept.{Kept}
use Rattle.kept.proofs.Facts.{kept-not, fine-nothing, fine-some}
use Rattle.kept_limits.proofs.fine.Goals.{After-all, Else-not-zero_from}
use Rattle.kept_limits.proofs.fine.Goals as goal

zeros : (c : After-all) → c.all.result ≡ all_b (eqb 0) (drop c.args.n c.args.kept.counts)
zeros c = zeros_are _ (all_from_yields_List (λ x. eqb x 0) _ _ _ c.all.ensures.ran (YieldsList-from_skip c.args.n (YieldsList-from_slice c.args.kept.counts (cc)) (cc)) (λ x b q k. search (rules, tests)))

pub returns-then-not-add_up : goal.returns-then-not-add_up
returns-then-not-add_up c = kept-not c.args.n c.args.founding c.args.kept (λ F. true≢false (sym (eq-eqb _ _ F.add-up) ∙ sym c.add_up.ensures ∙ c.if-not-add_up.true))

pub returns-then-not-all : goal.returns-then-not-all
returns-then-not-all c = kept-not c.args.n c.args.founding c.args.kept (λ F. true≢false (sym F.rest-counts ∙ sym (zeros (goal.at.returns-then-not-all c).After-all) ∙ c.if-not-all.true))

pub returns-then-not-zero_from : goal.returns-then-not-zero_from
returns-then-not-zero_from c = kept-not c.args.n c.args.founding c.args.kept (λ F. true≢false (sym F.rest ∙ sym c.zero_from.ensures ∙ c.if-not-zero_from.true))

-- ── past the tests of the counts and of what must be zero ──

module _ (c : Else-not-zero_from) (rest-counts : all_b (eqb 0) (drop c.args.n c.args.kept.counts) ≡ true) where
  abbrev n : ℕ
  n = c.args.n

  abbrev founding : List ℕ
  founding = c.args.founding

  abbrev kept : Kept
  kept = c.args.kept

  eight : length kept.summary.present ≡ 8
  eight = search rules

  weighed : all_b is_weight kept.summary.present ≡ true
  unfolding is_weight
  weighed =
      let ws = kept.summary.present in
      all_of is_weight 0 ws (λ i h. let f : Fits w16 (get_or ws i 0) = search rules in lt-ltb (get_or ws i 0) 65536 (omega arith))

  lines : length kept.summary.codes ≡ 64
  lines = search rules

  offices : length kept.counts ≡ 8
  offices = search rules

  add-up : total kept.counts ≡ kept.dropped
  add-up = eqb-true _ _ (sym c.add_up.ensures ∙ c.if-not-add_up.false)

  rest : all_b (eqb 0) (drop n kept.summary.present) ≡ true
  rest = sym c.zero_from.ensures ∙ c.if-not-zero_from.false

  starts : kept.dropped ≡ 0 → (pointwise eqb kept.summary.present founding && pointwise eqb kept.summary.codes no_codes) ≡ kept_fine n founding kept
  starts z = same-summary-eq kept.summary (start_with founding) ∙ fine-nothing n founding kept eight weighed lines offices add-up rest-counts rest z

  goes-on : (kept.dropped ≡ 0 → ⊥) → total kept.summary.present ≡ total founding → all_b is_kept_code kept.summary.codes ≡ kept_fine n founding kept
  goes-on = fine-some n founding kept eight weighed lines offices add-up rest-counts rest

-- no code is kept where each is at most 0
no-code-kept : (codes : List ℕ) → length codes ≡ 64 → all_b (λ (c : ℕ). leb c 0) codes ≡ pointwise eqb codes no_codes
no-code-kept codes lines =
    let low : ℕ → Bool = λ c. leb c 0 in
    alike (all_b low codes) (pointwise eqb codes no_codes)
    (λ e. let zero : all_b (eqb 0) codes ≡ true = all_of (eqb 0) 0 codes (λ i h. eq-eqb _ _ (omega (arith, leb-true _ _ (all-at low 0 codes i e h)))) in
    let is : codes ≡ no_codes = zeros-of codes zero ∙ ap (λ (n : ℕ). replicate n 0) lines in
    same_is codes no_codes ∙ rw is (same_refl no_codes))
    (λ e. ap (all_b low) (same_true codes no_codes (sym (same_is codes no_codes) ∙ e)) ∙ all_replicate low 64 0 refl)

pub returns-then-eq : goal.returns-then-eq
returns-then-eq c =
    let codes = c.args.kept.summary.codes in
    let place = goal.at.returns-then-eq c in
    c.codes_fine.ensures ∙ no-code-kept codes (search rules) ∙ ap (λ t. t && pointwise eqb codes no_codes) (sym c.if-eq.true ∙ c.eq.ensures) ∙
    starts place.Else-not-zero_from (sym (zeros place.After-all) ∙ c.if-not-all.false) c.if-kept-eq0.true

pub returns-else-eq : goal.returns-else-eq
returns-else-eq c =
    let place = goal.at.returns-else-eq c in
    c.if-eq.false ∙ ap (λ t. t && pointwise eqb c.args.kept.summary.codes no_codes) (sym c.if-eq.false ∙ c.eq.ensures) ∙
    starts place.Else-not-zero_from (sym (zeros place.After-all) ∙ c.if-not-all.false) c.if-kept-eq0.true

pub returns-then-total : goal.returns-then-total
returns-then-total c = kept-not c.args.n c.args.founding c.args.kept (λ F. c.if-total.true (c.total.ensures ∙ F.same_total ∙ sym c.total-2.ensures))

pub returns : goal.returns
unfolding is_kept_code
returns c =
    let place = goal.at.returns c in
    let same = sym c.total.ensures ∙ c.if-total.false ∙ c.total-2.ensures in
    c.codes_fine-2.ensures ∙ goes-on place.Else-not-zero_from (sym (zeros place.After-all) ∙ c.if-not-all.false) c.if-kept-eq0.false same
