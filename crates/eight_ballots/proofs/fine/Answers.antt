use mathlib.Core.Path.{◌≡◌, refl, sym, ap, ◌∙◌}
use mathlib.Core.Bool.{Bool, true, ◌&&◌}
use Prim.Native.Nat.{ℕ, ◌≤◌}
use native.Mathlib.Omega.{arith}
use lib.Dec.{ltb}
use lib.ListN.{length, get_or}
use borrow.Author.Tests.{le-leb, lt-ltb, ltb-true}
use borrow.Author.Rules.{rules}
use Rattle.lists.specs.Tests.{both, all_b}
use Rattle.lists.proofs.Tests.{all-mono, all-at, all_of, both_true, both-false-0, both-false-1, both-passed}
use Rattle.ballots.specs.Ballots.{ballots_fine, off_end}
use Rattle.eight_ballots.specs.Fours.{coding_cells, entry_cells, unused_zero, fair_tail, padded_entries}
use Rattle.eight_ballots.proofs.Eight.{none-all, fit_from, fit_next, fit-done, fit-few, fine-tests-all, all_both, eight-tests}
use Rattle.eight_ballots.proofs.Fours.{coding-cells, rest_fine}
use Rattle.eight_ballots.proofs.fine.Goals.{then-not-four_coding+else-not-eight_entries, else-not-four_coding}
use Rattle.eight_ballots.proofs.fine.Goals as goal

pub loop-place-init : goal.loop-place-init
unfolding both
loop-place-init c = refl

pub returns-then-no_ballots : goal.returns-then-no_ballots
returns-then-no_ballots c =
    let eight : length c.args.all ≡ 8 = search rules in
    none-all c.args.n c.args.held c.requires.1.1 c.args.all eight (sym c.no_ballots.ensures ∙ c.if-no_ballots.true)

pub loop-place-preserved : goal.loop-place-preserved
loop-place-preserved c =
    let eight : length c.args.all ≡ 8 = search rules in
    let l = c.loop-place in
    fit_next c.args.n c.args.held c.args.all l.fit l.place l.invariant (omega (arith, c.loop-place-test.true, eight)) _ c.fits-fit.ensures

pub returns-then-not-fit : goal.returns-then-not-fit
returns-then-not-fit c =
    let eight : length c.args.all ≡ 8 = search rules in
    let tests : ballots_fine c.args.n c.args.held c.args.all ≡ both (fit_from c.args.n c.args.held 0 c.args.all) (both (all_b (entry_cells c.args.n) c.args.all) (all_b (rest_fine c.args.n) c.args.all)) = fine-tests-all c.args.n c.args.held c.requires.0 c.requires.1.1 c.args.all eight in
    let l = c.loop-place in
    let fit = fit-done c.args.n c.args.held c.args.all l.fit l.place l.invariant (omega (arith, c.loop-place-test.false, eight)) in
    sym (tests ∙ both-false-0 _ _ (sym fit ∙ c.if-not-fit.true))

pub returns-then-not-eight_entries : goal.returns-then-not-eight_entries
returns-then-not-eight_entries c =
    let eight : length c.args.all ≡ 8 = search rules in
    let tests : ballots_fine c.args.n c.args.held c.args.all ≡ both (fit_from c.args.n c.args.held 0 c.args.all) (both (all_b (entry_cells c.args.n) c.args.all) (all_b (rest_fine c.args.n) c.args.all)) = fine-tests-all c.args.n c.args.held c.requires.0 c.requires.1.1 c.args.all eight in
    sym (tests ∙ both-false-1 _ _ (both-false-0 _ _ (sym c.eight_entries.ensures ∙ c.if-not-eight_entries.true)))

pub four_unused-requires : goal.four_unused-requires
four_unused-requires c =
    let eight : length c.args.all ≡ 8 = search rules in
    let fitting : fit_from c.args.n c.args.held 0 c.args.all ≡ true = let l = c.loop-place in sym (fit-done c.args.n c.args.held c.args.all l.fit l.place l.invariant (omega (arith, c.loop-place-test.false, eight))) ∙ c.if-not-fit.false in
    let few : (k : ℕ) → ltb k 8 ≡ true → (get_or c.args.all k off_end).len ≤ 32 = λ k h. fit-few c.args.n c.args.held 0 c.args.all fitting k (omega (arith, ltb-true k 8 h, eight)) in
    (c.masks-masks.ensures, (few 0 refl, (few 1 refl, (few 2 refl, few 3 refl))))

pub four_unused-requires-2 : goal.four_unused-requires-2
four_unused-requires-2 c =
    let eight : length c.args.all ≡ 8 = search rules in
    let fitting : fit_from c.args.n c.args.held 0 c.args.all ≡ true = let l = c.loop-place in sym (fit-done c.args.n c.args.held c.args.all l.fit l.place l.invariant (omega (arith, c.loop-place-test.false, eight))) ∙ c.if-not-fit.false in
    let few : (k : ℕ) → ltb k 8 ≡ true → (get_or c.args.all k off_end).len ≤ 32 = λ k h. fit-few c.args.n c.args.held 0 c.args.all fitting k (omega (arith, ltb-true k 8 h, eight)) in
    (c.masks-masks.ensures, (few 4 refl, (few 5 refl, (few 6 refl, few 7 refl))))

pub returns-then-not-four_unused : goal.returns-then-not-four_unused
returns-then-not-four_unused c =
    let eight : length c.args.all ≡ 8 = search rules in
    let tests : ballots_fine c.args.n c.args.held c.args.all ≡ both (fit_from c.args.n c.args.held 0 c.args.all) (both (all_b (entry_cells c.args.n) c.args.all) (all_b (rest_fine c.args.n) c.args.all)) = fine-tests-all c.args.n c.args.held c.requires.0 c.requires.1.1 c.args.all eight in
    let fitting : fit_from c.args.n c.args.held 0 c.args.all ≡ true = let l = c.loop-place in sym (fit-done c.args.n c.args.held c.args.all l.fit l.place l.invariant (omega (arith, c.loop-place-test.false, eight))) ∙ c.if-not-fit.false in
    let entries-all : all_b (entry_cells c.args.n) c.args.all ≡ true = let n = c.args.n in
    elim c.if-not-four_coding.branch [
      | then-not-four_coding+else-not-eight_entries w ↦ sym w.eight_entries.ensures ∙ w.if-not-eight_entries.false
      | else-not-four_coding w ↦ all-mono (coding_cells n) (entry_cells n) (coding-cells n) c.args.all
          (sym (eight-tests (coding_cells n) c.args.all eight _ _ c.four_coding.ensures c.four_coding-2.ensures) ∙ w.if-not-four_coding.false)
    ] in
    let rest : both (all_b unused_zero c.args.all) (all_b (fair_tail c.args.n) c.args.all) ≡ ballots_fine c.args.n c.args.held c.args.all = all_both unused_zero (fair_tail c.args.n) c.args.all ∙ sym (tests ∙ both-passed _ _ _ fitting entries-all) in
    let unused : (c.four_unused.result && c.four_unused-2.result) ≡ all_b unused_zero c.args.all = eight-tests unused_zero c.args.all eight _ _ c.four_unused.ensures c.four_unused-2.ensures in
    sym (sym rest ∙ both-false-0 _ _ (sym unused ∙ c.if-not-four_unused.true))

pub eight_fair-requires : goal.eight_fair-requires
unfolding padded_entries
eight_fair-requires c =
    let eight : length c.args.all ≡ 8 = search rules in
    let fitting : fit_from c.args.n c.args.held 0 c.args.all ≡ true = let l = c.loop-place in sym (fit-done c.args.n c.args.held c.args.all l.fit l.place l.invariant (omega (arith, c.loop-place-test.false, eight))) ∙ c.if-not-fit.false in
    let few : (k : ℕ) → ltb k 8 ≡ true → (get_or c.args.all k off_end).len ≤ 32 = λ k h. fit-few c.args.n c.args.held 0 c.args.all fitting k (omega (arith, ltb-true k 8 h, eight)) in
    let entries-all : all_b (entry_cells c.args.n) c.args.all ≡ true = let n = c.args.n in
    elim c.if-not-four_coding.branch [
      | then-not-four_coding+else-not-eight_entries w ↦ sym w.eight_entries.ensures ∙ w.if-not-eight_entries.false
      | else-not-four_coding w ↦ all-mono (coding_cells n) (entry_cells n) (coding-cells n) c.args.all
          (sym (eight-tests (coding_cells n) c.args.all eight _ _ c.four_coding.ensures c.four_coding-2.ensures) ∙ w.if-not-four_coding.false)
    ] in
    let unused : (c.four_unused.result && c.four_unused-2.result) ≡ all_b unused_zero c.args.all = eight-tests unused_zero c.args.all eight _ _ c.four_unused.ensures c.four_unused-2.ensures in (
      c.requires.0,
      (
        c.requires.1.0,
        all_of (padded_entries c.args.n) off_end c.args.all (λ k h.
            both_true _ _ (le-leb _ 32 (few k (lt-ltb k 8 (omega (arith, h, eight)))))
            (both_true _ _ (all-at (entry_cells c.args.n) off_end c.args.all k entries-all h) (all-at unused_zero off_end c.args.all k (sym unused ∙ c.if-not-four_unused.false) h))),
      ),
    )

pub returns : goal.returns
unfolding both
returns c =
    let eight : length c.args.all ≡ 8 = search rules in
    let tests : ballots_fine c.args.n c.args.held c.args.all ≡ both (fit_from c.args.n c.args.held 0 c.args.all) (both (all_b (entry_cells c.args.n) c.args.all) (all_b (rest_fine c.args.n) c.args.all)) = fine-tests-all c.args.n c.args.held c.requires.0 c.requires.1.1 c.args.all eight in
    let fitting : fit_from c.args.n c.args.held 0 c.args.all ≡ true = let l = c.loop-place in sym (fit-done c.args.n c.args.held c.args.all l.fit l.place l.invariant (omega (arith, c.loop-place-test.false, eight))) ∙ c.if-not-fit.false in
    let entries-all : all_b (entry_cells c.args.n) c.args.all ≡ true = let n = c.args.n in
    elim c.if-not-four_coding.branch [
      | then-not-four_coding+else-not-eight_entries w ↦ sym w.eight_entries.ensures ∙ w.if-not-eight_entries.false
      | else-not-four_coding w ↦ all-mono (coding_cells n) (entry_cells n) (coding-cells n) c.args.all
          (sym (eight-tests (coding_cells n) c.args.all eight _ _ c.four_coding.ensures c.four_coding-2.ensures) ∙ w.if-not-four_coding.false)
    ] in
    let rest : both (all_b unused_zero c.args.all) (all_b (fair_tail c.args.n) c.args.all) ≡ ballots_fine c.args.n c.args.held c.args.all = all_both unused_zero (fair_tail c.args.n) c.args.all ∙ sym (tests ∙ both-passed _ _ _ fitting entries-all) in
    let unused : (c.four_unused.result && c.four_unused-2.result) ≡ all_b unused_zero c.args.all = eight-tests unused_zero c.args.all eight _ _ c.four_unused.ensures c.four_unused-2.ensures in
    c.eight_fair.ensures ∙ ap (λ (t : Bool). both t (all_b (fair_tail c.args.n) c.args.all)) (sym (sym unused ∙ c.if-not-four_unused.false)) ∙ rest
