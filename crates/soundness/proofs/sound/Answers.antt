-- The numbers first, then what is kept, the undropped words, what they have done, the ballots and the lengths; each failing test ends it.
use native.Mathlib.Omega.{arith}
use mathlib.Core.Path.{◌≡◌, sym, ap, ◌∙◌}
use mathlib.Core.Bool.{Bool, true, not, true≢false}
use Prim.Native.Nat.{ℕ, ◌≤◌}
use lib.Dec.{leb}
use lib.ListN.{length, take}
use lib.Seq.{length-take-le}
use borrow.Author.Tests.{leb-true, le-leb, not-false}
use Rattle.lists.specs.Tests.{both, all_b}
use Rattle.lists.proofs.Tests.{both-0, both-1, both_true}
use Rattle.protocol.specs.Limits.{head_fine}
use Rattle.protocol_laws.proofs.Limits.{head, head-true}
use Rattle.ballots.specs.Ballots.{ballot_shape, ballots_fine}
use Rattle.eight_ballots.proofs.Eight.{places-fine}
use Rattle.summary.specs.Summary.{same_summary}
use Rattle.summary.proofs.Laws.{same-summary-eq}
use Rattle.kept.proofs.Facts.{kept-true}
use Rattle.soundness.specs.Noted.{noted_fine}
use Rattle.soundness.specs.Soundness.{held_length, follows, sound_fields}
use Rattle.soundness.proofs.Noted.{noted-true}
use Rattle.soundness.proofs.Facts.{tests, sound-tests, sound-not, follows_of}
use Rattle.soundness.proofs.sound.Goals.{Else-not-fine}
use Rattle.soundness.proofs.sound.Goals as goal

pub returns-then-log-lt-PATH : goal.returns-then-log-lt-PATH
returns-then-log-lt-PATH c = sound-not _ _ _ _ _ _ _ _ _ (λ S. omega (arith, S.room))

pub returns-then-not-numbers_fine : goal.returns-then-not-numbers_fine
returns-then-not-numbers_fine c =
    sound-not _ _ _ _ _ _ _ _ _
    (λ S. true≢false (sym (both_true _ _ (head-true _ _ _ S.head) (both_true _ _ (le-leb _ _ S.within) (noted-true _ _ _ _ S.noted)))
    ∙ sym c.numbers_fine.ensures ∙ c.if-not-numbers_fine.true))

-- ── what has passed ──

parts : (headed noted : Bool) (dropped settled : ℕ) → both headed (both (leb dropped settled) noted) ≡ true → headed ≡ true × dropped ≤ settled × noted ≡ true
parts headed noted dropped settled e = (both-0 _ _ e, leb-true _ _ (both-0 _ _ (both-1 _ _ e)), both-1 _ _ (both-1 _ _ e))

pub overflow_sub-held : goal.overflow_sub-held
overflow_sub-held c = omega (arith, (parts _ _ _ _ (sym c.numbers_fine.ensures ∙ c.if-not-numbers_fine.false)).1)

pub returns-then-held-gt-PATH : goal.returns-then-held-gt-PATH
returns-then-held-gt-PATH c = sound-not _ _ _ _ _ _ _ _ _ (λ S. omega (arith, S.most))

pub returns-then-not-fine : goal.returns-then-not-fine
returns-then-not-fine c = sound-not _ _ _ _ _ _ _ _ _ (λ S. true≢false (sym (kept-true _ _ _ S.kept) ∙ sym c.fine.ensures ∙ c.if-not-fine.true))

module _ (c : Else-not-fine) where
  abbrev held : ℕ
  held = held_length c.args.settled c.args.kept.dropped

  -- the undropped words are there
  there : held ≡ length (take held c.args.log.now)
  there = sym (length-take-le held c.args.log.now (omega arith))

  passed : head_fine c.args.n c.args.own c.args.weights ≡ true
      × c.args.kept.dropped ≤ c.args.settled
      × noted_fine c.args.n c.args.own c.args.settled c.args.noted ≡ true
  passed = parts _ _ _ _ (sym c.numbers_fine.ensures ∙ c.if-not-numbers_fine.false)

  -- the words and the ballots decide
  decided : let a = c.args in
      sound_fields a.n a.own a.weights a.kept a.noted a.summary a.settled a.ballots a.log.now
      ≡ tests a.n a.own a.weights a.kept a.noted a.summary a.settled a.ballots a.log.now
  decided =
      sound-tests _ _ _ _ _ _ _ _ _ (omega arith) passed.0 (sym c.fine.ensures ∙ c.if-not-fine.false) passed.1 passed.2 (omega arith)

pub returns-then-not-all_entries : goal.returns-then-not-all_entries
returns-then-not-all_entries c = sound-not _ _ _ _ _ _ _ _ _ (λ S. true≢false (sym S.entries ∙ sym c.all_entries.ensures ∙ c.if-not-all_entries.true))

pub returns-then-ne : goal.returns-then-ne
unfolding follows
returns-then-ne c =
    let a = c.args in
    let differs = c.ne.ensures ∙ ap not (same-summary-eq a.summary c.after-follows.result ∙ ap (same_summary a.summary) c.after-follows.ensures) in
    sound-not _ _ _ _ _ _ _ _ _ (λ S. true≢false (sym c.if-ne.true ∙ differs ∙ ap not (follows_of _ _ _ _ S.done)))

pub fine-requires-2 : goal.fine-requires-2
fine-requires-2 c = let h = head _ _ _ (passed (goal.at.fine-requires-2 c).Else-not-fine).0 in (h.some, (h.most, omega arith))

pub returns-then-not-fine-2 : goal.returns-then-not-fine-2
returns-then-not-fine-2 c =
    sound-not _ _ _ _ _ _ _ _ _
    (λ S. true≢false (sym (places-fine _ _ _ S.eight ∙ both_true _ _ S.fine S.rest) ∙ sym c.fine-2.ensures ∙ c.if-not-fine-2.true))

pub within-requires : goal.within-requires
unfolding ballots_fine
within-requires c =
    let balloted : ballots_fine c.args.n (held_length c.args.settled c.args.kept.dropped) c.args.ballots ≡ true = sym c.fine-2.ensures ∙ c.if-not-fine-2.false in
    both-0 (all_b ballot_shape _) _ balloted

pub returns : goal.returns
unfolding both follows
returns c =
    let same-is : let a = c.args in follows a.kept.summary a.summary (held_length a.settled a.kept.dropped) a.log.now ≡ true =
    let a = c.args in not-false _ (ap not (sym (same-summary-eq a.summary c.after-follows.result ∙ ap (same_summary a.summary) c.after-follows.ensures)) ∙ sym c.ne.ensures ∙ c.if-ne.false) in
    let balloted : ballots_fine c.args.n (held_length c.args.settled c.args.kept.dropped) c.args.ballots ≡ true = sym c.fine-2.ensures ∙ c.if-not-fine-2.false in
    c.within.ensures ∙ sym (decided (goal.at.returns c).Else-not-fine ∙ rw (sym c.all_entries.ensures ∙ c.if-not-all_entries.false, same-is, balloted))

pub slice_bounds-all_entries-end : goal.slice_bounds-all_entries-end
slice_bounds-all_entries-end c = there (goal.at.slice_bounds-all_entries-end c).Else-not-fine

pub slice_bounds-after-end : goal.slice_bounds-after-end
slice_bounds-after-end c = there (goal.at.slice_bounds-after-end c).Else-not-fine
