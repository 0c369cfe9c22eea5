-- What a report answers, by the tests that it makes.
--     report-unsound, report-stray     refused with 1
--     report-made                      as it is told of the own tail
--     was-fine, is-fine                the own ballots of both records are within their limits
--     begins, fits                     the place of the tail in the log that is held
-- Assumes nothing.
use mathlib.Core.Path.{◌≡◌, sym, ap, ◌∙◌}
use mathlib.Core.Bool.{true, false}
use mathlib.Core.List.{List, ◌++◌}
use Prim.Native.Nat.{ℕ, ◌-◌, ◌<◌, ◌≤◌}
use native.Mathlib.Omega.{arith}
use lib.ListN.{length, get_or, take, drop, length-map}
use lib.Seq.{drop-append-le}
use borrow.Author.Tests.{eqb-true}
use Rattle.lists.specs.Tests.{pick}
use Rattle.lists.proofs.Tests.{both-0, both-1, both_true, both-false-0, both-false-1, all-at}
use Rattle.lists.proofs.Walk.{take-from}
use Rattle.protocol.specs.Office.{tail}
use Rattle.protocol.specs.Limits.{tails_fine}
use Rattle.ballots.specs.Ballots.{tail_of, ballot_fine, ballots_fine, off_end}
use Rattle.ballots.proofs.Laws as B
use Rattle.eight_ballots.proofs.Eight.{places-fine}
use Rattle.own_entries.specs.Told.{Telling, told_of, told_words, told_refused}
use Rattle.frame.specs.State.{held_length, held_by, own_ballot}
use Rattle.frame.specs.Soundness.{sound_b, Sound}
use Rattle.frame.specs.declared.Record.{Record}
use Rattle.frame.proofs.Sound.{sound-true}
use Rattle.frame.proofs.State.{tail_at, log-length, ballot}
use Rattle.outcome.specs.Outcome.{tail_before, place_in, log_since, path_since, follows, reportable, outcome_is, report_of, report_words}
use Rattle.outcome.specs.declared.Outcome.{Outcome}
use Rattle.outcome.proofs.Facts.{Follows, follows-true}

-- what an answer and the buffer after it are to be
abbrev pub Reports : Record → Record → List ℕ → List ℕ → Outcome → List ℕ → Type 0
Reports before after words rest answer rest' = (answer ≡ report_of before after words rest) × (rest' ≡ report_words before after words rest)

module _ (before after : Record) (words : List ℕ) where
  pub report-refused : reportable before after words ≡ false → (rest : List ℕ) → Reports before after words rest (outcome_is (told_refused 1)) rest
  unfolding report_of report_words pick
  report-refused e rest = (simp e, simp e)

  pub report-unsound : sound_b after words ≡ false → (rest : List ℕ) → Reports before after words rest (outcome_is (told_refused 1)) rest
  unfolding reportable
  report-unsound e = report-refused (both-false-0 _ _ e)

  pub report-stray : false ≡ follows before after → (rest : List ℕ) → Reports before after words rest (outcome_is (told_refused 1)) rest
  unfolding reportable
  report-stray e = report-refused (both-false-1 _ _ (sym e))

  module _ (S : Sound after words) (F : Follows before after) where
    pub can-report : reportable before after words ≡ true
    unfolding reportable
    can-report = both_true _ _ (sound-true after words S) (follows-true before after F)

    pub member : before.own < 8
    member = omega (arith, F.own, S.head.member, S.head.most)

    eight : length before.ballots ≡ 8
    unfolding ballots_fine tails_fine
    eight = sym (length-map before.ballots tail_of) ∙ eqb-true _ 8 (both-0 _ _ (both-1 _ _ F.fine))

    pub was-fine : B.Fine before.n (held_length before) (own_ballot before)
    was-fine =
        let each = both-0 _ _ (sym (places-fine before.n (held_length before) before.ballots eight) ∙ F.fine) in
        B.fine _ _ _ (all-at (ballot_fine before.n (held_length before)) off_end before.ballots before.own each (omega (arith, eight, member)))

    pub is-fine : B.Fine after.n (held_length after) (get_or after.ballots before.own off_end)
    is-fine = ballot after words S before.own member

    -- the tail begins within the held log, which the buffer has
    pub begins : place_in before after ≤ held_length after
    begins = omega (arith, F.longer)

    pub fits : held_length after ≤ length words
    fits = omega (arith, S.room, S.most)

    -- the log and the path from there on, as the code cuts them
    log-part : take (held_length after - place_in before after) (drop (place_in before after) words) ≡ log_since before after words
    log-part = take-from (place_in before after) (held_length after) words

    path-part : log_since before after words ++ tail_of (get_or after.ballots before.own off_end) ≡ path_since before after words
    path-part =
        ap (λ (t : List ℕ). log_since before after words ++ t) (sym (tail_at after words before.own))
        ∙ sym (drop-append-le (place_in before after) (held_by after words).log (tail (held_by after words) before.own) (omega (arith, begins, log-length after words S)))

    pub report-made : (rest : List ℕ) (told : Telling)
        → let l = take (held_length after - place_in before after) (drop (place_in before after) words) in
        told ≡ told_of before.own (tail_before before) l (l ++ tail_of (get_or after.ballots before.own off_end)) rest
        → (rest' : List ℕ) → rest' ≡ told_words before.own (tail_before before) l rest → Reports before after words rest (outcome_is told) rest'
    unfolding report_of report_words pick
    report-made rest told e rest' w = (
      simp can-report (ap outcome_is (e ∙ λ i. told_of before.own (tail_before before) (log-part i) (whole i) rest)),
      simp can-report (w ∙ ap (λ (l : List ℕ). told_words before.own (tail_before before) l rest) log-part),
    )
      where
        whole : take (held_length after - place_in before after) (drop (place_in before after) words) ++ tail_of (get_or after.ballots before.own off_end) ≡ path_since before after words
        whole = ap (λ (l : List ℕ). l ++ tail_of (get_or after.ballots before.own off_end)) log-part ∙ path-part
