-- How the answer is made: refused with 1, 3 or 13, in this order, or done.
--     earlier-unsound, earlier-no-line, earlier-dropped, earlier-no-place, earlier-many     refused
--     earlier-made                                                                          done
-- Assumes nothing.
use mathlib.Core.Path.{◌≡◌, sym, ap, ◌∙◌}
use mathlib.Core.Bool.{true, false}
use mathlib.Core.List.{List}
use Prim.Native.Nat.{ℕ, ◌-◌, ◌≤◌, ◌<◌}
use native.Mathlib.Omega.{arith}
use lib.Dec.{leb}
use lib.ListN.{length, take}
use lib.Seq.{take-take}
use borrow.Author.Tests.{le-leb, lt-leb}
use Rattle.lists.specs.Tests.{pick}
use Rattle.lists.proofs.Tests.{both_true, both-false-0, both-false-1}
use Rattle.runs.specs.Runs.{of_frame, edits_of, shortest_run}
use Rattle.backward.specs.Cells.{placed, walked_of}
use Rattle.backward.specs.declared.Walked.{Walked}
use Rattle.backward.proofs.Answered.{walked-is}
use Rattle.frame.specs.State.{held_length}
use Rattle.frame.specs.Soundness.{sound_b}
use Rattle.frame.specs.declared.Record.{Record}
use Rattle.earlier.specs.Earlier.{first_of, earlier_done, earlier_refused, readable, earlier_of}
use Rattle.earlier.specs.declared.Earlier.{Earlier}

module _ (r : Record) (words : List ℕ) (p : ℕ) (lines : List ℕ) where
  pub earlier-unsound : sound_b r words ≡ false → earlier_refused 1 ≡ earlier_of r words p lines
  unfolding earlier_of pick
  earlier-unsound e = rw e

  module _ (sound : sound_b r words ≡ true) where
    pub earlier-no-line : of_frame lines ≡ false → earlier_refused 3 ≡ earlier_of r words p lines
    unfolding earlier_of pick
    earlier-no-line e = rw (sound, e)

    module _ (each : of_frame lines ≡ true) where
      refused-13 : readable r p lines ≡ false → earlier_refused 13 ≡ earlier_of r words p lines
      unfolding earlier_of pick
      refused-13 e = rw (sound, each, e)

      pub earlier-dropped : p < r.kept.dropped → earlier_refused 13 ≡ earlier_of r words p lines
      unfolding readable
      earlier-dropped h = refused-13 (both-false-0 _ _ (lt-leb r.kept.dropped p h))

      pub earlier-no-place : r.settled < p → earlier_refused 13 ≡ earlier_of r words p lines
      unfolding readable
      earlier-no-place h = refused-13 (both-false-1 _ _ (both-false-0 (leb p r.settled) (leb (length lines) 64) (lt-leb p r.settled h)))

      pub earlier-many : 64 < length lines → earlier_refused 13 ≡ earlier_of r words p lines
      unfolding readable
      earlier-many h = refused-13 (both-false-1 _ _ (both-false-1 (leb p r.settled) (leb (length lines) 64) (lt-leb (length lines) 64 h)))

      pub earlier-done : readable r p lines ≡ true → earlier_done r words p lines ≡ earlier_of r words p lines
      unfolding earlier_of pick
      earlier-done e = rw (sound, each, e)

      abbrev codes : List ℕ
      codes = r.kept.summary.codes

      pub earlier-made : r.kept.dropped ≤ p → p ≤ r.settled → length lines ≤ 64 → (walked : Walked)
          → walked ≡ walked_of (take (p - r.kept.dropped) words) lines r.kept.summary.codes
          → ◌≡◌ {A = Earlier} (record { number = 0; words = walked.words; edits = walked.edits }) (earlier_of r words p lines)
      unfolding readable
      earlier-made d h few walked e = (λ i. record { number = 0; words = (is i).words; edits = (is i).edits })
          ∙ earlier-done (both_true _ _ (le-leb r.kept.dropped p d) (both_true (leb p r.settled) (leb (length lines) 64) (le-leb p r.settled h) (le-leb (length lines) 64 few)))
        where
          first : take (p - r.kept.dropped) words ≡ first_of r words p
          first = sym (take-take (p - r.kept.dropped) (held_length r) words (omega arith))

          is : walked ≡ record { words = shortest_run lines (first_of r words p); edits = placed (edits_of lines codes (first_of r words p)) }
          is = e ∙ ap (λ (l : List ℕ). walked_of l lines codes) first ∙ walked-is lines (first_of r words p) codes
