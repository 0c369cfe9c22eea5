-- Each way out of `compare`: refused with 1, refused with 14, done. Assumes nothing.
use mathlib.Core.Path.{◌≡◌, ap, ◌∙◌}
use mathlib.Core.Bool.{true, false}
use mathlib.Core.List.{List}
use Prim.Native.Nat.{ℕ}
use Rattle.lists.specs.Tests.{pick}
use Rattle.versions.specs.Versions.{answers_to, counts_in, is_vector, nine}
use lib.ListN.{take}
use Rattle.ballots.specs.declared.Ballot.{Ballot}
use Rattle.vectors.specs.Vectors.{versions_in}
use Rattle.frame.specs.State.{held_length}
use Rattle.frame.specs.Soundness.{sound_b}
use Rattle.frame.specs.declared.Record.{Record}
use Rattle.archive.specs.Writing.{start_of, versions}
use Rattle.archive.specs.Comparison.{compare_number, compare_of, no_answers}
use Rattle.archive.specs.declared.Compared.{Compared}

module _ (r : Record) (words s : List ℕ) where
  -- of what the versions are made
  pub same-versions : (n : ℕ) (start log : List ℕ) (ballots : List Ballot) → n ≡ r.n → start ≡ r.kept.counts → log ≡ take (held_length r) words → ballots ≡ r.ballots
      → answers_to (take n start) (counts_in n s) (versions_in n log ballots) ≡ answers_to (start_of r) (counts_in r.n s) (versions r words)
  same-versions n start log ballots a b c d =
      ap (λ (m : ℕ). answers_to (take m start) (counts_in m s) (versions_in m log ballots)) a
      ∙ ap (λ (x : List ℕ). answers_to (take r.n x) (counts_in r.n s) (versions_in r.n log ballots)) b
      ∙ ap (λ (x : List ℕ). answers_to (start_of r) (counts_in r.n s) (versions_in r.n x ballots)) c
      ∙ ap (λ (x : List Ballot). answers_to (start_of r) (counts_in r.n s) (versions_in r.n (take (held_length r) words) x)) d

  pub compare-unsound : sound_b r words ≡ false → no_answers 1 ≡ compare_of r words s
  unfolding compare_of compare_number pick
  compare-unsound e = rw e

  module _ (sound : sound_b r words ≡ true) where
    pub compare-no-vector : is_vector r.n s ≡ false → no_answers 14 ≡ compare_of r words s
    unfolding compare_of compare_number pick
    compare-no-vector e = rw (sound, e)

    pub compare-done : is_vector r.n s ≡ true → {answers : List ℕ} → answers ≡ nine (answers_to (start_of r) (counts_in r.n s) (versions r words))
        → ◌≡◌ {A = Compared} (record { number = 0; answers = answers }) (compare_of r words s)
    unfolding compare_of compare_number pick
    compare-done e q = rw (sound, e) (ap (λ (l : List ℕ). record { number = 0; answers = l }) q)
