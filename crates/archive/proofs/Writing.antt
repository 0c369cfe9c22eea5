-- Each way out of `write`.
--     start-long, start-few            there are n kept counts, each within the limit of a log
--     countable                        what the walks over a sound record's ballots ask
--     write-unsound                    refused with 1
--     write-short, write_done          refused with 6 or done, by what was written
-- Assumes nothing.
use mathlib.Core.Path.{◌≡◌, ap, ◌∙◌}
use mathlib.Core.Bool.{false}
use mathlib.Core.List.{List, [], ◌∷◌}
use Prim.Native.Nat.{ℕ, zero, suc, ◌≤◌}
use native.Mathlib.Omega.{arith}
use lib.ListN.{length, take}
use lib.Seq.{length-take-le}
use Rattle.std.specs.Prelude.{Option, None, Some}
use Rattle.lists.specs.Tests.{pick}
use Rattle.lists.proofs.Tests.{all-mono}
use Rattle.protocol.specs.Counts.{count_of}
use Rattle.ballots.specs.Ballots.{ballot_fine, ballot_shape}
use Rattle.eight_ballots.proofs.Eight.{shape_of}
use Rattle.writer.specs.Written.{written_bytes, written_length}
use Rattle.writer.proofs.Whole.{answer-fits, answer-short}
use Rattle.vectors.specs.Vectors.{Countable, EachAtMost, kept_count_limit}
use Rattle.frame.specs.State.{held_length}
use Rattle.frame.specs.Soundness.{sound_b, Sound}
use Rattle.frame.specs.declared.Record.{Record}
use Rattle.frame.proofs.Sound.{sound-true}
use Rattle.frame.proofs.State.{log-length, longest, room-for}
use Rattle.archive.specs.Writing.{no_vectors, start_of, vectors_of, write_bytes, write_number, write_of}
use Rattle.archive.specs.declared.Written.{Written}

-- what an answer and the output after it are to be
abbrev pub Writes : Record → List ℕ → List ℕ → Written → List ℕ → Type 0
Writes r words out answer out' = (answer ≡ write_of r words out) × (out' ≡ write_bytes r words out)

pub write-unsound : (r : Record) (words out : List ℕ) → sound_b r words ≡ false → Writes r words out (no_vectors 1) out
unfolding write_of write_bytes write_number pick
write-unsound r words out e = (simp e, simp e)

-- the first counts are no larger than all
take-most : (n : ℕ) (counts : List ℕ) (k : ℕ) → count_of (take n counts) k ≤ count_of counts k
take-most zero counts k = omega arith
take-most (suc n) [] k = omega arith
take-most (suc n) (c ∷ counts) zero = omega arith
take-most (suc n) (c ∷ counts) (suc k) = take-most n counts k

module _ (r : Record) (words : List ℕ) (S : Sound r words) where
  kept-few : EachAtMost kept_count_limit r.kept.counts
  kept-few k = omega (arith, (room-for r words S 0 (omega arith)).within k, S.within, longest r words S)

  pub start-long : length (start_of r) ≡ r.n
  start-long = length-take-le r.n r.kept.counts (omega (arith, S.kept.offices, S.head.most))

  pub start-few : EachAtMost kept_count_limit (start_of r)
  start-few k = omega (arith, take-most r.n r.kept.counts k, kept-few k)

  offices-some : r.n ≤ length r.ballots
  offices-some = omega (arith, S.eight, S.head.most)

  pub countable : Countable r.n r.kept.counts (take (held_length r) words) r.ballots
  countable = record {
    some = S.head.some;
    most = S.head.most;
    offices = offices-some;
    kept = kept-few;
    few = omega (arith, log-length r words S, S.most);
    shapes = all-mono (ballot_fine r.n (held_length r)) ballot_shape (shape_of r.n (held_length r)) r.ballots S.fine;
  }

  -- the answer k of what writes, and the output after it
  module _ (out : List ℕ) {k : Option ℕ} {out' : List ℕ} (answer : k ≡ written_length (vectors_of r words) out) (after : out' ≡ written_bytes (vectors_of r words) out) where
    pub write-short : None ≡ k → Writes r words out (no_vectors 6) out'
    unfolding write_of write_bytes write_number written_bytes pick
    write-short h =
        let s = sound-true r words S in
        let l = answer-short (vectors_of r words) out (h ∙ answer) in
        (simp (s, l), simp (s, l) (after ∙ simp l))

    pub write_done : (length : ℕ) → Some length ≡ k → Writes r words out (record { number = 0; length = length }) out'
    unfolding write_of write_bytes write_number written_bytes pick
    write_done length h =
        let s = sound-true r words S in
        let fits = answer-fits (vectors_of r words) out length (h ∙ answer) in
        let l = fits.0 in
        (simp (s, l) (ap (λ (x : ℕ). record { number = 0; length = x }) fits.1), simp (s, l) (after ∙ simp l))
