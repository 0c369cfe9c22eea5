-- The words from place k on, up to the held length, moved to the front: what stands then in the log.
--     moved-down      the front is that part of the words, and the others still stand
-- Assumes nothing.
use mathlib.Core.Path.{◌≡◌, sym, ap₂, ◌∙◌}
use mathlib.Core.List.{List, ◌++◌}
use Prim.Native.Nat.{ℕ, ◌+◌, ◌-◌, ◌≤◌}
use native.Mathlib.Omega.{arith}
use lib.ListN.{length, take, drop, length-drop, take-append-drop}
use lib.Seq.{length-take-le}
use Rattle.std.specs.List.{copy_within}
use Rattle.std.proofs.lemmas.List.Edits.{take-paste, drop-paste}
use Rattle.lists.proofs.Walk.{take-from}
use Rattle.ballots.specs.Ballots.{words_with}

pub moved-down : (words : List ℕ) (held k : ℕ) → k ≤ held → held ≤ length words → copy_within words k held 0 ≡ words_with (drop k (take held words)) words
moved-down words held k less there =
    sym (take-append-drop (0 + (held - k)) (copy_within words k held 0))
    ∙ ap₂ ◌++◌ (take-paste words 0 (drop k words) (held - k) (omega arith) short) (drop-paste words 0 (drop k words) (held - k) (omega arith) short)
    ∙ ap₂ (λ (l : List ℕ) (j : ℕ). l ++ drop j words) (take-from k held words) long
  where
    short : held - k ≤ length (drop k words)
    short = omega (arith, length-drop k words)

    long : 0 + (held - k) ≡ length (drop k (take held words))
    long = omega (arith, length-drop k (take held words), length-take-le held words there)
