-- The invariant: what is left to store from the position on gives all that is to be stored.
use Prim.Native.Nat.{◌-◌, ◌+◌, ◌*◌}
use mathlib.Core.Path.{◌≡◌}
use lib.ListN.{length, drop}
use lib.Seq.{sets}
use Rattle.numbers.specs.Numbers.{run_at}
use Rattle.spelling.specs.Reading.{record_at}
use Rattle.extending.proofs.fill.Given as goal

abbrev pub invariant-loop-word : goal.invariant-loop-word
invariant-loop-word l = (l.at ≡ l.from + 6 * l.word-index)
    × (length l.part ≡ length l.initial.part)
    × (sets l.part l.word-index (run_at 6 record_at (length l.initial.part - l.word-index) (drop l.at l.rest)) ≡ sets l.initial.part 0 (run_at 6 record_at (length l.initial.part) (drop l.from l.rest)))
