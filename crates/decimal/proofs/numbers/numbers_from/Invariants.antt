-- The invariant: the numbers so far with those of the fields that are left are the numbers of all the fields.
use mathlib.Core.Path.{◌≡◌}
use Prim.Native.Nat.{◌≤◌}
use lib.ListN.{length, drop}
use Rattle.decimal.specs.Numbers.{fields, numbers_after, numbers_from}
use Rattle.decimal.proofs.numbers.numbers_from.Given as goal

abbrev pub invariant-loop-field : goal.invariant-loop-field
invariant-loop-field l = (l.count ≤ 8) × (numbers_after l.count l.cells (drop (length l.yielded) (fields (drop l.start l.bytes))) ≡ numbers_from l.bytes l.start)
