-- A walk from the front: the count so far with the count of what is left is the whole count, and at most the words passed.
use mathlib.Core.Path.{◌≡◌}
use Prim.Native.Nat.{◌+◌, ◌≤◌}
use lib.ListN.{length, drop}
use Rattle.own_entries.specs.Parts.{entries_of}
use Rattle.pending.proofs.count_of.Given as goal

abbrev pub invariant-loop-word : goal.invariant-loop-word
invariant-loop-word l = (l.count ≤ l.word-index) × (length (entries_of l.office l.words) ≡ l.count + length (entries_of l.office (drop l.word-index l.words)))
