-- A walk from the front: the first i ballots are past the words by which the log grew and have had their offers, the others are as they were.
use mathlib.Core.Path.{◌≡◌}
use Prim.Native.Nat.{◌≤◌}
use Rattle.lists.proofs.Fill.{filled}
use Rattle.merging.proofs.Turn.{merged}
use Rattle.merging.proofs.merge.Given as goal

abbrev pub invariant-loop-i : goal.invariant-loop-i
invariant-loop-i l = (l.i ≤ 8) × (l.next ≡ filled (merged l.grown l.between l.initial.next l.offers l.own l.sender) l.initial.next l.i)
