-- The first i places hold what the cells, or else the kept codes, say of the first i lines.
use Prim.Native.Nat.{◌≤◌}
use lib.ListN.{length}
use Rattle.backward.proofs.Placed.{Placing}
use Rattle.backward.proofs.answers.Given as goal

abbrev pub invariant-loop-i : goal.invariant-loop-i
invariant-loop-i l = (l.i ≤ length l.lines) × Placing l.codes l.cells l.lines l.edits l.i
