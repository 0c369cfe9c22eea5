-- The invariant: the first k records are fresh.
use mathlib.Core.Path.{◌≡◌}
use Prim.Native.Nat.{◌≤◌}
use lib.ListN.{length}
use Rattle.rehearsal_offices.proofs.Fresh.{fresh_to}
use Rattle.rehearsal_offices.proofs.founding.fresh_all.Given as goal

abbrev pub invariant-loop-k : goal.invariant-loop-k
invariant-loop-k l = (l.k ≤ 8) × (length l.initial.record-items ≡ 8) × (l.record-items ≡ fresh_to l.n l.weights l.logs l.initial.record-items l.k)
