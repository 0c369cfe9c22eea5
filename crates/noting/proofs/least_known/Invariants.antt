-- A walk from the front: what is known of the offices so far.
use mathlib.Core.Path.{◌≡◌}
use Prim.Native.Nat.{◌≤◌}
use Rattle.protocol.specs.Folding.{least_known}
use Rattle.noting.proofs.least_known.Given as goal

abbrev pub invariant-loop-j : goal.invariant-loop-j
invariant-loop-j l = (l.j ≤ l.n) × (l.least ≡ least_known l.own l.settled l.fn.noted l.j)
