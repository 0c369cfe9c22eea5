-- A walk: what is left to test from the position on gives what there was to test at the start.
use Prim.Native.Nat.{◌≤◌}
use mathlib.Core.Path.{◌≡◌}
use Rattle.reading.specs.Read.{log_within}
use Rattle.reading.proofs.Ballots.{left_at}
use Rattle.reading.proofs.log_within.Given as goal

abbrev pub invariant-loop : goal.invariant-loop
invariant-loop l = (l.counter ≤ l.k) × (left_at l.n l.k l.at l.counter l.rest ≡ log_within l.rest l.n l.k)
