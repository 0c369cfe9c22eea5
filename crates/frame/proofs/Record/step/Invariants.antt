-- By the votes of the ballots, which one walk up to place n gathers, nobody wins and nothing changes, or the winner is written behind the settled log,
-- where there is room, and another walk makes of every ballot what the winner leaves of it.
use mathlib.Core.Path.{◌≡◌}
use Prim.Native.Nat.{◌≤◌}
use Rattle.elections.proofs.Steps.{Gathered, Settling}
use Rattle.frame.specs.State.{with_ballots}
use Rattle.frame.proofs.Record.step.Given as goal

abbrev pub invariant-loop-i : goal.invariant-loop-i
invariant-loop-i l = (l.i ≤ l.n) × Gathered l.fn.self.ballots l.votes l.i

abbrev pub invariant-loop-i-2 : goal.invariant-loop-i-2
invariant-loop-i-2 l = (l.i ≤ l.n) × (l.office ≡ with_ballots l.initial.office l.office.ballots) × Settling l.entry l.initial.office.ballots l.office.ballots l.i
