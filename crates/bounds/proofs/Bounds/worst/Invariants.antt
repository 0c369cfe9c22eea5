-- A walk that writes each office's weight over zeros.
use Rattle.std.proofs.Common.{◌≡◌, ◌≤◌, take, replicate}
use Rattle.lists.proofs.Fill.{filled}
use Rattle.tallies.specs.Tallies.{votes_in}
use Rattle.bounds.specs.Bounds.{worst}
use Rattle.bounds.proofs.Bounds.worst.Given as goal

abbrev pub invariant-loop-i : goal.invariant-loop-i
invariant-loop-i l = (l.i ≤ l.n) × (l.weights ≡ filled (worst (take l.n l.self.lowest) (take l.n l.self.highest) (votes_in l.votes) l.entry) (replicate 8 0) l.i)
