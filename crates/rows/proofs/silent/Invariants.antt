-- A walk that writes each office's mark over zeros.
use Rattle.std.proofs.Common.{◌≡◌, ◌≤◌, replicate}
use Rattle.lists.proofs.Fill.{filled}
use Rattle.tallies.specs.Tallies.{votes_in}
use Rattle.rows.specs.Rows.{marks}
use Rattle.rows.proofs.silent.Given as goal

abbrev pub invariant-loop-i : goal.invariant-loop-i
invariant-loop-i l = (l.i ≤ l.n) × (l.cells ≡ filled (marks l.n (votes_in l.votes)) (replicate 8 0) l.i)
