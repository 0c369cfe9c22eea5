-- A walk from the front: the sum so far with what is left of the votes gives the weight.
use Rattle.std.proofs.Common.{◌≡◌, ◌+◌, ◌*◌, ◌≤◌, length, drop}
use Rattle.tallies.specs.Tallies.{votes_in, weight_for}
use Rattle.tallies.proofs.weight_for.Given as goal

abbrev pub invariant-loop-cast : goal.invariant-loop-cast
invariant-loop-cast l =
    (l.sum ≤ length l.yielded * 65535) ×
    (weight_for l.weights (votes_in l.votes) l.vote ≡ l.sum + weight_for (drop (length l.yielded) l.weights) (votes_in (drop (length l.yielded) l.votes)) l.vote)
