-- A walk from the front: the first among what is left of the votes is the first of all.
use Rattle.std.proofs.Common.{◌≡◌, take, drop}
use Rattle.protocol.specs.Counts.{quieter_by}
use Rattle.protocol.specs.Vote.{supported, first_that}
use Rattle.tallies.specs.Tallies.{votes_in}
use Rattle.bounds.specs.Bounds.{wins_worst, sure_winner}
use Rattle.bounds.proofs.Bounds.sure_winner.Given as goal

abbrev pub invariant-loop-vote : goal.invariant-loop-vote
invariant-loop-vote l =
    sure_winner (take l.n l.self.lowest) (take l.n l.self.highest) (quieter_by l.counts) (votes_in l.votes)
    ≡ first_that (wins_worst (take l.n l.self.lowest) (take l.n l.self.highest) (quieter_by l.counts) (votes_in l.votes)) (supported (drop l.vote-index (take l.n l.self.lowest)) (votes_in (drop l.vote-index l.votes)))
