-- A walk from the front: the first winner among what is left of the votes is the first of all.
use Rattle.std.proofs.Common.{◌≡◌, drop}
use Rattle.protocol.specs.Counts.{quieter_by}
use Rattle.protocol.specs.Vote.{supported, first_winner, winner}
use Rattle.tallies.specs.Tallies.{votes_in}
use Rattle.tallies.proofs.Step.winner.Given as goal

abbrev pub invariant-loop-vote : goal.invariant-loop-vote
invariant-loop-vote l =
    winner l.self.weights (quieter_by l.self.counts) (votes_in l.self.votes)
    ≡ first_winner l.self.weights (quieter_by l.self.counts) (votes_in l.self.votes) (supported (drop l.vote-index l.self.weights) (votes_in (drop l.vote-index l.self.votes)))
