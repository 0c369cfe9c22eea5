-- A walk from the front: the entry beats all supported ones as it beats what is left of the first n votes.
use Rattle.protocol.specs.Counts.{quieter_by}
use Rattle.protocol.specs.Vote.{beats_all, supported}
use Rattle.lists.proofs.Walk.{AllRest}
use Rattle.tallies.specs.Tallies.{votes_in, beats_vote}
use Rattle.tallies.proofs.Step.wins.Given as goal

abbrev pub invariant-loop-vote : goal.invariant-loop-vote
invariant-loop-vote l =
    AllRest (beats_all l.self.weights (quieter_by l.self.counts) (votes_in l.self.votes) l.entry (supported l.self.weights (votes_in l.self.votes)))
    (beats_vote (quieter_by l.self.counts) l.self.weights (votes_in l.self.votes) l.entry) l.vote-items l.vote-index
