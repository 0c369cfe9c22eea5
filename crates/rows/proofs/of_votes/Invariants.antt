-- A walk over the votes: the rows so far, and those that what is left of the votes adds to them.
use Rattle.rows.proofs.Walks.{SoFar}
use Rattle.rows.proofs.of_votes.Given as goal

abbrev pub invariant-loop-vote : goal.invariant-loop-vote
invariant-loop-vote l = SoFar l.weights l.votes l.rows l.vote-index
