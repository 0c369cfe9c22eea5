-- A full ballot comes back as it was; otherwise the cell behind the tail is written and the length rises by one.
use borrow.Author.Tests.{le-ltb, lt-ltb}
use Rattle.lists.specs.Tests.{pick}
use Rattle.ballots.specs.Ballots.{pushed}
use Rattle.ballots.proofs.Ballot.push.Goals as goal

pub returns-then-self-ge-CELLS : goal.returns-then-self-ge-CELLS
unfolding pushed pick
returns-then-self-ge-CELLS c = simp (le-ltb _ _ c.if-self-ge-CELLS.true)

pub returns : goal.returns
unfolding pushed pick
returns c = simp (lt-ltb _ _ c.if-self-ge-CELLS.false)
