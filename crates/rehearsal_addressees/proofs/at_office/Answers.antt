-- The tests that led to each return are those by which the definition picks.
use borrow.Author.Tests.{lt-ltb, le-ltb}
use Rattle.lists.specs.Tests.{pick}
use Rattle.rehearsal_addressees.specs.Addressees.{at_office}
use Rattle.rehearsal_addressees.proofs.at_office.Goals as goal
use Rattle.rehearsal_addressees.proofs.at_office.Goals.{else-k-count-via-then-k-count+else-k-lt-OFFICES, else-k-count-via-else-k-count}

pub returns-then-k-lt-OFFICES : goal.returns-then-k-lt-OFFICES
unfolding at_office pick
returns-then-k-lt-OFFICES c = let a = c.args in rw (lt-ltb a.k a.count c.if-k-count.true, lt-ltb a.k 8 c.if-k-lt-OFFICES.true)

pub returns : goal.returns
unfolding at_office pick
returns c =
    let a = c.args in
    elim c.else-k-count.branch [
      | else-k-count-via-then-k-count+else-k-lt-OFFICES w ↦ rw (lt-ltb a.k a.count w.if-k-count.true, le-ltb a.k 8 w.if-k-lt-OFFICES.false)
      | else-k-count-via-else-k-count w ↦ rw (le-ltb a.k a.count w.if-k-count.false)
    ]
