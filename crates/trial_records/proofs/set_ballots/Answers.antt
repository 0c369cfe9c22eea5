-- The test of the letter is that by which the definition picks.
use borrow.Author.Tests.{eq-eqb, ne_eqb}
use Rattle.lists.specs.Tests.{pick}
use Rattle.trial_records.specs.Setting.{letter_b, set_ballots}
use Rattle.trial_records.proofs.set_ballots.Goals.{then-line-eq98, else-line-eq98}
use Rattle.trial_records.proofs.set_ballots.Goals as goal

pub returns : goal.returns
unfolding set_ballots pick
returns c =
    elim c.if-line-eq98.branch [
      | then-line-eq98 w ↦ rw (eq-eqb _ letter_b w.if-line-eq98.true, w.ballots-is)
      | else-line-eq98 w ↦ rw (ne_eqb _ letter_b w.if-line-eq98.false, w.ballots-is, w.with_cells.ensures)
    ]
