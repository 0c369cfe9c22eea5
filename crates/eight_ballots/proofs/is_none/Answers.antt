-- The tests of the definition; the array has 32 cells by its type.
use mathlib.Core.Path.{◌≡◌}
use lib.ListN.{length}
use borrow.Author.Tests.{eq-eqb}
use borrow.Author.Rules.{rules}
use Rattle.lists.specs.Tests.{both}
use Rattle.lists.proofs.Walk.{and_both}
use Rattle.ballots.specs.Ballots.{empty_ballot}
use Rattle.eight_ballots.proofs.is_none.Goals as goal

pub returns : goal.returns
unfolding empty_ballot both
returns c =
    let full : length c.args.b.cells ≡ 32 = search rules in
    rw (and_both, c.zero_cells.ensures, eq-eqb _ 32 full)
