-- The tail stands in the first cells, with zeros behind it.
use borrow.Author.Tests.{leb-true}
use Rattle.lists.proofs.Tests.{both-0, both-1}
use Rattle.parts.specs.Bytes.{Holding}
use Rattle.eight_ballots.specs.Fours.{all_cells, fair_tail, padded_entries, unused_zero}
use Rattle.eight_ballots.proofs.fair_tail.Goals as goal

pub fair-requires : goal.fair-requires
unfolding padded_entries all_cells unused_zero
fair-requires c =
    let holding : Holding c.args.n c.args.b.len c.args.b.cells = let p = c.requires.1.1 in (leb-true c.args.b.len 32 (both-0 _ _ p), (both-1 _ _ (both-0 _ _ (both-1 _ _ p)), both-1 _ _ (both-1 _ _ p))) in
    (c.requires.0, (c.requires.1.0, holding))

pub returns : goal.returns
unfolding fair_tail
returns c = c.fair.ensures
