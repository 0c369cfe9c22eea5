-- What `settle_move` does to a copy.
use borrow.Author.Rules.{rules}
use mathlib.Core.Path.{◌≡◌}
use lib.ListN.{length}
use Rattle.moved_weights.proofs.moved.Goals as goal

pub settle_move-requires : goal.settle_move-requires
settle_move-requires c = let h : length c.args.weights ≡ 8 = search rules in h

pub returns : goal.returns
returns c = c.settle_move.ensures
