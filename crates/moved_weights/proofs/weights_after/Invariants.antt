-- A log without moves leaves the weights. Otherwise a walk from the front.
use mathlib.Core.Path.{◌≡◌}
use lib.ListN.{length}
use Rattle.lists.proofs.Fold.{FoldedUpTo}
use Rattle.protocol.specs.Moves.{move}
use Rattle.moved_weights.proofs.weights_after.Given as goal

abbrev pub invariant-loop-word : goal.invariant-loop-word
invariant-loop-word l = (length l.present ≡ 8) × FoldedUpTo move l.initial.present l.words l.present l.word-index
