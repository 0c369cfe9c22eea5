-- Nothing to walk, or a walk that stores what each word says of its line there, over 256 cells.
use Rattle.lists.proofs.Fold.{FoldedUpTo}
use Rattle.protocol.specs.Codes.{coded}
use Rattle.settled_codes.proofs.codes_after.Given as goal

abbrev pub invariant-loop-word : goal.invariant-loop-word
invariant-loop-word l = FoldedUpTo coded l.initial.wide l.words l.wide l.word-index
