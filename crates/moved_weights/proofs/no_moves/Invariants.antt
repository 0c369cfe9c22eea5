-- A walk from the front that joins every word: what was joined so far and what is left answer as all of them do.
use Prim.Native.Nat.{◌/◌, ◌%◌}
use lib.Dec.{eqb}
use Rattle.lists.specs.Tests.{all_b}
use Rattle.lists.proofs.Walk.{AllWith}
use Rattle.moved_weights.specs.NoMove.{no_move}
use Rattle.moved_weights.proofs.no_moves.Given as goal

abbrev pub invariant-loop-word : goal.invariant-loop-word
invariant-loop-word l = AllWith (all_b no_move l.words) no_move l.words (eqb (l.bits / 4194304 % 4) 0) l.word-index
