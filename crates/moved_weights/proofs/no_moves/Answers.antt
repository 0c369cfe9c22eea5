use borrow.Author.Rules.{rules}
use native.Mathlib.Omega.{arith}
use mathlib.Core.Path.{refl}
use Rattle.lists.specs.Tests.{both}
use Rattle.lists.proofs.Walk.{with-done}
use Rattle.moved_weights.specs.NoMove.{no_move}
use Rattle.moved_weights.proofs.Moves.{moves_next}
use Rattle.moved_weights.proofs.no_moves.Goals as goal

pub loop-word-init : goal.loop-word-init
unfolding both
loop-word-init c = refl

pub loop-word-preserved : goal.loop-word-preserved
loop-word-preserved c = let l = c.loop-word in moves_next c.args.words.now l.bits l.word-index (search rules) l.invariant

pub returns : goal.returns
returns c = let l = c.loop-word in with-done no_move 0 c.args.words.now _ l.word-index l.invariant (omega arith)
