use borrow.Author.Rules.{rules}
use native.Mathlib.Omega.{arith}
use mathlib.Core.Path.{◌≡◌, refl, sym, ap, ◌∙◌}
use lib.ListN.{length}
use Rattle.lists.proofs.Fold.{fold_next, fold_done}
use Rattle.protocol.specs.Moves.{move, weights_after}
use Rattle.protocol_laws.proofs.Moves.{move-length}
use Rattle.moved_weights.proofs.Moves.{no-moves-stay}
use Rattle.moved_weights.proofs.weights_after.Goals as goal

pub returns-then-no_moves : goal.returns-then-no_moves
returns-then-no_moves c = let a = c.args in no-moves-stay a.weights a.words.now (sym c.no_moves.ensures ∙ c.if-no_moves.true)

pub loop-word-init : goal.loop-word-init
loop-word-init c = let h : length c.args.weights ≡ 8 = search rules in (h, refl)

pub loop-word-preserved : goal.loop-word-preserved
loop-word-preserved c =
    let l = c.loop-word in
    let a = c.args in
    let e = c.settle_move.ensures in
    (ap length e ∙ move-length l.present _ ∙ l.invariant.0, fold_next move a.weights a.words.now l.present l.word-index l.invariant.1 (search rules) _ e)

pub returns : goal.returns
unfolding weights_after
returns c = let l = c.loop-word in let a = c.args in fold_done move a.weights a.words.now l.present l.word-index l.invariant.1 (omega arith)

pub settle_move-requires : goal.settle_move-requires
settle_move-requires c = c.loop-word.invariant.0
