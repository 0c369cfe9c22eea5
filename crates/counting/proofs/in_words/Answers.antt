use native.Mathlib.Omega.{arith}
use Rattle.counting.proofs.Tails.{tail-first, tail-room, tail-next, tail-done}
use Rattle.counting.proofs.in_words.Goals as goal

pub loop-word-init : goal.loop-word-init
loop-word-init c = tail-first c.args.words.now

pub one_more-next-requires : goal.one_more-next-requires
one_more-next-requires c k = let l = c.loop-word in omega (arith, tail-room c.args.words.now l.cells l.word-index l.invariant k, c.requires)

pub loop-word-preserved : goal.loop-word-preserved
loop-word-preserved c =
    let l = c.loop-word in
    let words = c.args.words.now in
    tail-next words l.cells l.word-index l.invariant (omega arith) _ c.one_more-next.ensures

pub returns : goal.returns
returns c = let l = c.loop-word in tail-done c.args.words.now l.cells l.word-index l.invariant (omega arith)
