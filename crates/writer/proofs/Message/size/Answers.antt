use Prim.Native.Nat.{◌≤◌}
use mathlib.Core.Path.{◌≡◌}
use native.Mathlib.Omega.{arith}
use lib.ListN.{length}
use borrow.Author.Rules.{rules}
use Rattle.ballots.specs.Ballots.{off_end}
use Rattle.writer.proofs.Ballots.{count-again, count-begins, len-within}
use Rattle.writer.proofs.Whole.{counted}
use Rattle.writer.proofs.Message.size.Goals as goal

pub loop-b-init : goal.loop-b-init
loop-b-init c = count-begins _ _ _

pub ballot_size-size-requires : goal.ballot_size-size-requires
ballot_size-size-requires c = let m = c.args.self.now in len-within m.n m.ballots.now _ off_end c.requires.shapes c.loop-b-test.true

pub loop-b-preserved : goal.loop-b-preserved
loop-b-preserved c =
    let m = c.args.self.now in
    count-again _ m.n m.ballots.now _ _ off_end _ c.loop-b.invariant c.loop-b-test.true c.ballot_size-size.ensures.0 c.ballot_size-size.ensures.1

pub returns : goal.returns
returns c =
    let m = c.args.self.now in
    let weights-long : c.args.self.now.n ≤ length c.args.self.now.weights = let e : length c.args.self.now.weights ≡ 8 = search rules in omega (arith, e, c.requires.few-offices) in
    counted m.sender m.n m.weights m.dropped m.log.now _ m.ballots.now weights-long (omega arith) _ _ _ (omega (arith, c.head_size.ensures)) c.loop-b.invariant c.loop-b-test.false
