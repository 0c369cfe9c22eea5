use Prim.Native.Nat.{◌≤◌}
use mathlib.Core.Path.{◌≡◌, ◌∙◌}
use native.Mathlib.Omega.{arith}
use lib.ListN.{length, length-take}
use borrow.Author.Rules.{rules}
use Rattle.ballots.specs.Ballots.{off_end}
use Rattle.protocol.specs.Limits.{length_limit}
use Rattle.writer.proofs.Ballots.{len-within, put-again, put-begins, put-ends, put-room}
use Rattle.writer.proofs.Whole.{message-length, refused, whole-written, written}
use Rattle.writer.proofs.Message.write.Goals as goal

pub returns-then-out-size : goal.returns-then-out-size
returns-then-out-size c = refused _ _ _ c.size-size.ensures c.if-out-size.true

pub put_front-p-requires : goal.put_front-p-requires
unfolding length_limit
put_front-p-requires c =
    let m = c.args.self.now in
    let weights-long : c.args.self.now.n ≤ length c.args.self.now.weights = let e : length c.args.self.now.weights ≡ 8 = search rules in omega (arith, e, c.requires.few-offices) in
    let all = message-length m.sender m.n m.weights m.dropped m.log.now (length m.log.now) m.ballots.now weights-long (omega arith) in
    omega (arith, all, c.size-size.ensures, c.if-out-size.false, c.requires)

pub loop-o-init : goal.loop-o-init
loop-o-init c = put-begins _ _ _ _

pub put_ballot-p-requires : goal.put_ballot-p-requires
put_ballot-p-requires c =
    let m = c.args.self.now in
    let weights-long : c.args.self.now.n ≤ length c.args.self.now.weights = let e : length c.args.self.now.weights ≡ 8 = search rules in omega (arith, e, c.requires.few-offices) in
    let all = message-length m.sender m.n m.weights m.dropped m.log.now (length m.log.now) m.ballots.now weights-long (omega arith) in
    let front = c.put_front-p in (
      len-within m.n m.ballots.now _ off_end c.requires.shapes c.loop-o-test.true,
      (
        omega (arith, c.loop-o-test.true, length-take m.n m.ballots.now, c.requires.few-offices),
        put-room m.n m.ballots.now c.loop-o.invariant off_end c.loop-o-test.true (omega (arith, all, c.size-size.ensures, c.if-out-size.false, front.auto.out, front.ensures.0)),
      ),
    )

pub loop-o-preserved : goal.loop-o-preserved
loop-o-preserved c =
    let m = c.args.self.now in
    put-again m.n m.ballots.now c.loop-o.invariant off_end c.loop-o-test.true c.put_ballot-p.ensures.0 c.put_ballot-p.ensures.1

pub put_end-requires : goal.put_end-requires
put_end-requires c =
    let m = c.args.self.now in
    let weights-long : c.args.self.now.n ≤ length c.args.self.now.weights = let e : length c.args.self.now.weights ≡ 8 = search rules in omega (arith, e, c.requires.few-offices) in
    let all = message-length m.sender m.n m.weights m.dropped m.log.now (length m.log.now) m.ballots.now weights-long (omega arith) in
    let front = c.put_front-p in
    let ends = put-ends m.n m.ballots.now c.loop-o.invariant c.loop-o-test.false in
    omega (arith, all, c.size-size.ensures, c.if-out-size.false, front.auto.out, front.ensures.0, c.loop-o.invariant.long, ends.0)

pub returns : goal.returns
returns c =
    let m = c.args.self.now in
    let weights-long : c.args.self.now.n ≤ length c.args.self.now.weights = let e : length c.args.self.now.weights ≡ 8 = search rules in omega (arith, e, c.requires.few-offices) in
    let front = c.put_front-p in
    let ballots = put-ends m.n m.ballots.now c.loop-o.invariant c.loop-o-test.false in
    let long = c.if-out-size.false in
    let w = written _ c.args.out.now _ c.size-size.ensures (omega (arith, long)) in (
      w.0,
      whole-written m.sender m.n m.weights m.dropped m.log.now (length m.log.now) m.ballots.now weights-long (omega arith)
          c.args.out.now front.new.out _ _ front.result _
          front.ensures.0 front.ensures.1 ballots.0 ballots.1 c.put_end.ensures (omega (arith, c.size-size.ensures, long)) ∙ w.1,
    )
