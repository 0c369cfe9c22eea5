-- The call's promise and the answer's.
use native.Mathlib.Omega.{arith}
use Rattle.rehearsal_turns.proofs.Turning.{sent-turn, sent-slots}
use mathlib.Core.Path.{◌≡◌}
use Prim.Native.Nat.{◌+◌, ◌-◌, ◌*◌}
use Rattle.rehearsal_turns.proofs.send_turn.Goals as goal

pub returns : goal.returns
returns c =
    let a = c.args in
    let from = a.m * 7046 in
    let size = from + 7046 - from in
    let w : size ≡ 7046 = omega arith in
    let sent = c.send-sent in
    let next = c.sent_lengths in
    let answer = c.says_two in
    record {
      turn = sent-turn a.record a.lengths a.log.now answer.result a.slots.now a.m size w next.result sent.result sent.ensures.0 next.ensures answer.ensures;
      sent = sent-slots a.record a.lengths a.log.now answer.result a.slots.now a.m size w sent.new.out sent.ensures.1;
    }
