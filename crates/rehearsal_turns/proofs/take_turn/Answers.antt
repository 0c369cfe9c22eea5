-- The call's promise and the answer's; the bytes that are lent are the slot's message.
use native.Mathlib.Omega.{arith}
use mathlib.Core.Path.{◌≡◌, ◌∙◌}
use Prim.Native.Nat.{◌+◌, ◌-◌, ◌*◌}
use lib.ListN.{take, drop}
use Rattle.rehearsal_slots.specs.Pieces.{message_in}
use Rattle.rehearsal_turns.proofs.Turning.{taken-turn, taken-words, message-lent}
use Rattle.rehearsal_turns.proofs.take_turn.Goals as goal

pub returns : goal.returns
returns c =
    let a = c.args in
    let from = a.m * 7046 in
    let size = c.min-size.result in
    let lent = from + size - from in
    let s : lent ≡ size = omega arith in
    let e : take lent (drop from a.slots.now) ≡ message_in a.slots.now a.lengths a.m =
    message-lent a.slots.now a.lengths a.m lent c.requires.0 c.requires.1 (s ∙ c.min-size.ensures) in
    let taken = c.take-taken in
    let answer = c.says_one in
    record {
      turn = taken-turn a.record a.lengths a.log.now answer.result a.slots.now a.m lent taken.result e taken.ensures.0 answer.ensures;
      words = taken-words a.record a.lengths a.log.now answer.result a.slots.now a.m lent taken.new.log e taken.ensures.1;
    }
