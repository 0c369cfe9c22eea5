-- The two tests say whether there is room.
use native.Mathlib.Omega.{arith}
use lib.ListN.{length}
use Rattle.rehearsal_answers.proofs.Printing.{printed-room, printed-none}
use Rattle.rehearsal_answers.proofs.print.Goals as goal

pub returns-then-out-lt-SIZE : goal.returns-then-out-lt-SIZE
returns-then-out-lt-SIZE c =
    let e = printed-none (length c.args.out.now) c.args.at c.args.answer (omega arith) in
    record { end = rw e (omega arith); output = rw e }

pub returns-then-at-out : goal.returns-then-at-out
returns-then-at-out c =
    let e = printed-none (length c.args.out.now) c.args.at c.args.answer (omega arith) in
    record { end = rw e (omega arith); output = rw e }

pub returns : goal.returns
returns c =
    let e = printed-room (length c.args.out.now) c.args.at c.args.answer (omega arith) in
    record { end = rw e c.put_answer.ensures.end; output = rw e c.put_answer.ensures.output }
