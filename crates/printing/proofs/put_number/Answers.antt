-- With room for 20 digits all are written, and without none.
use native.Mathlib.Nat.{add-zero}
use native.Mathlib.Omega.{arith}
use Rattle.printing.proofs.Digits.{printed-all, printed-none}
use Rattle.printing.proofs.put_number.Goals as goal

pub returns-then-at-out : goal.returns-then-at-out
returns-then-at-out c = let a = c.args in let e = printed-none a.out.now a.at a.n (omega arith) in record { end = rw (e, add-zero); output = rw e }

pub returns-then-out-at-lt-PLACES : goal.returns-then-out-at-lt-PLACES
returns-then-out-at-lt-PLACES c = let a = c.args in let e = printed-none a.out.now a.at a.n (omega arith) in record { end = rw (e, add-zero); output = rw e }

pub returns : goal.returns
returns c =
    let e = printed-all c.args.out.now c.args.at c.args.n (omega arith) in
    record { end = rw e c.put_digits.ensures.end; output = rw e c.put_digits.ensures.output }
