-- In order: no place is left; one digit is written; the digits before the last, and the last digit behind them.
use native.Mathlib.Nat.{add-zero}
use native.Mathlib.Omega.{arith}
use Rattle.printing.proofs.Digits.{digits-none, digits-one, decimal-short, put_last}
use Prim.Native.Nat.{◌-◌, ◌/◌}
use Rattle.printing.proofs.+put_digits.Goals as goal

pub returns-then-places-eq0 : goal.returns-then-places-eq0
returns-then-places-eq0 t c = let e = digits-none c.args.places c.args.n c.if-places-eq0.true in record { end = rw (e, add-zero); output = rw e }

pub returns-then-n-lt10 : goal.returns-then-n-lt10
returns-then-n-lt10 t c =
    let e = digits-one c.args.places c.args.n (omega arith) c.if-n-lt10.true in
    record { end = rw e; output = rw (e, c.glyph_of.ensures) }

pub bounds-out-next : goal.bounds-out-next
bounds-out-next t c =
    let put = c.put_digits-next in
    omega (arith, put.ensures.end, put.auto.out, decimal-short (c.args.places - 1) (c.args.n / 10), c.requires)

pub overflow_add-result-2 : goal.overflow_add-result-2
overflow_add-result-2 t c = omega (arith, c.put_digits-next.ensures.end, decimal-short (c.args.places - 1) (c.args.n / 10), c.requires, c.well_formed.0.0)

pub returns : goal.returns
returns t c =
    let put = c.put_digits-next in
    put_last c.args.out.now put.new.out c.args.at put.result c.glyph_of-2.result c.args.places c.args.n (omega arith) (omega arith)
    put.ensures.end put.ensures.output c.glyph_of-2.ensures
