-- By what Found answered at office 0.
use mathlib.Core.Path.{sym}
use native.Mathlib.Omega.{arith}
use lib.Seq.{length-take-le}
use Rattle.rehearsal_offices.proofs.Fresh.{found-refused, found-done}
use Rattle.rehearsal_offices.proofs.founding.found_offices.Goals as goal

pub slice_bounds-found-end : goal.slice_bounds-found-end
slice_bounds-found-end c = sym (length-take-le 1024 c.args.logs.now (omega arith))

pub returns-then-first-ne0 : goal.returns-then-first-ne0
returns-then-first-ne0 c = found-refused _ _ _ _ _ _ c.found-first.ensures c.says_one-answer.ensures c.if-first-ne0.true

pub returns : goal.returns
returns c =
    found-done _ _ _ _ _ _ c.found-first.ensures
    c.says_one-answer.ensures _ c.if-first-ne0.false c.fresh_all.ensures
