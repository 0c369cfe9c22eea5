use native.Mathlib.Omega.{arith}
use mathlib.Core.Path.{sym, ◌∙◌}
use Rattle.decimal.proofs.Walks.{digits_step, digits-end}
use Rattle.decimal.proofs.number.digits_of.Goals as goal

pub returns-in_default : goal.returns-in_default
returns-in_default c =
    let l = c.loop-byte in
    let a = c.args in
    sym (sym l.invariant ∙ digits_step a.most l.so_far a.field.now l.byte-index (omega arith) ∙ rw (sym c.in_default.ensures))

pub loop-byte-preserved : goal.loop-byte-preserved
loop-byte-preserved c =
    let l = c.loop-byte in
    let a = c.args in
    sym (sym l.invariant ∙ digits_step a.most l.so_far a.field.now l.byte-index (omega arith) ∙ rw (sym c.in-Some.ensures))

pub returns : goal.returns
returns c =
    let l = c.loop-byte in
    let a = c.args in
    sym (sym l.invariant ∙ digits-end a.most l.so_far a.field.now l.byte-index (omega arith))
