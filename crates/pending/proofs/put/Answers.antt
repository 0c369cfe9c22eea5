use mathlib.Core.Path.{sym, ap, ◌∙◌}
use native.Mathlib.Omega.{arith}
use lib.ListN.{length}
use lib.Seq.{sets}
use Rattle.pending.proofs.One.{one-is, one-not}
use Rattle.pending.proofs.put.Goals as goal

pub returns-then-is_of : goal.returns-then-is_of
returns-then-is_of c =
    let a = c.args in
    let one = one-is a.office a.word (sym c.is_of.ensures ∙ c.if-is_of.true) in
    (omega (arith, ap length one), sym (ap (sets a.out.now a.at) one))

pub returns : goal.returns
returns c =
    let a = c.args in
    let none = one-not a.office a.word (sym c.is_of.ensures ∙ c.if-is_of.false) in
    (omega (arith, ap length none), sym (ap (sets a.out.now a.at) none))

pub bounds-out-at : goal.bounds-out-at
bounds-out-at c = omega (arith, c.requires, ap length (one-is c.args.office c.args.word (sym c.is_of.ensures ∙ c.if-is_of.true)))
