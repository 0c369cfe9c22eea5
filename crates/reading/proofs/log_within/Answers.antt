use mathlib.Core.Path.{sym, ◌∙◌}
use borrow.Author.Rules.{rules}
use native.Mathlib.Omega.{arith}
use Rattle.reading.proofs.Ballots.{log-begins, log-ends, log-fails, log-refused, log-turn}
use Rattle.reading.proofs.log_within.Goals as goal

pub loop-init : goal.loop-init
loop-init c = (search rules, log-begins _ _ _)

pub returns-in_default : goal.returns-in_default
returns-in_default c =
    let at-record = rw (c.new.ensures.0, c.new.ensures.1) at c.in_default.ensures in log-fails _ _ _ _ _ c.loop-test.true at-record ∙ c.loop.invariant.1

pub returns-then-not-is_entry : goal.returns-then-not-is_entry
returns-then-not-is_entry c =
    let at-record = rw (c.new.ensures.0, c.new.ensures.1) at c.in-Some.ensures in
    log-refused _ _ _ _ _ _ c.loop-test.true at-record (sym c.is_entry.ensures ∙ c.if-not-is_entry.true) ∙ c.loop.invariant.1

pub loop-preserved : goal.loop-preserved
loop-preserved c =
    let at-record = rw (c.new.ensures.0, c.new.ensures.1) at c.in-Some.ensures in
    (omega arith, log-turn _ _ _ _ _ _ c.loop-test.true at-record (sym c.is_entry.ensures ∙ c.if-not-is_entry.false) ∙ c.loop.invariant.1)

pub returns : goal.returns
returns c = log-ends _ _ c.loop.at _ _ c.loop-test.false ∙ c.loop.invariant.1
