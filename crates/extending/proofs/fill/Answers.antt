use Rattle.std.proofs.Common.{◌∙◌, sym, ap, arith, rules}
use lib.ListN.{length-set}
use Rattle.spelling.specs.Reading.{record_at}
use Rattle.records.proofs.Entries.{entry-here}
use Rattle.records.specs.declared.LogStep.{LogStep}
use Rattle.std.proofs.lemmas.Option.{same_Some}
use Rattle.numbers.proofs.Runs.{run_at-length}
use Rattle.numbers.proofs.Steps.{fill_end}
use Rattle.extending.proofs.Logs.{fill-turn, sets-all}
use Rattle.extending.proofs.fill.Goals as goal

pub unwrap-step-requires : goal.unwrap-step-requires
unwrap-step-requires c =
    let e = rw (c.new.ensures.0, c.new.ensures.1) at c.entry.ensures in
    rw (e, entry-here c.loop-word.at c.args.rest.now (omega arith)) (search rules)

pub loop-word-preserved : goal.loop-word-preserved
loop-word-preserved c =
    let l = c.loop-word in
    let a = c.args in
    let e = rw (c.new.ensures.0, c.new.ensures.1) at c.entry.ensures in
    let step = same_Some _ _ (sym c.unwrap-step.ensures ∙ e ∙ entry-here l.at a.rest.now (omega arith)) in
    let value = ap (λ (x : LogStep). x.value) step in
    let next = ap (λ (x : LogStep). x.next) step in
    (omega (arith, next), simp length-set l.invariant.1, fill-turn l.part _ _ l.at a.rest.now _ _ c.loop-word-test.true value next ∙ l.invariant.2)

pub returns : goal.returns
returns c = sym (fill_end 6 record_at _ _ _ _ c.loop-word-test.false) ∙ c.loop-word.invariant.2 ∙ sets-all _ _ (run_at-length 6 record_at _ _)
