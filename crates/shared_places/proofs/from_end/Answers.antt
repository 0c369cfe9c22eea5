use Rattle.std.proofs.Common.{◌≡◌, ◌∙◌, sym, ap, suc, ◌-◌, ◌*◌, arith, rules, get_or}
use Rattle.std.proofs.lemmas.Option.{same_Some}
use Rattle.numbers.specs.Numbers.{run_at}
use Rattle.spelling.specs.Reading.{record_at}
use Rattle.records.specs.declared.LogStep.{LogStep}
use Rattle.records.proofs.Entries.{entry-here}
use Rattle.shared_places.proofs.Walk.{walk-next, walk-met, walk-done, record-at}
use Rattle.shared_places.proofs.from_end.Goals.{After-unwrap-step}
use Rattle.shared_places.proofs.from_end.Goals as goal

pub unwrap-step-requires : goal.unwrap-step-requires
unwrap-step-requires c =
    let e = rw (c.new.ensures.0, c.new.ensures.1) at c.entry.ensures in
    rw (e, entry-here (6 * (c.loop-j.j - 1)) c.args.rest.now (omega arith)) (search rules)

-- the value that is read is the message's at this place
value : (c : After-unwrap-step) → c.unwrap-step.result.value ≡ get_or (run_at 6 record_at c.args.k c.args.rest.now) (c.loop-j.j - 1) 0
value c =
    let j = c.loop-j.j - 1 in
    let e = rw (c.new.ensures.0, c.new.ensures.1) at c.entry.ensures in
    let step = same_Some _ _ (sym c.unwrap-step.ensures ∙ e ∙ entry-here (6 * j) c.args.rest.now (omega arith)) in
    ap (λ (x : LogStep). x.value) step ∙ sym (record-at c.args.k j c.args.rest.now (omega arith))

pub returns-then-log-j : goal.returns-then-log-j
returns-then-log-j c =
    let q : c.loop-j.j ≡ suc (c.loop-j.j - 1) = omega arith in
    walk-met c.args.k _ _ (c.loop-j.j - 1) (omega arith) (rw q at c.loop-j.invariant) (λ e. c.if-log-j.true (e ∙ sym (value (goal.at.returns-then-log-j c).After-unwrap-step)))

pub loop-j-preserved : goal.loop-j-preserved
loop-j-preserved c =
    let q : c.loop-j.j ≡ suc (c.loop-j.j - 1) = omega arith in
    walk-next c.args.k _ _ (c.loop-j.j - 1) (omega arith) (rw q at c.loop-j.invariant) (c.if-log-j.false ∙ value (goal.at.loop-j-preserved c).After-unwrap-step)

pub returns : goal.returns
returns c = let q : c.loop-j.j ≡ 0 = omega arith in walk-done c.args.k _ _ (rw q at c.loop-j.invariant)
