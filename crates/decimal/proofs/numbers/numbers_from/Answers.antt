use borrow.Author.Rules.{rules}
use borrow.Author.Tests.{eq-eqb, ne_eqb}
use native.Mathlib.Omega.{arith}
use mathlib.Core.Path.{sym, ap, ◌∙◌}
use lib.ListN.{length, drop}
use Rattle.lists.specs.Tests.{pick}
use Rattle.std.proofs.Common.{tests}
use Rattle.std.proofs.lemmas.List.{length_push}
use Rattle.std.proofs.lemmas.Iterator.Consumers.{YieldsList-turn, YieldsList-end}
use Rattle.decimal.specs.Numbers.{numbers_after, numbers_of}
use Rattle.decimal.proofs.Walks.{number-within, numbers-step, numbers-end, fields-all, fields-none, parts_from}
use Rattle.decimal.proofs.numbers.numbers_from.Goals as goal

pub returns-then-start-bytes : goal.returns-then-start-bytes
unfolding numbers_after
returns-then-start-bytes c = sym (ap numbers_of (fields-none c.args.bytes.now c.args.start c.if-start-bytes.true))

pub loop-field-init : goal.loop-field-init
loop-field-init c = (search rules, sym (ap numbers_of (fields-all c.args.bytes.now c.args.start c.if-start-bytes.false)))

pub returns-then-count-eq8 : goal.returns-then-count-eq8
unfolding pick
returns-then-count-eq8 c =
    let l = c.loop-field in
    let w = c.split-field-items.ensures in
    let t =
    YieldsList-turn (parts_from _ c.args.bytes.now c.args.start c.into_iter-field-iterator.ensures.into_iter_gives w.rest w.done w.closure (λ x b q k. search (rules, tests)))
    l.yielded _ l.yielded_by _ _ c.in-Some.field c.in-Some.is c.next.ensures.steps in
    let e = sym l.invariant.1 ∙ numbers-step (drop c.args.start c.args.bytes.now) l.cells l.count (length l.yielded) c.in-Some.field.now t in
    sym (e ∙ rw (eq-eqb l.count 8 c.if-count-eq8.true))

pub returns-in_default : goal.returns-in_default
unfolding pick
returns-in_default c =
    let l = c.loop-field in
    let w = c.split-field-items.ensures in
    let t =
    YieldsList-turn (parts_from _ c.args.bytes.now c.args.start c.into_iter-field-iterator.ensures.into_iter_gives w.rest w.done w.closure (λ x b q k. search (rules, tests)))
    l.yielded _ l.yielded_by _ _ c.in-Some.field c.in-Some.is c.next.ensures.steps in
    let e = sym l.invariant.1 ∙ numbers-step (drop c.args.start c.args.bytes.now) l.cells l.count (length l.yielded) c.in-Some.field.now t in
    let none = sym c.in_default.ensures in
    sym (e ∙ rw (ne_eqb l.count 8 c.if-count-eq8.false, none))

pub loop-field-preserved : goal.loop-field-preserved
unfolding pick
loop-field-preserved c =
    let l = c.loop-field in
    let w = c.split-field-items.ensures in
    let t =
    YieldsList-turn (parts_from _ c.args.bytes.now c.args.start c.into_iter-field-iterator.ensures.into_iter_gives w.rest w.done w.closure (λ x b q k. search (rules, tests)))
    l.yielded _ l.yielded_by _ _ c.in-Some.field c.in-Some.is c.next.ensures.steps in
    let e = sym l.invariant.1 ∙ numbers-step (drop c.args.start c.args.bytes.now) l.cells l.count (length l.yielded) c.in-Some.field.now t in
    let some = sym c.in-Some-number_of.ensures in (
      omega arith,
      sym (e ∙ rw (ne_eqb l.count 8 c.if-count-eq8.false, some, length_push l.yielded c.in-Some.field)),
    )

pub overflow_cast-cells : goal.overflow_cast-cells
overflow_cast-cells c = omega (arith, number-within 65535 _ _ (sym c.in-Some-number_of.ensures))

pub returns : goal.returns
returns c =
    let l = c.loop-field in
    let w = c.split-field-items.ensures in
    let t =
    YieldsList-end (parts_from _ c.args.bytes.now c.args.start c.into_iter-field-iterator.ensures.into_iter_gives w.rest w.done w.closure (λ x b q k. search (rules, tests)))
    l.yielded _ l.yielded_by _ _ c.in-None.is c.next.ensures.steps in
    sym (sym l.invariant.1 ∙ numbers-end (drop c.args.start c.args.bytes.now) l.cells l.count (length l.yielded) t.1)
