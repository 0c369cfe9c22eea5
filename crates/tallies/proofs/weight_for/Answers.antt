-- Each turn takes the vote and the weight that stand at the place after those that the walk has yielded.
use Rattle.std.proofs.Common.{◌≡◌, [], ◌∷◌, length, rules, arith, sym, ◌∙◌, ap, length-append}
use Rattle.std.specs.Prelude.{None, eqb}
use Rattle.std.specs.Option.{option_eq}
use Rattle.std.proofs.lemmas.Slice.Zip.{zip_turn, zip_end}
use Rattle.tallies.proofs.Walks.{weight-step, weight-end}
use Rattle.tallies.proofs.weight_for.Goals as goal

pub loop-cast-preserved-then-eq : goal.loop-cast-preserved-then-eq
loop-cast-preserved-then-eq c =
    let a = c.args in
    let l = c.loop-cast in
    let t = zip_turn a.votes.now a.weights.now l.yielded c.into_iter-cast-iterator.result l.cast-iterator c.next.new.self c.next.result (search rules) (search rules) l.yielded_by (c.in-Some.cast, c.in-Some.weight) c.in-Some.is c.next.ensures.steps in
    let s = weight-step a.vote a.votes.now a.weights.now (length l.yielded) _ l.sum l.invariant.1 t.0 t.1 _ (ap (λ x. option_eq eqb x a.vote) (sym (t.2 None)) ∙ sym c.eq.ensures ∙ c.if-eq.true) in
    let n = length-append l.yielded ((c.in-Some.cast, c.in-Some.weight) ∷ []) in
    let w = t.3 0 in
    rw (n, c.from-sum.ensures, w) (omega (arith, l.invariant.0), s)

pub loop-cast-preserved : goal.loop-cast-preserved
loop-cast-preserved c =
    let a = c.args in
    let l = c.loop-cast in
    let t = zip_turn a.votes.now a.weights.now l.yielded c.into_iter-cast-iterator.result l.cast-iterator c.next.new.self c.next.result (search rules) (search rules) l.yielded_by (c.in-Some.cast, c.in-Some.weight) c.in-Some.is c.next.ensures.steps in
    let s = weight-step a.vote a.votes.now a.weights.now (length l.yielded) _ l.sum l.invariant.1 t.0 t.1 _ (ap (λ x. option_eq eqb x a.vote) (sym (t.2 None)) ∙ sym c.eq.ensures ∙ c.if-eq.false) in
    let n = length-append l.yielded ((c.in-Some.cast, c.in-Some.weight) ∷ []) in
    rw n (omega (arith, l.invariant.0), omega (arith, s))

pub returns : goal.returns
returns c =
    let a = c.args in
    let l = c.loop-cast in
    let e = zip_end a.votes.now a.weights.now l.yielded c.into_iter-cast-iterator.result l.cast-iterator c.next.new.self c.next.result (search rules) (search rules) l.yielded_by c.in-None.is c.next.ensures.steps in
    let hx : length a.votes.now ≡ 8 = search rules in
    let hw : length a.weights.now ≡ 8 = search rules in
    (weight-end a.vote a.votes.now a.weights.now (length l.yielded) _ l.sum l.invariant.1 (omega (arith, e)), omega (arith, e, l.invariant.0))
