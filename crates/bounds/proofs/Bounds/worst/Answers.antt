-- The vote at the place is one of the first n.
use Rattle.std.proofs.Common.{◌≡◌, ◌<◌, ◌∙◌, ap, sym, length, rules, arith}
use Rattle.std.specs.Prelude.{None, Some, eqb}
use Rattle.std.specs.Option.{option_eq}
use lib.Seq.{length-take-le, get_or-take}
use Rattle.bounds.proofs.Walks.{worst-next, worst-done}
use Rattle.bounds.proofs.Bounds.worst.Goals as goal
use Rattle.bounds.proofs.Bounds.worst.Goals.{then-eq, else-eq}

pub loop-i-preserved : goal.loop-i-preserved
loop-i-preserved c =
    let a = c.args in
    let l = c.loop-i in
    let few = c.requires in
    let xs8 : length a.votes.now ≡ 8 = search rules in
    let lo8 : length a.self.now.lowest ≡ 8 = search rules in
    let hi8 : length a.self.now.highest ≡ 8 = search rules in
    let n = length-take-le a.n a.votes.now (omega arith) in
    let i : l.i < a.n = omega (arith, n, c.loop-i-test.true) in
    let here = ap (λ x. option_eq eqb x (Some a.entry)) (sym (get_or-take a.n a.votes.now l.i None i)) ∙ sym c.eq.ensures in
    let next = worst-next a.n few a.self.now.lowest a.self.now.highest lo8 hi8 a.votes.now xs8 a.entry l.weights l.i l.invariant.1 i in
    elim c.if-eq.branch [
      | then-eq w ↦ rw w.weights-is (omega arith, next _ (here ∙ w.if-eq.true))
      | else-eq w ↦ rw w.weights-is (omega arith, next _ (here ∙ w.if-eq.false))
    ]

pub returns : goal.returns
returns c =
    let a = c.args in
    let l = c.loop-i in
    let few = c.requires in
    let xs8 : length a.votes.now ≡ 8 = search rules in
    let lo8 : length a.self.now.lowest ≡ 8 = search rules in
    let hi8 : length a.self.now.highest ≡ 8 = search rules in
    let n = length-take-le a.n a.votes.now (omega arith) in
    worst-done a.n few a.self.now.lowest a.self.now.highest lo8 hi8 a.votes.now xs8 a.entry l.weights l.i l.invariant.1 (omega (arith, n, c.loop-i-test.false))
