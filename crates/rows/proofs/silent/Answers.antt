-- The vote at the place is one of the first n.
use Rattle.std.proofs.Common.{◌≡◌, ◌<◌, ◌∙◌, ap, sym, length, rules, arith}
use Rattle.std.specs.Prelude.{None}
use Rattle.std.specs.Option.{is_some}
use lib.Seq.{length-take-le, get_or-take}
use Rattle.rows.proofs.Walks.{mark-is, marks-next, marks-done}
use Rattle.rows.proofs.silent.Goals as goal

pub loop-i-preserved : goal.loop-i-preserved
loop-i-preserved c =
    let a = c.args in
    let l = c.loop-i in
    let few = c.requires in
    let eight : length a.votes.now ≡ 8 = search rules in
    let n = length-take-le a.n a.votes.now (omega arith) in
    let i : l.i < a.n = omega (arith, n, c.loop-i-test.true) in
    let here = get_or-take a.n a.votes.now l.i None i in
    (omega arith, marks-next a.n a.votes.now l.cells l.i l.invariant.1 few i _ (c.from.ensures ∙ mark-is _ _ (ap is_some (sym here) ∙ c.is_none.ensures)))

pub returns : goal.returns
returns c =
    let a = c.args in
    let l = c.loop-i in
    let few = c.requires in
    let eight : length a.votes.now ≡ 8 = search rules in
    let n = length-take-le a.n a.votes.now (omega arith) in
    marks-done a.n a.votes.now l.cells l.i l.invariant.1 (omega (arith, n, c.loop-i-test.false))
