use Rattle.std.proofs.Common.{◌≡◌, length, rules, arith}
use Rattle.rows.proofs.Walks.{rows_none, rows_few, rows_next, rows-done}
use Rattle.rows.proofs.of_votes.Goals as goal

pub loop-vote-init : goal.loop-vote-init
loop-vote-init c = rows_none c.args.weights.now c.args.votes.now

pub with_vote-rows-requires : goal.with_vote-rows-requires
with_vote-rows-requires c =
    let l = c.loop-vote in
    let a = c.args in
    let hx : length a.votes.now ≡ 8 = search rules in
    omega (arith, rows_few a.weights.now a.votes.now l.rows l.vote-index l.invariant, c.loop-vote-test.true)

pub loop-vote-preserved : goal.loop-vote-preserved
loop-vote-preserved c =
    let l = c.loop-vote in
    let a = c.args in
    let hx : length a.votes.now ≡ 8 = search rules in
    let hw : length a.weights.now ≡ 8 = search rules in
    rows_next a.weights.now a.votes.now l.rows l.vote-index l.invariant hx hw (omega (arith, c.loop-vote-test.true)) _ c.with_vote-rows.ensures

pub returns : goal.returns
returns c =
    let l = c.loop-vote in
    let a = c.args in
    let hx : length a.votes.now ≡ 8 = search rules in
    let hw : length a.weights.now ≡ 8 = search rules in
    rows-done a.weights.now a.votes.now l.rows l.vote-index l.invariant (omega (arith, c.loop-vote-test.false))
