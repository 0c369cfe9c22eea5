-- The call's promise and the answer's.
use Rattle.rehearsal_turns.proofs.Turning.{issued-turn}
use Rattle.rehearsal_turns.proofs.issue_turn.Goals as goal

pub returns : goal.returns
returns c =
    let a = c.args in
    issued-turn a.record a.lengths a.log.now c.says_one.result a.line a.code
    c.issue-issued.result c.issue-issued.ensures c.says_one.ensures
