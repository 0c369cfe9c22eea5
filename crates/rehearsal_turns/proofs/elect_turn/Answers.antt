-- The call's promise and the answer's.
use Rattle.rehearsal_turns.proofs.Turning.{elected-turn}
use Rattle.rehearsal_turns.proofs.elect_turn.Goals as goal

pub returns : goal.returns
returns c =
    let a = c.args in (
      elected-turn a.record a.lengths a.log.now c.says_two.result c.elect-elected.result
          c.elect-elected.ensures.0 c.says_two.ensures,
      c.elect-elected.ensures.1,
    )
