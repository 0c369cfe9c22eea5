-- The first k cells are read, and the others are zero.
use Rattle.numbers.specs.Numbers.{be16}
use Rattle.numbers.proofs.Steps.{filled-front}
use Rattle.message_heads.specs.Heads.{eight_weights}
use Rattle.message_heads.proofs.weights_at.Goals as goal

pub returns : goal.returns
unfolding eight_weights
returns c = filled-front 2 be16 8 _ _ c.requires.0 c.read_run.ensures
