-- The definition is that of the fields.
use Rattle.frame.specs.Soundness.{sound_b}
use Rattle.frame.proofs.Record.sound.Goals as goal

pub returns : goal.returns
unfolding sound_b
returns c = c.sound.ensures
