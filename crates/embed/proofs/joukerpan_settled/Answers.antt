-- The number and the part are those that `settled` hands back; the answer is the one beside the other's length.
use Rattle.embed.specs.Part.{part_of}
use Rattle.embed.proofs.joukerpan_settled.Goals as goal

pub returns : goal.returns
unfolding part_of
returns c = rw (c.settled-part.ensures.0, c.settled-part.ensures.1)
