-- The value stands after the two bytes of the mark.
use Rattle.std.proofs.Math.Seq.{drop-drop}
use Rattle.spelling.specs.Reading.{record_at}
use Rattle.records.proofs.record_at.Goals as goal

pub returns : goal.returns
unfolding record_at
returns c = rw (c.read_at.ensures, drop-drop)
