-- The four bytes of the value are stored, then the mark before them.
use Rattle.writer.proofs.Records.{value-first}
use Rattle.writer.proofs.LogRecordItem.put.Goals as goal

pub returns : goal.returns
returns c = let a = c.args in value-first a.out.now c.put.new.out a.at a.value c.put.ensures
