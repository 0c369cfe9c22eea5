-- The bytes that are copied are those of the definition.
use mathlib.Core.Path.{◌∙◌}
use Rattle.numbers.specs.Numbers.{bytes32-length}
use Rattle.put_numbers.proofs.Stored.{stored, four}
use Rattle.put_numbers.proofs.U32Item.put.Goals as goal

pub returns : goal.returns
returns c = stored _ _ _ _ 4 (c.copy_from_slice.ensures.after ∙ c.to_be_bytes.ensures ∙ four c.args.x) (bytes32-length c.args.x) c.requires
