-- The bytes that are copied are those of the definition.
use mathlib.Core.Path.{◌∙◌}
use Rattle.numbers.specs.Numbers.{bytes16-length}
use Rattle.put_numbers.proofs.Stored.{stored, two}
use Rattle.put_numbers.proofs.U16Item.put.Goals as goal

pub returns : goal.returns
returns c = stored _ _ _ _ 2 (c.copy_from_slice.ensures.after ∙ c.to_be_bytes.ensures ∙ two c.args.x) (bytes16-length c.args.x) c.requires
