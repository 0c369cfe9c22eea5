-- The bytes that are copied are those of the definition.
use mathlib.Core.Path.{◌∙◌}
use Rattle.numbers.specs.Numbers.{bytes64-length}
use Rattle.put_numbers.proofs.Stored.{stored, eight}
use Rattle.put_numbers.proofs.U64Item.put.Goals as goal

pub returns : goal.returns
returns c = stored _ _ _ _ 8 (c.copy_from_slice.ensures.after ∙ c.to_be_bytes.ensures ∙ eight c.args.x) (bytes64-length c.args.x) c.requires
