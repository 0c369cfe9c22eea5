use Rattle.std.proofs.Common.{◌∙◌, take}
use Rattle.rows.proofs.Walks.{any-in}
use Rattle.rows.proofs.has_row.Goals as goal

pub returns : goal.returns
returns c = c.contains.ensures.value ∙ any-in c.args.entry (take c.args.rows.count c.args.rows.entries)
