-- The array's cells are zero.
use mathlib.Core.Path.{refl}
use Rattle.tabulation.specs.Cells.{cells_of}
use Rattle.tabulation.proofs.no_rows.Goals as goal

pub returns : goal.returns
unfolding cells_of
returns c = refl
