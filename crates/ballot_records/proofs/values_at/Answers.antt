-- The first k cells are read, and the others are zero.
use mathlib.Core.Path.{◌∙◌}
use Rattle.numbers.specs.Numbers.{be32}
use Rattle.numbers.proofs.Runs.{run_at-length}
use Rattle.numbers.proofs.Steps.{filled-front}
use Rattle.ballot_records.proofs.values_at.Goals as goal

pub returns : goal.returns
returns c = filled-front 4 be32 32 _ _ c.requires.0 c.read_run.ensures ∙ rw run_at-length
