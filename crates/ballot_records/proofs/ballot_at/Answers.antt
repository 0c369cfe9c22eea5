-- The values are read behind the four first bytes.
use Rattle.std.proofs.Common.{arith}
use Rattle.std.proofs.lemmas.Grind.{common_steps}
use Rattle.lists.specs.Tests.{both}
use Rattle.spelling.specs.Reading.{ballot_next}
use Rattle.ballot_records.proofs.Ballots.{read}
use Rattle.ballot_records.proofs.ballot_at.Goals as goal

pub returns-else-values-len : goal.returns-else-values-len
unfolding ballot_next both
returns-else-values-len c =
    read c.args.s.now c.args.at c.args.o _ _ (grind (arith, common_steps)) (grind (arith, common_steps)) (omega arith) (omega arith) (grind (arith, common_steps)) c.values_at-cells.ensures
