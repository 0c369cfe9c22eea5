-- An office of 8 or more has no count, and the store of the definition leaves the others.
use native.Mathlib.Omega.{arith}
use mathlib.Core.Path.{ap}
use Rattle.protocol.specs.Counts.{count_of}
use Rattle.counting.proofs.Counting.{counted-in, counted-far}
use Rattle.counting.proofs.count.Goals as goal

-- what was read is the office's count
pub overflow_add-counts : goal.overflow_add-counts
overflow_add-counts c = omega (arith, ap (count_of c.args.counts.now) c.office_of-office.ensures.0, c.requires.1)

pub returns-then-office-lt8 : goal.returns-then-office-lt8
returns-then-office-lt8 c = counted-in c.args.counts.now c.args.word _ c.office_of-office.ensures.0

pub returns-else-office-lt8 : goal.returns-else-office-lt8
returns-else-office-lt8 c = counted-far c.args.counts.now c.args.word _ c.office_of-office.ensures.0 (omega (arith, c.requires.0))
