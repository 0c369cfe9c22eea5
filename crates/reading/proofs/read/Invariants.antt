-- The head is tested, then the log records, then the ballots in a walk, then the end and the tails, then the lengths with them; each exit is what
-- the definition answers for these tests.
use Prim.Native.Nat.{◌*◌}
use mathlib.Core.Path.{◌≡◌}
use Rattle.message_heads.specs.Heads.{head_said}
use Rattle.reading.proofs.Ballots.{Left}
use Rattle.reading.proofs.read.Given as goal

abbrev pub invariant-loop-o : goal.invariant-loop-o
invariant-loop-o l = (l.m ≡ head_said l.msg l.m.ballots) × Left l.rest (6 * l.initial.m.held) l.initial.m.n l.m.ballots l.at l.o
