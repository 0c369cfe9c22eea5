-- The tests that led to each return are those by which the definition picks.
use Rattle.std.proofs.Common.{le-ltb, lt-ltb}
use Rattle.lists.specs.Tests.{pick}
use Rattle.trial_lines.specs.Line.{with_byte}
use Rattle.trial_lines.proofs.line.Line.with.Goals as goal

pub returns-then-byte-gt57 : goal.returns-then-byte-gt57
unfolding with_byte pick
returns-then-byte-gt57 c = rw (lt-ltb 57 c.args.byte c.if-byte-gt57.true)

pub returns-then-byte-lt48 : goal.returns-then-byte-lt48
unfolding with_byte pick
returns-then-byte-lt48 c = let b = c.args.byte in rw (le-ltb 57 b c.if-byte-gt57.false, lt-ltb b 48 c.if-byte-lt48.true)

pub returns : goal.returns
unfolding with_byte pick
returns c = let b = c.args.byte in rw (le-ltb 57 b c.if-byte-gt57.false, le-ltb b 48 c.if-byte-lt48.false, c.from.ensures)
