-- The invariant: the lines that are left, written from here on, give all of them; each takes at most 28 bytes.
use Rattle.table_lines.proofs.Written.{LinesRest}
use Rattle.table_lines.proofs.lines.put_lines.Given as goal

abbrev pub invariant-loop-place : goal.invariant-loop-place
invariant-loop-place l = LinesRest l.«record» l.initial.out l.out l.next l.place
