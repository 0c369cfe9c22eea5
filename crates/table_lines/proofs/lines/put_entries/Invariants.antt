-- The invariant: the digits that are left, written from here on, give all of them; each takes one byte.
use Rattle.table_lines.proofs.Shown.{DigitsRest}
use Rattle.table_lines.proofs.lines.put_entries.Given as goal

abbrev pub invariant-loop-entry : goal.invariant-loop-entry
invariant-loop-entry l = DigitsRest l.entries l.initial.out l.at l.out l.next l.entry-index
