-- A walk from the end: no word passed is for the line, so those that are left give the edit.
use mathlib.Core.Path.{◌≡◌}
use Rattle.std.specs.Iterator.Adapters.{rev_source}
use Rattle.std.specs.Slice.Iter.{iter_rest}
use Rattle.protocol.specs.Codes.{of_cell}
use Rattle.protocol.specs.Frames.{edit_after}
use Rattle.last_edits.proofs.last_edit.Given as goal

abbrev pub invariant-loop-word : goal.invariant-loop-word
invariant-loop-word l = edit_after l.line (of_cell l.before) l.words ≡ edit_after l.line (of_cell l.before) (iter_rest (rev_source l.word-iterator))
