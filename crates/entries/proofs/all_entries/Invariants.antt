-- Words that all code lines are entries. Otherwise a walk from the front that makes every test.
use Rattle.lists.specs.Tests.{all_b}
use Rattle.lists.proofs.Walk.{AllWith}
use Rattle.protocol.specs.Entry.{is_entry}
use Rattle.entries.proofs.all_entries.Given as goal

abbrev pub invariant-loop-word : goal.invariant-loop-word
invariant-loop-word l = AllWith (all_b (is_entry l.n) l.words) (is_entry l.n) l.words l.good l.word-index
