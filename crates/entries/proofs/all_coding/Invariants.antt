-- A walk from the front that joins every raised word: what was joined so far and what is left of the words answer as all of them do.
use Rattle.lists.specs.Tests.{all_b}
use Rattle.entries.specs.Carries.{is_coding, no_carry}
use Rattle.lists.proofs.Walk.{AllWith}
use Rattle.entries.proofs.all_coding.Given as goal

abbrev pub invariant-loop-word : goal.invariant-loop-word
invariant-loop-word l = AllWith (all_b (is_coding l.n) l.words) (is_coding l.n) l.words (no_carry l.bits) l.word-index
