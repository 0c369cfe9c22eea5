-- A walk from the front: the cells hold the counts of the words so far.
use Rattle.counting.proofs.Tails.{Counting}
use Rattle.counting.proofs.in_words.Given as goal

abbrev pub invariant-loop-word : goal.invariant-loop-word
invariant-loop-word l = Counting l.words l.cells l.word-index
