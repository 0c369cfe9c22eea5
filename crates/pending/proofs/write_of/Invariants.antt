-- A walk from the front: what is left to store, from the place on, gives all that is to be stored.
use lib.ListN.{drop}
use Rattle.lists.proofs.Stores.{Left}
use Rattle.own_entries.specs.Parts.{entries_of}
use Rattle.pending.proofs.write_of.Given as goal

abbrev pub invariant-loop-word : goal.invariant-loop-word
invariant-loop-word l = Left l.initial.out 0 (entries_of l.office l.words) l.out l.at (entries_of l.office (drop l.word-index l.words))
