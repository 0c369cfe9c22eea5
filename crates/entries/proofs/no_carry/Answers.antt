-- The three tests of the definition, all of them made.
use Rattle.entries.specs.Carries.{no_carry}
use Rattle.lists.proofs.Walk.{and_both}
use Rattle.entries.proofs.no_carry.Goals as goal

pub returns : goal.returns
unfolding no_carry
returns c = simp and_both
