-- A command's addressee, or nobody.
use mathlib.Core.Path.{◌∙◌}
use Rattle.rehearsal_addressees.specs.Addressees.{addressee_of}
use Rattle.rehearsal_addressees.proofs.addressee_of.Goals as goal

pub returns-in_default : goal.returns-in_default
unfolding addressee_of
returns-in_default c = rw c.in_default.is

pub returns : goal.returns
unfolding addressee_of
returns c = c.command_addressee.ensures ∙ rw c.in-Some.is
