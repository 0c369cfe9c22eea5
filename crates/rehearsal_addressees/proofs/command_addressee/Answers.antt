-- In each arm the command is what the pattern says.
use mathlib.Core.Logic.{◌⊎◌, inl, inr}
use mathlib.Core.Path.{◌≡◌, ◌∙◌}
use Prim.Native.Nat.{ℕ}
use Rattle.rehearsal_commands.specs.declared.Command.{Command}
use Rattle.rehearsal_commands.specs.declared.Command.TheVariants.{Issue, Send, Take, Elect, View}
use Rattle.rehearsal_addressees.specs.Addressees.{at_office, command_addressee}
use Rattle.rehearsal_addressees.proofs.command_addressee.Goals as goal

pub returns-in-Found : goal.returns-in-Found
unfolding command_addressee
returns-in-Found c = rw c.in-Found.is

-- any other command names its office first
module _ (count k : ℕ) (c c' : Command) (e : c ≡ c') where
  by_office : (((x : ℕ) × (y : ℕ) × (c' ≡ Issue k x y)) ⊎ (((x : ℕ) × (c' ≡ Send k x)) ⊎ (((x : ℕ) × (c' ≡ Take k x)) ⊎ ((c' ≡ Elect k) ⊎ ((x : ℕ) × (c' ≡ View k x))))))
      → at_office count k c ≡ command_addressee count c'
  unfolding command_addressee
  by_office (inl h) = rw (e, h.2)
  by_office (inr (inl h)) = rw (e, h.1)
  by_office (inr (inr (inl h))) = rw (e, h.1)
  by_office (inr (inr (inr (inl h)))) = rw (e, h)
  by_office (inr (inr (inr (inr h)))) = rw (e, h.1)

pub returns-in-Issue : goal.returns-in-Issue
returns-in-Issue c = c.at_office.ensures ∙ by_office c.args.count c.in-Issue.k c.in-Issue.command c.args.command c.in-Issue.command-is c.in-Issue.is
