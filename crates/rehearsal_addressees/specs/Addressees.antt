-- Whom a line is for. "A line of any other form prints `?`, as does a slot or office that isn't there, or a call before a done `f`."
-- Assumes nothing.
use Rattle.std.specs.Prelude.{ℕ, Option, Some, None, ltb}
use Rattle.lists.specs.Tests.{pick}
use Rattle.rehearsal_commands.specs.declared.Command.{Command}
use Rattle.rehearsal_commands.specs.declared.Command.TheVariants.{Found, Issue, Send, Take, Elect, View}
use Rattle.rehearsal_addressees.specs.declared.Addressee.{Addressee}
use Rattle.rehearsal_addressees.specs.declared.Addressee.TheVariants.{All, One, Nobody}

-- the office, if it is there; before a done `f` none is. There are records for eight
unfoldable pub at_office : ℕ → ℕ → Command → Addressee
at_office count k c = pick (ltb k count) (pick (ltb k 8) (One k c) Nobody) Nobody

-- a founding is everyone's, any other command its office's
unfoldable pub command_addressee : ℕ → Command → Addressee
command_addressee count (Found n ws) = All n ws
command_addressee count (Issue k line code) = at_office count k (Issue k line code)
command_addressee count (Send k m) = at_office count k (Send k m)
command_addressee count (Take k m) = at_office count k (Take k m)
command_addressee count (Elect k) = at_office count k (Elect k)
command_addressee count (View k line) = at_office count k (View k line)

unfoldable pub addressee_of : ℕ → Option Command → Addressee
addressee_of count (Some c) = command_addressee count c
addressee_of count None = Nobody
