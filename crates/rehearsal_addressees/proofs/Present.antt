-- An office that a line is for is one of the eight. Assumes nothing.
use mathlib.Core.Path.{◌≡◌}
use Prim.Native.Nat.{ℕ, ◌<◌}
use native.Mathlib.Omega.{arith}
use lib.Dec.{ltb}
use borrow.Author.Tests.{ltb-true}
use Rattle.lists.specs.Tests.{pick}
use Rattle.lists.proofs.Tests.{pick-cases}
use Rattle.rehearsal_commands.specs.declared.Command.{Command}
use Rattle.rehearsal_commands.specs.declared.Command.TheVariants.{Found, Issue, Send, Take, Elect, View}
use Rattle.std.specs.Prelude.{Option, Some, None}
use Rattle.rehearsal_addressees.specs.declared.Addressee.{Addressee}
use Rattle.rehearsal_addressees.specs.declared.Addressee.TheVariants.{One, Nobody}
use Rattle.rehearsal_addressees.specs.Addressees.{at_office, command_addressee, addressee_of}

at_there : (count k' : ℕ) (c' : Command) (k : ℕ) (c : Command) → at_office count k' c' ≡ One k c → k < 8
unfolding at_office
at_there count k' c' k c =
    pick-cases (λ (a : Addressee). a ≡ One k c → k < 8) (ltb k' count) (pick (ltb k' 8) (One k' c') Nobody) Nobody
    (λ t. pick-cases (λ (a : Addressee). a ≡ One k c → k < 8) (ltb k' 8) (One k' c') Nobody
    (λ u e. let z : k' ≡ k = cc in omega (arith, ltb-true k' 8 u))
    (λ u e. let z : ◌≡◌ {A = ℕ} 0 1 = cc in absurd (omega arith)))
    (λ t e. let z : ◌≡◌ {A = ℕ} 0 1 = cc in absurd (omega arith))

command-there : (count : ℕ) (c' : Command) (k : ℕ) (c : Command) → command_addressee count c' ≡ One k c → k < 8
unfolding command_addressee
command-there count (Found n ws) k c e = let z : ◌≡◌ {A = ℕ} 0 1 = cc in absurd (omega arith)
command-there count (Issue k' line code) k c e = at_there count k' (Issue k' line code) k c e
command-there count (Send k' m) k c e = at_there count k' (Send k' m) k c e
command-there count (Take k' m) k c e = at_there count k' (Take k' m) k c e
command-there count (Elect k') k c e = at_there count k' (Elect k') k c e
command-there count (View k' line) k c e = at_there count k' (View k' line) k c e

pub addressee-there : (count : ℕ) (p : Option Command) (k : ℕ) (c : Command) → addressee_of count p ≡ One k c → k < 8
unfolding addressee_of
addressee-there count (Some c') k c e = command-there count c' k c e
addressee-there count None k c e = let z : ◌≡◌ {A = ℕ} 0 1 = cc in absurd (omega arith)
