-- "Each prints its letter and the number given", then what else it says, and a newline; request (ix): "`v` prints `-`" for no edit yet. Assumes nothing.
use Rattle.std.specs.Prelude.{ℕ, ◌+◌, List, [], ◌∷◌, ◌++◌, leb}
use Rattle.lists.specs.Tests.{pick}
use Rattle.printing.specs.Printing.{decimal_of}
use Rattle.rehearsal_answers.specs.declared.Answer.{Answer}
use Rattle.rehearsal_answers.specs.declared.Item.{Item}
use Rattle.rehearsal_answers.specs.declared.Item.TheVariants.{Number, Dash, Nothing}

-- a number and the space in front of it
abbrev pub spaced : ℕ → List ℕ
spaced n = 32 ∷ decimal_of n

-- a dash and the space in front of it
abbrev pub dashed : List ℕ
dashed = 32 ∷ 45 ∷ []

abbrev pub spaced_item : Item → List ℕ
spaced_item (Number n) = spaced n
spaced_item Dash = dashed
spaced_item Nothing = []

unfoldable pub printed_of : Answer → List ℕ
printed_of a = (a.letter ∷ []) ++ (spaced_item a.first ++ (spaced_item a.second ++ (spaced_item a.third ++ (10 ∷ []))))

-- the same at a place of an output of `size` bytes: an answer takes at most 65 bytes, and where there is no room for them nothing is printed
unfoldable pub printed_in : ℕ → ℕ → Answer → List ℕ
printed_in size at a = pick (leb (at + 65) size) (printed_of a) []
