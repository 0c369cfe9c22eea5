-- The answers: "each prints its letter and the number given, then for s the length, for e the count, for v the settled and tentative codes,
-- refused or not"; request (ix): "`v` prints `-`" for no edit yet. Assumes nothing.
use Rattle.std.specs.Prelude.{ℕ, Option, None, Some}
use Rattle.rehearsal_answers.specs.declared.Answer.{Answer}
use Rattle.rehearsal_answers.specs.declared.Item.{Item}
use Rattle.rehearsal_answers.specs.declared.Item.TheVariants.{Number, Dash, Nothing}

-- a letter with one number or two
abbrev pub says_one : ℕ → ℕ → Answer
says_one letter x = record { letter = letter; first = Number x; second = Nothing; third = Nothing }

abbrev pub says_two : ℕ → ℕ → ℕ → Answer
says_two letter x y = record { letter = letter; first = Number x; second = Number y; third = Nothing }

-- with a number and what both frames show
abbrev pub item_of : Option ℕ → Item
item_of (Some code) = Number code
item_of None = Dash

abbrev pub says_frames : ℕ → ℕ → Option ℕ → Option ℕ → Answer
says_frames letter x settled tentative = record { letter = letter; first = Number x; second = item_of settled; third = item_of tentative }

-- "prints `?`"
abbrev pub question : Answer
question = record { letter = 63; first = Nothing; second = Nothing; third = Nothing }
