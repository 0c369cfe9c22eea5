-- What a line says: "`f n w…` founds n offices with the 0 to 8 weights given, the rest zero; `i k line code` issues at office k;
-- `s k m` sends k's message into slot m; `t k m` takes; `e k` elects; `v k line` views. A line of any other form" is none.
-- The letters are ASCII codes. Assumes nothing.
use Rattle.std.specs.Prelude.{ℕ, Option, Some, None, List, [], ◌∷◌, ltb, eqb, length, get_or, drop, option_and_then}
use Rattle.lists.specs.Tests.{pick}
use Rattle.rehearsal_commands.specs.declared.Command.{Command}
use Rattle.rehearsal_commands.specs.declared.Command.TheVariants.{Found, Issue, Send, Take, Elect, View}
use Rattle.decimal.specs.declared.numbers.Numbers.{Numbers}
use Rattle.decimal.specs.Numbers.{fields, field_number, numbers_of}

-- the letters of the commands
abbrev pub letter_f : ℕ
letter_f = 102

abbrev pub letter_i : ℕ
letter_i = 105

abbrev pub letter_s : ℕ
letter_s = 115

abbrev pub letter_t : ℕ
letter_t = 116

abbrev pub letter_e : ℕ
letter_e = 101

abbrev pub letter_v : ℕ
letter_v = 118

-- a letter with one number after it
unfoldable pub with_one : ℕ → ℕ → Option Command
with_one letter k = pick (eqb letter letter_e) (Some (Elect k)) None

-- a letter with two numbers after it
unfoldable pub with_two : ℕ → ℕ → ℕ → Option Command
with_two letter k x =
    pick (eqb letter letter_s) (Some (Send k x)) (pick (eqb letter letter_t) (Some (Take k x)) (pick (eqb letter letter_v) (Some (View k x)) None))

-- a letter with three numbers after it
unfoldable pub with_three : ℕ → ℕ → ℕ → ℕ → Option Command
with_three letter k x y = pick (eqb letter letter_i) (Some (Issue k x y)) None

-- a letter with a first number and `count` further ones in the cells
unfoldable pub command_by : ℕ → ℕ → ℕ → List ℕ → Option Command
command_by letter first count cells =
    pick (eqb letter letter_f) (Some (Found first cells))
    (pick (eqb count 0) (with_one letter first)
    (pick (eqb count 1) (with_two letter first (get_or cells 0 0))
    (pick (eqb count 2) (with_three letter first (get_or cells 0 0) (get_or cells 1 0)) None)))

-- the numbers past the first, if there are such; a founding's are its weights
unfoldable pub with_more : ℕ → ℕ → Option Numbers → Option Command
with_more letter first more = option_and_then (λ (m : Numbers). command_by letter first m.count m.cells) more

-- a letter, and the fields after it
unfoldable pub line_by : ℕ → List (List ℕ) → Option Command
line_by letter [] = None
line_by letter (f ∷ fs) = option_and_then (λ (first : ℕ). with_more letter first (numbers_of fs)) (field_number f)

abbrev pub line_from : ℕ → List ℕ → Option Command
line_from letter rest = line_by letter (fields rest)

-- at most 128 bytes: a letter, a space, and numbers with single spaces between them
unfoldable pub line_of : List ℕ → Option Command
line_of bytes =
    pick (ltb 128 (length bytes)) None
    (pick (ltb (length bytes) 2) None
    (pick (eqb (get_or bytes 1 0) 32) (line_from (get_or bytes 0 0) (drop 2 bytes)) None))
