-- A line of a trial script, read byte by byte: "a letter and then decimal numbers, each behind a single space". The bytes are ASCII codes.
-- Assumes nothing.
use Rattle.std.specs.Prelude.{ℕ, ◌+◌, ◌-◌, ◌*◌, ◌%◌, ◌^◌, replicate, nat_lt, slice_index, slice_set}
use Rattle.lists.specs.Tests.{pick}
use Rattle.trial_lines.specs.declared.line.Line.{Line}

-- nothing was read yet
abbrev pub no_line : Line
no_line = record { letter = 0; count = 0; first = 0; second = 0; numbers = replicate 25 0 }

abbrev pub with_letter : Line → ℕ → Line
with_letter l b = record { letter = b; count = l.count; first = l.first; second = l.second; numbers = l.numbers }

-- a space: one number more, and behind 24 of them the first again
abbrev pub with_space : Line → Line
with_space l = record { letter = l.letter; count = l.count % 24 + 1; first = l.first; second = l.second; numbers = l.numbers }

-- a number with one digit behind it, in 64 bits; where that has room it is ten times the number and the digit (`digit-behind`)
abbrev pub with_digit : ℕ → ℕ → ℕ
with_digit x digit = (x % 1844674407370955162 * 10 + digit) % 2 ^ 64

-- a digit of the last number
abbrev pub with_next : Line → ℕ → Line
with_next l digit = record {
  letter = l.letter;
  count = l.count;
  first = l.first;
  second = l.second;
  numbers = slice_set l.numbers (l.count % 25) (with_digit (slice_index l.numbers (l.count % 25)) digit);
}

-- a byte past 9 is the letter, one before 0 a space
unfoldable pub with_byte : Line → ℕ → Line
with_byte l b = pick (nat_lt 57 b) (with_letter l b) (pick (nat_lt b 48) (with_space l) (with_next l (b - 48)))
