-- What a line's numbers write into a list. Assumes nothing.
use Rattle.std.specs.Prelude.{ℕ, zero, suc, ◌+◌, ◌*◌, ◌%◌, min, Bool, Option, Some, None, List, [], ◌++◌, map, length, take, drop, nat_le, nat_lt}
use Rattle.std.proofs.lemmas.List.Edits.{sets}
use Rattle.lists.specs.Tests.{both, pick}
use Rattle.trial_lines.specs.declared.line.Line.{Line}

-- the line's numbers from place `from` on
abbrev pub said_from : Line → ℕ → List ℕ
said_from l from = drop from (take (min l.count 24 + 1) l.numbers)

-- a list, `times` times over
unfoldable pub over : ℕ → List ℕ → List ℕ
over zero xs = []
over (suc times) xs = xs ++ over times xs

-- "one value or more", and all of them within a list of this length from place `at` on
unfoldable pub has_room : Line → ℕ → ℕ → ℕ → ℕ → Bool
has_room l from times at room = both (nat_lt 0 (length (said_from l from))) (nat_le (at + times * length (said_from l from)) room)

-- where they end, if they have room
unfoldable pub room_for : Line → ℕ → ℕ → ℕ → ℕ → Option ℕ
room_for l from times at room = pick (has_room l from times at room) (Some (at + times * length (said_from l from))) None

-- the numbers that are written, each as `f` has it: none where they have no room
unfoldable pub written : {A : Type 0} → (ℕ → A) → Line → ℕ → ℕ → ℕ → ℕ → List A
written f l from times at room = pick (has_room l from times at room) (map f (over times (said_from l from))) []

-- a list with these written into it from place `at` on
abbrev pub put_into : {A : Type 0} → (ℕ → A) → Line → ℕ → ℕ → ℕ → List A → List A
put_into f l from times at to = sets to at (written f l from times at (length to))

-- the low bits of a number, and a number as it is
abbrev pub low8 : ℕ → ℕ
low8 x = x % 256

abbrev pub low16 : ℕ → ℕ
low16 x = x % 65536

abbrev pub low32 : ℕ → ℕ
low32 x = x % 4294967296

abbrev pub whole : ℕ → ℕ
whole x = x

-- eight weights from place `from` on, or the last eight
abbrev pub weights_from : Line → ℕ → List ℕ
weights_from l from = map low16 (take 8 (drop (min from 17) l.numbers))
