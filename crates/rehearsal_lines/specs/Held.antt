-- A line of which a beginning has been read. "Lines of at most 128 bytes": of a longer one the first 129 are held. Assumes nothing.
use Rattle.std.specs.Prelude.{ℕ, List, length, take, replicate}
use Rattle.lists.specs.Padded.{padded}
use Rattle.rehearsal_lines.specs.declared.Held.{Held}

-- the bytes that are held
abbrev pub line_held : Held → List ℕ
line_held h = take h.length h.bytes

-- as much of a line as is held
abbrev pub cut : List ℕ → List ℕ
cut line = take 129 line

-- the struct that holds a line
abbrev pub held_of : List ℕ → Held
held_of line = record { length = length (cut line); bytes = padded 129 0 (cut line) }

-- no byte is held
abbrev pub nothing : Held
nothing = record { length = 0; bytes = replicate 129 0 }
