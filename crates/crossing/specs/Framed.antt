-- A frame's answer across C: a flag beside the code. Assumes nothing.
use Rattle.std.specs.Prelude.{Bool, true, false, ℕ, Option, None, Some}
use Rattle.both_frames.specs.Framed as frames
use Rattle.crossing.specs.declared.Framed.{Framed}

-- whether there is an edit, and its code; 0 where there is none yet
abbrev pub is_coded : Option ℕ → Bool
is_coded (Some code) = true
is_coded None = false

abbrev pub code_in : Option ℕ → ℕ
code_in (Some code) = code
code_in None = 0

abbrev pub across : frames.Framed → Framed
across f = record { number = f.number; coded = is_coded f.edit; code = code_in f.edit }
