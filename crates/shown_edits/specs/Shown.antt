-- Request (ix): a frame answers "no edit yet" apart from a code: none, or some code. Assumes nothing.
use Rattle.std.specs.Prelude.{ℕ}
use Rattle.std.specs.Prelude.{Option}
use Rattle.protocol.specs.Codes.{of_cell}

-- what a stored code says
abbrev pub stored_edit : ℕ → Option ℕ
stored_edit stored = of_cell stored
