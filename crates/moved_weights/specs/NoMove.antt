-- Entries that move no weight. Assumes nothing.
use Rattle.std.specs.Prelude.{Bool, not, ℕ}
use Rattle.protocol.specs.Moves.{is_move}

abbrev pub no_move : ℕ → Bool
no_move e = not (is_move e)
