-- Settled across C: its number and the length of the part that it hands back. Assumes nothing.
use Rattle.std.specs.Prelude.{ℕ, List, length}
use Rattle.settling.specs.Settling.{settled_of, settled_number}
use Rattle.frame.specs.declared.Record.{Record}
use Rattle.embed.specs.declared.Part.{Part}

unfoldable pub part_of : Record → List ℕ → Part
part_of r words = record { number = settled_number r words; length = length (settled_of r words) }
