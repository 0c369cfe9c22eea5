-- The rehearsal's struct, and the world that it makes up with the lent logs and slots. Assumes nothing.
use Rattle.std.specs.Prelude.{ℕ, List, ◌≡◌, length}
use Rattle.std.proofs.lemmas.List.Edits.{sets}
use Rattle.rehearsal_lines.specs.Held.{line_held, held_of, nothing}
use Rattle.rehearsal_lines.specs.Feeding.{Fed}
use Rattle.rehearsal_offices.specs.World.{World, no_offices}
use Rattle.rehearsal.specs.declared.Rehearsal.{Rehearsal}
use Rattle.rehearsal.specs.declared.feeding.Fed as answer
use Rattle.rehearsal.specs.Lines.{world_at, feed_of, finish_of}

abbrev pub world_of : Rehearsal → List ℕ → List ℕ → World
world_of r logs slots = world_at r.offices logs slots

-- no office, empty slots, no line
abbrev pub at_first : Rehearsal
at_first = record { offices = no_offices; held = nothing }

-- what feeding the rehearsal with these bytes leaves and prints
abbrev pub feeds : Rehearsal → List ℕ → List ℕ → List ℕ → Fed World
feeds r logs slots bytes = feed_of (world_of r logs slots) (line_held r.held) bytes

-- the same of the input's end
abbrev pub finishes : Rehearsal → List ℕ → List ℕ → Fed World
finishes r logs slots = finish_of (world_of r logs slots) (line_held r.held)

-- the answer of a call that feeds: the offices, the line that is held, and how many bytes it printed
abbrev pub answer_of : Fed World → answer.Fed
answer_of f = record { rehearsal = record { offices = f.world.offices; held = held_of f.held }; printed = length f.printed }

-- what such a call promises: its answer, the logs and the slots, and the output, first with the printed bytes in front and then as it was
pub record FedAs (f : Fed World) (out : List ℕ) (r : answer.Fed) (logs' slots' out' : List ℕ) : Type 0 where
  pub answer : r ≡ answer_of f
  pub logs : logs' ≡ f.world.logs
  pub slots : slots' ≡ f.world.slots
  pub output : out' ≡ sets out 0 f.printed
