-- walked-is: the code's answer is the shortest run, and the last edit of each line named, the kept code of a line that has none. Assumes nothing.
use mathlib.Core.Path.{◌≡◌}
use mathlib.Core.List.{List}
use Prim.Native.Nat.{ℕ}
use Rattle.runs.specs.Runs.{edits_of, shortest_run}
use Rattle.runs.proofs.WalkReads.{words-read, shown_read}
use Rattle.backward.specs.Cells.{placed, walked_of}

pub walked-is : (lines entries codes : List ℕ) → walked_of entries lines codes ≡ record { words = shortest_run lines entries; edits = placed (edits_of lines codes entries) }
unfolding walked_of
walked-is lines entries codes = λ i. record { words = words-read lines entries i; edits = placed (shown_read lines entries codes i) }
