-- Lists in pieces of one size: the eight logs of 1024 words in one buffer, the four message slots of 7046 bytes in another. Assumes nothing.
use Rattle.std.specs.Prelude.{ℕ, ◌*◌, List, ◌++◌, eqb, get_or, set, take, drop}
use Rattle.lists.specs.Tests.{pick}

-- the piece at place k
abbrev pub piece_of : ℕ → List ℕ → ℕ → List ℕ
piece_of size xs k = take size (drop (k * size) xs)

-- the list with another piece at place k
abbrev pub with_piece : ℕ → List ℕ → ℕ → List ℕ → List ℕ
with_piece size xs k piece = take (k * size) xs ++ (piece ++ drop size (drop (k * size) xs))

-- "the longest" message "is 7046 bytes"
abbrev pub slot_of : List ℕ → ℕ → List ℕ
slot_of slots m = piece_of 7046 slots m

-- the message in a slot: its first bytes, none in an empty slot
abbrev pub message_in : List ℕ → List ℕ → ℕ → List ℕ
message_in slots lengths m = take (get_or lengths m 0) (slot_of slots m)

-- "a refused `s` keeps the slot", its length too
abbrev pub sent_lengths : List ℕ → ℕ → ℕ → ℕ → List ℕ
sent_lengths lengths m number size = pick (eqb number 0) (set lengths m size) lengths
