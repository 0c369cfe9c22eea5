-- What counting asks of the counts that stood before. Assumes nothing.
use Rattle.std.specs.Prelude.{ℕ, ◌+◌, ◌<◌, List}
use Rattle.protocol.specs.Counts.{count_of}

-- a log of this length is counted in 32 bits, and each count with all its entries fits 64
abbrev pub Room : List ℕ → ℕ → Type 0
Room counts len = (len < 4294967296) × ((k : ℕ) → count_of counts k + len < 18446744073709551616)

-- counts in 32 bits, of which each can be one more
abbrev pub MoreRoom : List ℕ → Type 0
MoreRoom counts = (k : ℕ) → count_of counts k < 4294967295
