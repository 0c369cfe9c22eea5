-- A test of a number's bytes, and the cells whose offices' counts are such bytes. Assumes nothing.
use Rattle.std.specs.Prelude.{ℕ, zero, suc, ◌/◌, ◌%◌, ◌≤◌, ◌≡◌, Bool, true, List, eqb, ltb, drop}
use Rattle.lists.specs.Tests.{both, all_b}
use Rattle.protocol.specs.Entry.{is_entry}

-- each of the lowest k bytes is below 128
unfoldable pub low_bytes : ℕ → ℕ → Bool
low_bytes zero x = true
low_bytes (suc k) x = both (ltb (x % 256) 128) (low_bytes k (x / 256))

-- cells that hold a tail of this length: all are entries for n offices, "unused cells are zero"
abbrev pub Holding : ℕ → ℕ → List ℕ → Type 0
Holding n len cells = (len ≤ 32) × ((all_b (is_entry n) cells ≡ true) × (all_b (eqb 0) (drop len cells) ≡ true))
