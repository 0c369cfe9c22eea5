-- Request (v): "In any tail at most 32 / n entries, rounded down, may come from one office; moves of weight count." Assumes nothing.
use Rattle.std.specs.Prelude.{List, Bool, ℕ, ◌/◌, leb}
use Rattle.lists.specs.Tests.{all_b}
use Rattle.protocol.specs.Counts.{no_counts, counts_after}

-- an office's part of a tail, of n offices
abbrev pub part : ℕ → ℕ
part n = 32 / n

-- none of the n offices has more than its part of the tail, "neighbours or not"
unfoldable pub fair : ℕ → List ℕ → Bool
fair n tail = all_b (λ (c : ℕ). leb c (part n)) (counts_after (no_counts n) tail)
