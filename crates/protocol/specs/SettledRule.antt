-- The rule by which a frame's offices elect. Assumes nothing.
use Rattle.std.specs.Prelude.{List, ℕ}
use Rattle.protocol.specs.Vote.{Rule, by_log}
use Rattle.protocol.specs.Moves.{weights_after}
use Rattle.protocol.specs.Counts.{no_counts, quieter}

-- for logs behind entries that left these weights and these counts: the weights are those of the settled log (i), and a tie goes to the office
-- with fewer entries in it (iii)
abbrev pub rule_from : List ℕ → List ℕ → Rule
rule_from weights counts = by_log (weights_after weights) (quieter counts)

-- of a frame with these founding weights
abbrev pub by_settled : List ℕ → Rule
by_settled founding = rule_from founding (no_counts 8)
