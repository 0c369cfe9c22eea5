-- Request (xiv): what is kept of the entries that were dropped from the front of a log, "its effect on codes, present weights and counts per
-- office", and its limits. Assumes nothing.
use Rattle.std.specs.Prelude.{ℕ, ◌+◌, ◌<◌, ◌≤◌, ◌≡◌, Bool, true, List, eqb, leb, length, drop}
use Rattle.lists.specs.Tests.{both, pick, all_b}
use Rattle.protocol.specs.Counts.{no_counts, count_of, counts_after}
use Rattle.protocol.specs.Limits.{is_weight, total}
use Rattle.protocol.specs.SettledRule.{rule_from}
use Rattle.protocol.specs.Vote.{Rule}
use Rattle.summary.specs.Summary.{start_with, summary_after, same_summary}
use Rattle.summary.specs.declared.Summary.{Summary}
use Rattle.kept.specs.declared.Kept.{Kept}

-- of no entries, in a frame with these founding weights
abbrev pub kept_nothing : List ℕ → Kept
kept_nothing founding = record { dropped = 0; summary = start_with founding; counts = no_counts 8 }

-- with the entries of a log dropped too
abbrev pub kept_after : Kept → List ℕ → Kept
kept_after k log = record { dropped = k.dropped + length log; summary = summary_after k.summary log; counts = counts_after k.counts log }

-- the election rule for the log behind those entries
abbrev pub rule_behind : Kept → Rule
rule_behind k = rule_from k.summary.present k.counts

-- "all kept values within their limits": the number that is stored for a line, 0 or a code + 1
unfoldable pub is_kept_code : ℕ → Bool
is_kept_code c = leb c 10000

-- "kept weights [add up] to the total"
unfoldable pub weights_kept : ℕ → List ℕ → List ℕ → Bool
weights_kept n founding ws = both (eqb (length ws) 8) (both (all_b is_weight ws) (both (all_b (eqb 0) (drop n ws)) (eqb (total ws) (total founding))))

unfoldable pub codes_kept : List ℕ → Bool
codes_kept codes = both (eqb (length codes) 64) (all_b is_kept_code codes)

-- "Kept counts add up to the dropped count": as numbers of any size
unfoldable pub counts_kept : ℕ → ℕ → List ℕ → Bool
counts_kept n dropped counts = both (eqb (length counts) 8) (both (all_b (eqb 0) (drop n counts)) (eqb (total counts) dropped))

-- "with nothing dropped they are the founding weights, and no code is kept"
unfoldable pub nothing_kept : List ℕ → ℕ → Summary → Bool
nothing_kept founding dropped summary = pick (eqb dropped 0) (same_summary summary (start_with founding)) true

-- what a sound record of n offices with these founding weights may keep
unfoldable pub kept_fine : ℕ → List ℕ → Kept → Bool
kept_fine n founding kept =
    both (weights_kept n founding kept.summary.present)
    (both (codes_kept kept.summary.codes)
    (both (counts_kept n kept.dropped kept.counts) (nothing_kept founding kept.dropped kept.summary)))

-- the same as facts by name
pub record KeptFacts (n : ℕ) (founding : List ℕ) (kept : Kept) : Type 0 where
  pub eight : length kept.summary.present ≡ 8
  pub weights : all_b is_weight kept.summary.present ≡ true
  pub rest : all_b (eqb 0) (drop n kept.summary.present) ≡ true
  pub same_total : total kept.summary.present ≡ total founding
  pub lines : length kept.summary.codes ≡ 64
  pub codes : all_b is_kept_code kept.summary.codes ≡ true
  pub offices : length kept.counts ≡ 8
  pub rest-counts : all_b (eqb 0) (drop n kept.counts) ≡ true
  pub add-up : total kept.counts ≡ kept.dropped
  pub nothing : kept.dropped ≡ 0 → kept.summary ≡ start_with founding

-- what dropping so many entries more asks: they are counted in 32 bits, no count is past the dropped count, and that fits 64 bits with them
pub record Roomy (kept : Kept) (len : ℕ) : Type 0 where
  pub short : len < 4294967296
  pub within : (k : ℕ) → count_of kept.counts k ≤ kept.dropped
  pub fits : kept.dropped + len < 18446744073709551616
