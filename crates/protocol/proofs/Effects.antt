-- What an office keeps of the entries that it drops: "its effect on codes, present weights and counts per office is kept". Each of the three
-- follows from a log entry by entry, so what the dropped entries made of it is where the held ones start from. Assumes nothing.
use mathlib.Core.List.{List}
use Prim.Native.Nat.{ℕ}
use Rattle.protocol.specs.Vote.{Rule}
use Rattle.protocol.specs.Moves.{weights_after}
use Rattle.protocol.specs.Counts.{no_counts, counts_after}
use Rattle.protocol.specs.Codes.{no_codes, codes_after}
use Rattle.protocol.specs.SettledRule.{rule_from}

pub record Effect : Type 0 where
  pub weights : List ℕ
  pub codes : List ℕ
  pub counts : List ℕ

-- "with nothing dropped they are the founding weights, and no code is kept"
abbrev pub no_effect : List ℕ → Effect
no_effect founding = record { weights = founding; codes = no_codes; counts = no_counts 8 }

-- after the entries of a list
abbrev pub effect_after : Effect → List ℕ → Effect
effect_after x p = record { weights = weights_after x.weights p; codes = codes_after x.codes p; counts = counts_after x.counts p }

-- what some entries of a frame with these founding weights leave
abbrev pub effect_of : List ℕ → List ℕ → Effect
effect_of founding p = effect_after (no_effect founding) p

-- the election rule for logs behind them
abbrev pub rule_behind : Effect → Rule
rule_behind x = rule_from x.weights x.counts
