-- The weights of households by line: which lines are met, and the sum under each. A weight of 0 makes its line met. Assumes nothing.
use Rattle.std.specs.Prelude.{Option, Some, None, Bool, true, false, ℕ, ◌+◌, get_or, set, replicate}
use mathlib.Core.List.{List, foldl}
use Rattle.lists.specs.Tests.{pick}
use Rattle.households.specs.Households.{Household, are_households, households_in}
use Rattle.households.specs.declared.Pools.{Pools}

-- the lines met, one household more
abbrev pub meet : List Bool → Household → List Bool
meet met h = set met h.line true

-- the sums, one household more
abbrev pub add_to : List ℕ → Household → List ℕ
add_to totals h = set totals h.line (get_or totals h.line 0 + h.weight)

-- from what stood before
abbrev pub met_after : List Bool → List Household → List Bool
met_after met hs = foldl meet met hs

abbrev pub totals_after : List ℕ → List Household → List ℕ
totals_after totals hs = foldl add_to totals hs

-- no line is met
abbrev pub none_met : List Bool
none_met = replicate 64 false

abbrev pub no_totals : List ℕ
no_totals = replicate 64 0

unfoldable pub pools_of : List ℕ → Option Pools
pools_of s = pick (are_households s) (Some (record { met = met_after none_met (households_in s); totals = totals_after no_totals (households_in s) })) None
