-- A forecast across C: its number, whether an entry is named, and the entry, 0 where none is. Assumes nothing.
use Rattle.std.specs.Prelude.{ℕ, Bool, true, false, Option, None, Some, Result}
use Rattle.refusals.specs.Refusals.{number_in}
use Rattle.refusals.specs.declared.Refusal.{Refusal}
use Rattle.forecast.specs.Forecast.{winner_in}
use Rattle.crossing.specs.declared.Foreseen.{Foreseen}

abbrev pub is_named : Option ℕ → Bool
is_named None = false
is_named (Some e) = true

abbrev pub entry_named : Option ℕ → ℕ
entry_named None = 0
entry_named (Some e) = e

abbrev pub foreseen : ℕ → Option ℕ → Foreseen
foreseen number winner = record { number = number; named = is_named winner; entry = entry_named winner }

unfoldable pub foreseen_of : Result (Option ℕ) Refusal → Foreseen
foreseen_of f = foreseen (number_in f) (winner_in f)
