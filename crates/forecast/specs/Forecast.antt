-- Request (xii): "Given a sound record's ballots, name the entry that would win the first step whichever weights within the bounds are chosen, or
-- say that none would." What is named is computed here, by the worst choice for each entry; that this is what the request says is claimed in
-- `Exact`. Assumes nothing.
use Rattle.std.specs.Prelude.{ℕ, List, take}
use Rattle.std.specs.Prelude.{Option, None, Result, Ok, Err}
use Rattle.lists.specs.Tests.{pick}
use Rattle.protocol.specs.Office.{votes}
use Rattle.bounds.specs.Bounds.{fits, sure_winner}
use Rattle.frame.specs.State.{held_by}
use Rattle.frame.specs.Soundness.{sound_b}
use Rattle.frame.specs.Electing.{tie_order}
use Rattle.frame.specs.declared.Record.{Record}
use Rattle.refusals.specs.declared.Refusal.{Refusal}
use Rattle.refusals.specs.declared.Refusal.TheVariants.{Unsound, NoWeights}

-- "Bounds from place n on aren't looked at"
abbrev pub bounds_of : Record → List ℕ → List ℕ
bounds_of r cells = take r.n cells

-- the entry that is named, if any, "with the tie order of its day"
abbrev pub named_of : Record → List ℕ → List ℕ → List ℕ → Option ℕ
named_of r words lowest highest = sure_winner (bounds_of r lowest) (bounds_of r highest) (tie_order r words) (votes (held_by r words))

-- 1: "record unsound, or log below 1024 words"; "15 when an earlier lowest exceeds its highest, after number 1"
unfoldable pub forecast_number : Record → List ℕ → List ℕ → List ℕ → ℕ
forecast_number r words lowest highest = pick (sound_b r words) (pick (fits (bounds_of r lowest) (bounds_of r highest)) 0 15) 1

-- the answer
unfoldable pub forecast_of : Record → List ℕ → List ℕ → List ℕ → Result (Option ℕ) Refusal
forecast_of r words lowest highest = pick (sound_b r words) (pick (fits (bounds_of r lowest) (bounds_of r highest)) (Ok (named_of r words lowest highest)) (Err NoWeights)) (Err Unsound)

-- the entry that an answer names, if any: "a refusal names none"
abbrev pub winner_in : Result (Option ℕ) Refusal → Option ℕ
winner_in (Ok w) = w
winner_in (Err x) = None
