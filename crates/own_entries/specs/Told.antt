-- What is told of an office's own tail t: of "the own office's entries that were pending, how many settled, which are pending still, and which are
-- lost (written to a lent buffer, in their order; 6 if it is too short)". l and p are the settled log and the own path after the call, from the place
-- on where t began. Assumes nothing.
use Rattle.std.specs.Prelude.{Bool, List, ℕ, Result, Ok, Err, leb, length, drop}
use Rattle.lists.specs.Tests.{pick}
use Rattle.lists.specs.Padded.{in_front}
use Rattle.own_entries.specs.Parts.{settled_part, pending_part, lost_part, entries_of}
use Rattle.refusals.specs.declared.Refusal.{Refusal}
use Rattle.refusals.specs.Refusals.{number_of}
use Rattle.own_entries.specs.declared.Told.{Told}

-- the number, 0 when it is done, and the three counts
pub record Telling : Type 0 where
  pub number : ℕ
  pub settled : ℕ
  pub pending : ℕ
  pub lost : ℕ

-- the own entries that did not settle: those pending still, and behind them those lost (law `rest-parts`)
abbrev pub rest_of : ℕ → List ℕ → List ℕ → List ℕ
rest_of own t l = entries_of own (drop (length (settled_part t l)) t)

-- the buffer has room for them
unfoldable pub has_room : ℕ → List ℕ → List ℕ → List ℕ → Bool
has_room own t l rest = leb (length (rest_of own t l)) (length rest)

-- how many there are of each
abbrev pub told_done : ℕ → List ℕ → List ℕ → List ℕ → Telling
told_done own t l p = record {
  number = 0;
  settled = length (entries_of own (settled_part t l));
  pending = length (entries_of own (pending_part t l p));
  lost = length (entries_of own (lost_part t p));
}

-- "what is refused answers zeros"
abbrev pub told_refused : ℕ → Telling
told_refused number = record { number = number; settled = 0; pending = 0; lost = 0 }

-- what an answer tells
abbrev pub telling_of : Result Told Refusal → Telling
telling_of (Ok told) = record { number = 0; settled = told.settled; pending = told.pending; lost = told.lost }
telling_of (Err refusal) = told_refused (number_of refusal)

unfoldable pub told_of : ℕ → List ℕ → List ℕ → List ℕ → List ℕ → Telling
told_of own t l p rest = pick (has_room own t l rest) (told_done own t l p) (told_refused 6)

-- the buffer afterwards: later words keep their contents, and all of them where it is refused
unfoldable pub told_words : ℕ → List ℕ → List ℕ → List ℕ → List ℕ
told_words own t l rest = pick (has_room own t l rest) (in_front (rest_of own t l) rest) rest
