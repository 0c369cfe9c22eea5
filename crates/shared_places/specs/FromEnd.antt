-- Request (viii): "Operators check disputed messages on paper from the last shared place back to the first, and take is to compare the logs so."
-- Places count from 0; a place is shared where both logs have an entry there. Assumes nothing.
use Rattle.std.specs.Prelude.{◌≡◌, List, Bool, true, false, ℕ, zero, suc, ◌+◌, ◌<◌, min, eqb, length, get_or}
use Rattle.lists.specs.Tests.{pick}
use Rattle.shared_places.specs.declared.Compared.{Compared}

-- how many places are shared
abbrev pub shared : List ℕ → List ℕ → ℕ
shared a b = min (length a) (length b)

abbrev pub same_at : ℕ → List ℕ → List ℕ → Bool
same_at i a b = eqb (get_or a i 0) (get_or b i 0)

-- of the places below i, from the last back: whether a difference is met, and how many are looked at until then
unfoldable pub differ_below : ℕ → List ℕ → List ℕ → Bool
differ_below zero a b = false
differ_below (suc i) a b = pick (same_at i a b) (differ_below i a b) true

unfoldable pub places_below : ℕ → List ℕ → List ℕ → ℕ
places_below zero a b = 0
places_below (suc i) a b = suc (pick (same_at i a b) (places_below i a b) 0)

-- a shared place differs: take's number 10
abbrev pub differ : List ℕ → List ℕ → Bool
differ a b = differ_below (shared a b) a b

-- "how many places that needed: up to and including the first difference met, every shared place if none differs"
abbrev pub places_from_end : List ℕ → List ℕ → ℕ
places_from_end a b = places_below (shared a b) a b

-- both together
abbrev pub compared_below : ℕ → List ℕ → List ℕ → Compared
compared_below i a b = record { differ = differ_below i a b; places = places_below i a b }

abbrev pub compared_of : List ℕ → List ℕ → Compared
compared_of a b = compared_below (shared a b) a b

-- a take with this number has compared the logs: it is done, or 10; "0 on any refusal but 10"
unfoldable pub compares : ℕ → Bool
compares number = pick (eqb number 0) true (eqb number 10)

-- "the first difference met" below i is at `place`, and the places behind it were looked at
abbrev pub FirstMet : ℕ → List ℕ → List ℕ → Type 0
FirstMet i a b = (place : ℕ) × (place + places_below i a b ≡ i) × (same_at place a b ≡ false) × ((j : ℕ) → place < j → j < i → same_at j a b ≡ true)
