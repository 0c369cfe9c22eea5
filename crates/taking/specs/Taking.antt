-- "Take works on an accepted message", and on no other bytes. Assumes nothing.
use Rattle.std.specs.Prelude.{ℕ, Bool, not, List, eqb, take}
use Rattle.std.specs.Prelude.{Option, None, Some}
use Rattle.lists.specs.Tests.{both, pick, same}
use Rattle.protocol.specs.Folding as F
use Rattle.shared_places.specs.FromEnd.{compares, places_from_end}
use Rattle.spelling.specs.Content.{Content, as_packet}
use Rattle.spelling.specs.Reading.{reading}
use Rattle.frame.specs.State.{folded_by, holding}
use Rattle.ballots.specs.Ballots.{words_with}
use Rattle.frame.specs.Soundness.{sound_b}
use Rattle.frame.specs.declared.Record.{Record}
use Rattle.taking.specs.declared.Taken.{Taken}

-- the message has the record's n and its n weights
unfoldable pub same_offices : Record → Content → Bool
same_offices r c = both (eqb c.n r.n) (same c.weights (take r.n r.weights))

-- what follows the reading of bytes: `a` where they are no message, `go c` where they are one that says c
abbrev pub on_reading : {A : Type 0} → Option Content → A → (Content → A) → A
on_reading None a go = a
on_reading (Some c) a go = go c

-- 1: "record unsound, or log below 1024 words"; 7: "message not of the layout, .."; 8: "message's n or weights differ from the record's";
-- 9, 16, 17 and 10 are the protocol's
unfoldable pub take_number : Record → List ℕ → List ℕ → ℕ
take_number r words s =
    pick (not (sound_b r words)) 1
    (on_reading (reading s) 7 (λ c.
    pick (not (same_offices r c)) 8
    (F.refuse_folded_take r.own (as_packet c) (folded_by r words))))

-- the office after an accepted message
unfoldable pub taken_office : Record → List ℕ → List ℕ → F.FoldedOffice
taken_office r words s = on_reading (reading s) (folded_by r words) (λ c. F.with_folded_take r.own (as_packet c) (folded_by r words))

-- the places that a comparison of the two logs needs, on the part that both still have
abbrev pub shared_places : F.Packet → F.FoldedOffice → ℕ
shared_places m f = places_from_end (F.caught_up m f).log (F.from_there m f).state.log

-- (viii) "how many places that needed: up to and including the first difference met, every shared place if none differs, 0 on any refusal but 10"
unfoldable pub take_places : Record → List ℕ → List ℕ → ℕ
take_places r words s = on_reading (reading s) 0 (λ c. pick (compares (take_number r words s)) (shared_places (as_packet c) (folded_by r words)) 0)

-- the record as it was where it is refused
unfoldable pub take_of : Record → List ℕ → List ℕ → Taken
take_of r words s = record {
  number = take_number r words s;
  places = take_places r words s;
  «record» = pick (eqb (take_number r words s) 0) (holding r words (taken_office r words s)) r;
}

-- the log's words after take
unfoldable pub take_words : Record → List ℕ → List ℕ → List ℕ
take_words r words s = pick (eqb (take_number r words s) 0) (words_with (taken_office r words s).held.log words) words
