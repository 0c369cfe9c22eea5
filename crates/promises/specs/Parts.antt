-- Request (v), a fair part of the unsettled tail: what is claimed of every sound record. The theorems are in proofs/Parts:
--     within-parts      (r : Record) (words : List ℕ) → sound_b r words ≡ true → WithinParts r words
--     never-4           (r : Record) (words : List ℕ) (line code : ℕ) → issue_number r words line code ≡ 4 → ⊥
--     full-has-part     (r : Record) (words : List ℕ) → sound_b r words ≡ true → FullHasPart r words
--     stopped-by-5      (r : Record) (words : List ℕ) → sound_b r words ≡ true → StoppedBy5 r words
-- That a done issue, take, elect or fold leaves a sound record, and so tails within their parts, is `issue-sound` (issuing/proofs), `take-sound`
-- (taking/proofs), `elect-sound` (frame/proofs) and `fold-sound` (folding/proofs); that a message that a sound record sends is read is `send-read`
-- (sending/proofs). Assumes nothing.
use Rattle.std.specs.Prelude.{◌≡◌, true, List, ℕ, ◌+◌, ◌<◌, ◌≤◌, ◌/◌, eqb, length}
use Rattle.lists.specs.Tests.{pick}
use Rattle.protocol.specs.Entry.{proper}
use Rattle.protocol.specs.Counts.{count_in}
use Rattle.protocol.specs.Limits.{length_limit}
use Rattle.protocol.specs.Office.{tail}
use Rattle.frame.specs.State.{held_length, held_by}
use Rattle.issuing.specs.Issuing.{issue_number}
use Rattle.frame.specs.declared.Record.{Record}

-- "In any tail at most 32 / n entries, rounded down, may come from one office": in the tail of office k those of office j
abbrev pub WithinParts : Record → List ℕ → Type 0
WithinParts r words = (k j : ℕ) → j < r.n → count_in j (tail (held_by r words) k) ≤ 32 / r.n

-- document 01's number 4 was given where the own tail is 32 long: there the own office has its part, so that 11 is given if 3 and 5 are not
abbrev pub FullHasPart : Record → List ℕ → Type 0
FullHasPart r words = length (tail (held_by r words) r.own) ≡ 32 → count_in r.own (tail (held_by r words) r.own) ≡ 32 / r.n

-- "An office below its part is never stopped by the others' edits, save by 5": its issue of an entry that it may issue is refused with 5, where the
-- undropped log and its own tail are 1024 long, or (xiv) 2^63 with the dropped entries, or done, whatever the ballots hold
abbrev pub StoppedBy5 : Record → List ℕ → Type 0
StoppedBy5 r words = (line code : ℕ) → proper r.n line code ≡ true → count_in r.own (tail (held_by r words) r.own) < 32 / r.n
    → issue_number r words line code
    ≡ pick (eqb (held_length r + length (tail (held_by r words) r.own)) 1024) 5 (pick (eqb (r.settled + length (tail (held_by r words) r.own)) length_limit) 5 0)
