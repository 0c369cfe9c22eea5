-- Request (x), in the world of demand 3: "the frame as it stood after the first p settled entries, for up to 64 lines together". Request (xiv): "every
-- settled log .. that demand 3 speaks of .. begins with what its office had dropped by then", and "a p below the dropped count is 13; its walk stops at
-- that part and uses the kept codes, so it reads p less the dropped count where no undropped run has every named line". The theorem is
-- `earlier-frames` in proofs/EarlierFrames.antt, of every world that is `Founded`. Assumes nothing.
use Rattle.std.specs.Prelude.{◌≡◌, List, ◌++◌, ℕ, ◌-◌, ◌≤◌, ◌<◌, min, length, get_or, take}
use Rattle.std.specs.Prelude.{Some}
use Rattle.protocol.specs.Codes.{cell}
use Rattle.protocol.specs.Frames.{last_edit}
use Rattle.runs.specs.Runs.{Named, shortest_run}
use Rattle.earlier.specs.Earlier.{earlier_of}
use Rattle.earlier.specs.declared.Earlier.{Earlier}
use Rattle.agreement.specs.World.{Replica, World, Call, replica_at, after}
use Rattle.agreement.specs.Demand.{says}

-- what an office answers
abbrev pub answer : Replica → ℕ → List ℕ → Earlier
answer d p lines = earlier_of d.held d.words p lines

-- "the first p settled entries", dropped entries included
abbrev pub first : Replica → ℕ → List ℕ
first d p = take p (says d).log

-- p is not below the dropped count, and not above the settled length
abbrev pub Within : Replica → ℕ → Type 0
Within d p = (length d.former ≤ p) × (p ≤ length (says d).log)

-- an answer that is done
pub record Answered (d : Replica) (p : ℕ) (lines : List ℕ) : Type 0 where
  pub within : Within d p
  -- "the frame as it stood": at the place of each line named its last edit in the first p entries, as it is stored, whether or not it was dropped
  pub shows : (i : ℕ) → i < length lines → get_or (answer d p lines).edits i 0 ≡ cell (last_edit (get_or lines i 0) (first d p))
  -- no edit yet past the lines
  pub past : (i : ℕ) → length lines ≤ i → get_or (answer d p lines).edits i 0 ≡ 0
  -- the words read are "the length of the shortest run ending at p that has an edit for each named line, or p if no run has", of the settled log with
  -- its dropped entries, and "p less the dropped count" where that is less: so where that run has no dropped entry it is the run's length
  pub read : (answer d p lines).words ≡ min (p - length d.former) (shortest_run lines (first d p))

pub record EarlierFrames (start : World) : Type 0 where
  -- of every office, after every list of calls
  pub answered : (cs : List Call) (k : ℕ) (d : Replica) → replica_at (after start cs) k ≡ Some d
      → (p : ℕ) (lines : List ℕ) → (answer d p lines).number ≡ 0 → Answered d p lines
  -- it is done for every such p and up to 64 lines of the frame
  pub done : (cs : List Call) (k : ℕ) (d : Replica) → replica_at (after start cs) k ≡ Some d
      → (p : ℕ) (lines : List ℕ) → Within d p → Named lines → (answer d p lines).number ≡ 0
  -- two offices, at whatever moments of one list of calls, answer alike of a p that both have, whatever each has dropped by then: the number and the
  -- edits. The words read may differ, by what is dropped
  pub alike : (cs a a' b b' : List Call) → a ++ a' ≡ cs → b ++ b' ≡ cs
      → (j k : ℕ) (d e : Replica) → replica_at (after start a) j ≡ Some d → replica_at (after start b) k ≡ Some e
      → (p : ℕ) (lines : List ℕ) → Within d p → Within e p
      → ((answer d p lines).number ≡ (answer e p lines).number) × ((answer d p lines).edits ≡ (answer e p lines).edits)
  -- no office's answer is refused with 1
  pub sound : (cs : List Call) (k : ℕ) (d : Replica) → replica_at (after start cs) k ≡ Some d
      → (p : ℕ) (lines : List ℕ) → (answer d p lines).number ≡ 1 → ⊥
