-- Request (vii), in the world of demand 3: "two offices with equal settled logs print equal sheets of the same households", (xiv) "dropped entries
-- included". The theorem is `equal-sheets` in proofs/EqualSheets.antt. Assumes nothing.
use Rattle.std.specs.Prelude.{◌≡◌, List, ℕ, length}
use Rattle.std.specs.Prelude.{Some}
use Rattle.sheet.specs.Sheet.{sheet_of}
use Rattle.sheet.specs.declared.Sheet.{Sheet}
use Rattle.agreement.specs.World.{Replica, World, Call, replica_at, after}
use Rattle.agreement.specs.Demand.{says}

-- the sheet that an office prints of the households that the bytes say
abbrev pub printed : Replica → List ℕ → Sheet
printed d s = sheet_of d.held d.words s

pub record EqualSheets (start : World) : Type 0 where
  -- of any two offices after any two lists of calls: so of two offices at one moment, and at two, whatever each of them has dropped
  pub equal : (cs ds : List Call) (j k : ℕ) (d e : Replica) → replica_at (after start cs) j ≡ Some d → replica_at (after start ds) k ≡ Some e
      → (says d).log ≡ (says e).log → (s : List ℕ) → printed d s ≡ printed e s
  -- at one moment it is enough that the settled logs are as long
  pub as_long : (cs : List Call) (j k : ℕ) (d e : Replica) → replica_at (after start cs) j ≡ Some d → replica_at (after start cs) k ≡ Some e
      → length (says d).log ≡ length (says e).log → (s : List ℕ) → printed d s ≡ printed e s
  -- no office's sheet is refused with 1
  pub sound : (cs : List Call) (k : ℕ) (d : Replica) → replica_at (after start cs) k ≡ Some d → (s : List ℕ) → (printed d s).number ≡ 1 → ⊥
