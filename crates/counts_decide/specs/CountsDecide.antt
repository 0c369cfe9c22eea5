-- Request (xi): "Archivists need to know that this loses nothing: in any office of the world of document 01, for two paths among its log and
-- ballots, one is a beginning of the other exactly when each of its counts is at most the other's." Request (xiv): its log and paths begin with what it
-- has dropped. The theorems:
--     lossless          (n : ℕ) (weights : List ℕ) (start : World) → Founded n weights start
--                       → (cs : List Call) → Lossless n (after start cs)                          proofs/InWorld.antt
--     across-offices    of two offices it is false, by a list of calls that is computed           worked_histories, proofs/AcrossOffices.antt
-- Assumes nothing.
use Rattle.std.specs.Prelude.{◌≡◌, List, ◌++◌, ◌⊎◌, ◌↔◌, ℕ, ◌≤◌, ◌<◌, get_or}
use Rattle.std.specs.Prelude.{Some}
use Rattle.protocol.specs.Beginning.{◌⊑◌, ◌⊏◌}
use Rattle.protocol.specs.Counts.{count_in}
use Rattle.protocol.specs.Office.{Office, path}
use Rattle.versions.specs.Versions.{before, equal, after, beside}
use Rattle.archive.specs.Writing.{write_of}
use Rattle.archive.specs.Comparison.{compare_of}
use Rattle.archive.specs.Claims.{version_at, written_at}
use Rattle.agreement.specs.World.{Replica, World, replica_at}
use Rattle.agreement.specs.Demand.{says}

-- "each of its counts is at most the other's": p's and q's, of offices 0 to n−1
abbrev pub counts_leq : ℕ → List ℕ → List ℕ → Type 0
counts_leq n p q = (office : ℕ) → office < n → count_in office p ≤ count_in office q

-- p is "among its log and ballots"; the path of an empty ballot is the log
abbrev pub Holds : Office → List ℕ → Type 0
Holds o p = (p ≡ o.log) ⊎ ((j : ℕ) × (p ≡ path o j))

-- of office k of a world
pub record HeldAt (w : World) (k : ℕ) (p : List ℕ) : Type 0 where
  pub office : Replica
  pub there : replica_at w k ≡ Some office
  pub holds : Holds (says office) p

-- a version that an office holds, behind the entries that it has dropped
abbrev pub whole_at : Replica → ℕ → List ℕ
whole_at d i = d.former ++ version_at d.held d.words i

-- the answer x for a version p to the vector of a version q says how the two stand as lists of entries
pub record Tells (p q : List ℕ) (x : ℕ) : Type 0 where
  pub comes-before : (x ≡ before) ↔ (p ⊏ q)
  pub equals : (x ≡ equal) ↔ (p ≡ q)
  pub comes-after : (x ≡ after) ↔ (q ⊏ p)
  pub stands-beside : (x ≡ beside) ↔ ((p ⊑ q → ⊥) × (q ⊑ p → ⊥))

-- the answer for version j, 0 for the log, to the vector of version i in an output that the office has written
abbrev pub answer_at : Replica → List ℕ → ℕ → ℕ → ℕ
answer_at d out i j = get_or (compare_of d.held d.words (written_at d.held d.words out i)).answers j beside

pub record Lossless (n : ℕ) (w : World) : Type 0 where
  -- "in any office .., for two paths among its log and ballots, one is a beginning of the other exactly when each of its counts is at most the other's"
  pub decides : (k : ℕ) (p q : List ℕ) → HeldAt w k p → HeldAt w k q → (p ⊑ q) ↔ counts_leq n p q
  -- so what an office's vectors answer is how its log and its ballots' paths stand to each other
  pub tells : (k : ℕ) (d : Replica) → replica_at w k ≡ Some d → (out : List ℕ) → (write_of d.held d.words out).number ≡ 0 → (i j : ℕ) → i ≤ n → j ≤ n
      → Tells (whole_at d j) (whole_at d i) (answer_at d out i j)
