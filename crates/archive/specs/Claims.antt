-- What request (xi) claims of the two calls. The theorems are in proofs/Claims.antt:
--     four-answers    (a b : List ℕ) → length a ≡ length b → FourAnswers a b
--     read_back       (r : Record) (words out : List ℕ) → (write_of r words out).number ≡ 0 → ReadBack r words out
-- Assumes nothing.
use Rattle.std.specs.Prelude.{◌≡◌, List, [], ◌⊎◌, ◌↔◌, ℕ, ◌*◌, ◌≤◌, get_or, take, drop}
use Rattle.protocol.specs.Counts.{count_of}
use Rattle.vectors.specs.Vectors.{vector_of}
use Rattle.versions.specs.Versions.{before, equal, after, beside, compared_to, counts_in}
use Rattle.frame.specs.declared.Record.{Record}
use Rattle.archive.specs.Writing.{start_of, versions, write_bytes}
use Rattle.archive.specs.Comparison.{compare_of}

-- each of a's counts is at most b's
abbrev pub EachLeq : List ℕ → List ℕ → Type 0
EachLeq a b = (k : ℕ) → count_of a k ≤ count_of b k

-- the answer is one of four, and each is given exactly when it should be: no two at once, and none left over
pub record FourAnswers (a b : List ℕ) : Type 0 where
  pub complete : (compared_to a b ≡ before) ⊎ ((compared_to a b ≡ equal) ⊎ ((compared_to a b ≡ after) ⊎ (compared_to a b ≡ beside)))
  pub comes-before : (compared_to a b ≡ before) ↔ (EachLeq a b × (EachLeq b a → ⊥))
  pub equals : (compared_to a b ≡ equal) ↔ (a ≡ b)
  pub comes-after : (compared_to a b ≡ after) ↔ (EachLeq b a × (EachLeq a b → ⊥))
  pub stands-beside : (compared_to a b ≡ beside) ↔ ((EachLeq a b → ⊥) × (EachLeq b a → ⊥))

-- the version at place i, 0 for the log, its vector, and the bytes of that in an output
abbrev pub version_at : Record → List ℕ → ℕ → List ℕ
version_at r words i = get_or (versions r words) i []

abbrev pub vector_at : Record → List ℕ → ℕ → List ℕ
vector_at r words i = vector_of (start_of r) (version_at r words i)

abbrev pub written_at : Record → List ℕ → List ℕ → ℕ → List ℕ
written_at r words out i = take (8 * r.n) (drop (8 * r.n * i) (write_bytes r words out))

-- each vector of a done write is read back, and answers "equal" for what it was written from
pub record ReadBack (r : Record) (words out : List ℕ) : Type 0 where
  pub says : (i : ℕ) → i ≤ r.n → counts_in r.n (written_at r words out i) ≡ vector_at r words i
  pub done : (i : ℕ) → i ≤ r.n → (compare_of r words (written_at r words out i)).number ≡ 0
  -- the answer for version j is how its vector stands to that of version i
  pub answers : (i j : ℕ) → i ≤ r.n → j ≤ r.n
      → get_or (compare_of r words (written_at r words out i)).answers j beside ≡ compared_to (vector_at r words j) (vector_at r words i)
  pub itself : (i : ℕ) → i ≤ r.n → get_or (compare_of r words (written_at r words out i)).answers i beside ≡ equal
