-- Request (xi): "Read one vector to answer, for the log and then each of those paths, whether by counts it comes before, equals, comes after or
-- stands beside that vector"; (xiv) "Archive counts become 8 bytes and lose that limit" of 1024. Assumes nothing.
use Rattle.std.specs.Prelude.{ℕ, ◌*◌, Bool, true, false, List, [], ◌∷◌, map, Option, None, Some, eqb, leb, length}
use Rattle.std.specs.declared.cmp.Ordering.{Ordering}
use Rattle.std.specs.declared.cmp.Ordering.TheVariants.{Less, Equal, Greater}
use Rattle.lists.specs.Tests.{both}
use Rattle.lists.specs.Padded.{padded}
use Rattle.numbers.specs.Numbers.{be64, run_at}
use Rattle.vectors.specs.Vectors.{vector_of}

-- ── a vector read ──
-- the n counts that its bytes say
abbrev pub counts_in : ℕ → List ℕ → List ℕ
counts_in n s = run_at 8 be64 n s

-- "exactly n counts", of any size
unfoldable pub is_vector : ℕ → List ℕ → Bool
is_vector n s = eqb (length s) (8 * n)

-- ── two vectors ──
-- the four answers
abbrev pub before : ℕ
before = 0

abbrev pub equal : ℕ
equal = 1

abbrev pub after : ℕ
after = 2

abbrev pub beside : ℕ
beside = 3

-- the answer that an order gives: by counts, vectors that do not come one before the other have none
abbrev pub number_in : Option Ordering → ℕ
number_in (Some Less) = before
number_in (Some Equal) = equal
number_in (Some Greater) = after
number_in None = beside

-- each count of the first is at most the second's; both have as many
unfoldable pub at_most : List ℕ → List ℕ → Bool
at_most [] b = true
at_most (x ∷ a) [] = false
at_most (x ∷ a) (y ∷ b) = both (leb x y) (at_most a b)

-- how one stands to another, by whether its counts are at most the other's, and the other's at most its
unfoldable pub stands : Bool → Bool → ℕ
stands true true = equal
stands true false = before
stands false true = after
stands false false = beside

-- "whether by counts it comes before, equals, comes after or stands beside that vector": the vector a to the vector b
unfoldable pub compared_to : List ℕ → List ℕ → ℕ
compared_to a b = stands (at_most a b) (at_most b a)

-- ── the versions of an office ──
-- the answer for each version, counted from `start` on, to the vector v
abbrev pub answers_to : List ℕ → List ℕ → List (List ℕ) → List ℕ
answers_to start v ps = map (λ p. compared_to (vector_of start p) v) ps

-- nine answers, beside past the last version
abbrev pub nine : List ℕ → List ℕ
nine = padded 9 beside
