-- Vectors computed, of two offices: a log with one entry of office 0, a path with two entries of office 1 behind it, and a path with one more of
-- office 0; and the same where 3 entries of office 0 and 2^40 of office 1 are dropped. Two counts are a vector, of 1025 and of 2^64 - 1 too; one,
-- which has the bytes of two counts of 4 bytes, and three are none, nor are two with a byte more. Assumes nothing.
use mathlib.Core.Path.{◌≡◌, refl}
use mathlib.Core.Bool.{true, false}
use mathlib.Core.List.{List, [], ◌∷◌, ◌++◌}
use Prim.Native.Nat.{ℕ}
use Rattle.lists.specs.Tests.{both}
use Rattle.numbers.specs.Numbers.{be32, be64, bytes32, bytes64, run, run_at}
use Rattle.protocol.specs.Counts.{no_counts, counts_after}
use Rattle.protocol.specs.Entry.{value}
use Rattle.protocol.specs.Office.{Office}
use Rattle.vectors.specs.Vectors.{versions_bytes, versions_of}
use Rattle.versions.specs.Versions.{after, answers_to, at_most, before, beside, compared_to, counts_in, equal, is_vector, nine, stands}

abbrev office : Office
office = record { log = value 0 5 120 ∷ []; tails = (value 1 5 130 ∷ value 1 6 7 ∷ []) ∷ (value 0 5 121 ∷ []) ∷ [] }

-- the count's eight bytes, of a count below 65536, and of one that is so much above 2^40
abbrev count : ℕ → ℕ → List ℕ
count high low = 0 ∷ 0 ∷ 0 ∷ 0 ∷ 0 ∷ 0 ∷ high ∷ low ∷ []

abbrev above : ℕ → List ℕ
above low = 0 ∷ 0 ∷ 1 ∷ 0 ∷ 0 ∷ 0 ∷ 0 ∷ low ∷ []

-- what is kept of the dropped entries
abbrev kept : List ℕ
kept = 3 ∷ 1099511627776 ∷ []

pub written :
    (versions_bytes (no_counts 2) (versions_of 2 office) ≡ (count 0 1 ++ count 0 0) ++ (count 0 1 ++ count 0 2) ++ (count 0 2 ++ count 0 0)) ×
    (versions_bytes kept (versions_of 2 office) ≡ (count 0 4 ++ above 0) ++ (count 0 4 ++ above 2) ++ (count 0 5 ++ above 0))
unfolding versions_bytes run bytes64 bytes32 counts_after
written = (refl, refl)

pub compared :
    (nine (answers_to (no_counts 2) (counts_in 2 (count 0 1 ++ count 0 2)) (versions_of 2 office)) ≡ before ∷ equal ∷ beside ∷ beside ∷ beside ∷ beside ∷ beside ∷ beside ∷ beside ∷ []) ×
    ((nine (answers_to (no_counts 2) (counts_in 2 (count 0 1 ++ count 0 0)) (versions_of 2 office)) ≡ equal ∷ after ∷ after ∷ beside ∷ beside ∷ beside ∷ beside ∷ beside ∷ beside ∷ []) ×
    (nine (answers_to kept (counts_in 2 (count 0 4 ++ above 2)) (versions_of 2 office)) ≡ before ∷ equal ∷ beside ∷ beside ∷ beside ∷ beside ∷ beside ∷ beside ∷ beside ∷ []))
unfolding counts_after run_at be64 be32 compared_to at_most stands both
compared = (refl, (refl, refl))

pub vectors :
    (is_vector 2 (count 4 1 ++ count 0 0) ≡ true) × ((is_vector 2 ((255 ∷ 255 ∷ 255 ∷ 255 ∷ 255 ∷ 255 ∷ 255 ∷ 255 ∷ []) ++ count 0 0) ≡ true) × ((is_vector 2 (count 0 1) ≡ false) ×
    ((is_vector 2 (count 0 1 ++ count 0 1 ++ count 0 1) ≡ false) × (is_vector 2 (count 0 1 ++ count 0 1 ++ (0 ∷ [])) ≡ false))))
unfolding is_vector
vectors = (refl, (refl, (refl, (refl, refl))))
