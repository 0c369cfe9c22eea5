-- Request (xi): "The archive stores versions as source document 001 does, a count of entries per office." The versions of an office, their
-- vectors, and the bytes of these. Of an office that has dropped entries (xiv) the versions are the parts that it still holds, and counting starts
-- from the kept counts. Assumes nothing.
use Rattle.std.specs.Prelude.{ℕ, ◌≤◌, true, List, [], ◌∷◌, ◌++◌, map, ◌≡◌, length, take}
use Rattle.lists.specs.Tests.{all_b}
use Rattle.numbers.specs.Numbers.{bytes64, run}
use Rattle.protocol.specs.Counts.{count_of, counts_after}
use Rattle.protocol.specs.Office.{Office}
use Rattle.ballots.specs.Ballots.{ballot_shape, tail_of}
use Rattle.ballots.specs.declared.Ballot.{Ballot}

-- the vector of a log or a path: for each office, rising, how many of its entries are that office's, the dropped ones included. `start` has one
-- count for each office: those of the entries dropped before p
abbrev pub vector_of : List ℕ → List ℕ → List ℕ
vector_of start p = counts_after start p

-- "n counts .., most significant byte first", and (xiv) "Archive counts become 8 bytes"
abbrev pub vector_bytes : List ℕ → List ℕ → List ℕ
vector_bytes start p = run bytes64 (vector_of start p)

-- an office's versions: "the settled log and then .. all n offices' paths, offices rising". The path of an empty ballot is the log
abbrev pub versions_of : ℕ → Office → List (List ℕ)
versions_of n o = o.log ∷ map (λ t. o.log ++ t) (take n o.tails)

-- the bytes of their vectors, one vector behind the other
unfoldable pub versions_bytes : List ℕ → List (List ℕ) → List ℕ
versions_bytes start [] = []
versions_bytes start (p ∷ ps) = vector_bytes start p ++ versions_bytes start ps

-- the versions in a settled log and eight ballots
abbrev pub versions_in : ℕ → List ℕ → List Ballot → List (List ℕ)
versions_in n log ballots = versions_of n (record { log = log; tails = map tail_of ballots })

-- each count is at most the number m
abbrev pub EachAtMost : ℕ → List ℕ → Type 0
EachAtMost m counts = (k : ℕ) → count_of counts k ≤ m

-- the most that the kept count of an office may be: `length_limit`, as many entries as a log may have
abbrev pub kept_count_limit : ℕ
kept_count_limit = 9223372036854775808

-- what the walks over the ballots ask of their caller: every sound record has it
pub record Countable (n : ℕ) (start log : List ℕ) (ballots : List Ballot) : Type 0 where
  pub some : 1 ≤ n
  pub most : n ≤ 8
  pub offices : n ≤ length ballots
  pub kept : EachAtMost kept_count_limit start
  pub few : length log ≤ 1024
  pub shapes : all_b ballot_shape ballots ≡ true
