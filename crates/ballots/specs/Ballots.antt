-- A ballot as cells and the tail that it holds; when ballots are within document 01's limits. Assumes nothing.
use Rattle.std.specs.Prelude.{ℕ, ◌+◌, Bool, List, [], map, ltb, leb, eqb, length, take, drop, set, replicate}
use Rattle.lists.specs.Tests.{both, pick, all_b}
use Rattle.lists.specs.Padded.{padded, in_front}
use Rattle.protocol.specs.Office.{Office}
use Rattle.protocol.specs.Limits.{tail_fine, tails_fine}
use Rattle.ballots.specs.declared.Ballot.{Ballot}

-- the tail that a ballot holds
abbrev pub tail_of : Ballot → List ℕ
tail_of b = take b.len b.cells

-- the ballot that holds a tail: "unused cells are zero"
abbrev pub ballot_of : List ℕ → Ballot
ballot_of t = record { len = length t; cells = padded 32 0 t }

-- "length 0 means none": no entries, and all cells zero
abbrev pub no_ballot : Ballot
no_ballot = record { len = 0; cells = replicate 32 0 }

-- what an array of ballots gives past its end
abbrev pub off_end : Ballot
off_end = record { len = 0; cells = [] }

abbrev pub is_no_ballot : Ballot → Bool
is_no_ballot b = eqb 0 b.len

-- the ballot is `no_ballot`: no entries, and 32 cells that are all zero
unfoldable pub empty_ballot : Ballot → Bool
empty_ballot b = both (is_no_ballot b) (both (eqb (length b.cells) 32) (all_b (eqb 0) b.cells))

-- 32 cells that hold a tail: "unused cells are zero"
unfoldable pub ballot_shape : Ballot → Bool
ballot_shape b = both (eqb (length b.cells) 32) (both (leb b.len 32) (all_b (eqb 0) (drop b.len b.cells)))

-- a ballot of a sound record of n offices, beside a settled log of which so many entries are held
unfoldable pub ballot_fine : ℕ → ℕ → Ballot → Bool
ballot_fine n held b = both (ballot_shape b) (tail_fine n held (tail_of b))

-- eight ballots of such a record: each in shape, and the tails that they hold within their limits
unfoldable pub ballots_fine : ℕ → ℕ → List Ballot → Bool
ballots_fine n held bs = both (all_b ballot_shape bs) (tails_fine n held (map tail_of bs))

-- the office's state in a log's words and eight ballots: "its first settled-length words are the settled log", (xiv) its undropped part
abbrev pub office_in : List ℕ → ℕ → List Ballot → Office
office_in words held bs = record { log = take held words; tails = map tail_of bs }

-- a log's words with a settled log in front; "the others .. keep their contents"
abbrev pub words_with : List ℕ → List ℕ → List ℕ
words_with log words = in_front log words

-- the ballot with one entry more; a full one is unchanged
unfoldable pub pushed : Ballot → ℕ → Ballot
pushed b e = pick (ltb b.len 32) (record { len = b.len + 1; cells = set b.cells b.len e }) b
