-- Request (iii): how many entries each office has, and the order in which ties go by it. Counts follow from a start and the entries of a log.
-- A move of weight is an entry like another. Assumes nothing.
use mathlib.Core.List.{List, [], ◌∷◌, foldl}
use Rattle.std.specs.Prelude.{Bool, ◌&&◌, ◌||◌, cond, ℕ, ◌+◌, eqb, ltb, get_or, set, replicate}
use Rattle.protocol.specs.Entry.{office_of}

-- the office's entries in a log or a tail
unfoldable pub count_in : ℕ → List ℕ → ℕ
count_in office [] = 0
count_in office (e ∷ l) = cond (eqb (office_of e) office) 1 0 + count_in office l

-- n offices with no entries
abbrev pub no_counts : ℕ → List ℕ
no_counts n = replicate n 0

abbrev pub count_of : List ℕ → ℕ → ℕ
count_of counts k = get_or counts k 0

-- entry e is settled: its office has one more. There is no place for an office beyond the last, so its entries are not counted
abbrev pub counted : List ℕ → ℕ → List ℕ
counted counts e = set counts (office_of e) (count_of counts (office_of e) + 1)

-- the counts, one for each office: from the counts that stood before, after the entries of a log
unfoldable pub counts_after : List ℕ → List ℕ → List ℕ
counts_after counts log = foldl counted counts log

-- "a tie goes to the entry whose office has fewer entries .., then to the lower value": the tie goes to e and not to f
unfoldable pub quieter_by : List ℕ → ℕ → ℕ → Bool
quieter_by counts e f =
    ltb (count_of counts (office_of e)) (count_of counts (office_of f)) || (eqb (count_of counts (office_of e)) (count_of counts (office_of f)) && ltb e f)

-- ".. in the settled log": "the order depends on the settled log alone"
abbrev pub quieter : List ℕ → List ℕ → ℕ → ℕ → Bool
quieter start log = quieter_by (counts_after start log)
