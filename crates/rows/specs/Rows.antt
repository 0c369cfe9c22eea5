-- How the next place stands, by eight votes: "for each supported entry its T, and U, and which offices are unheard". Assumes nothing.
use Rattle.std.specs.Prelude.{List, [], ◌∷◌, map, Bool, false, ◌||◌, cond, ℕ, zero, suc, ◌+◌, eqb, length, take, set}
use Rattle.std.specs.Prelude.{Option, None, Some}
use Rattle.lists.specs.Tests.{pick}
use Rattle.protocol.specs.Vote.{Votes, later, is_none, tally, supported}
use Rattle.lists.specs.Padded.{in_eight}
use Rattle.rows.specs.declared.Rows.{Rows}

-- the entries without x
unfoldable pub without : ℕ → List ℕ → List ℕ
without x [] = []
without x (y ∷ ys) = cond (eqb x y) (without x ys) (y ∷ without x ys)

-- each entry once, where it stands first
unfoldable pub distinct : List ℕ → List ℕ
distinct [] = []
distinct (x ∷ xs) = x ∷ without x (distinct xs)

-- "each supported entry", once, in the order of the lowest office that supports it
unfoldable pub row_entries : List ℕ → Votes → List ℕ
row_entries ws v = distinct (supported ws v)

-- rows for these entries, each with its T, in eight cells
abbrev pub rows_for : List ℕ → Votes → List ℕ → Rows
rows_for ws v ds = record { count = length ds; entries = in_eight ds; tallies = in_eight (map (tally ws v) ds) }

-- a row for each supported entry
unfoldable pub rows_of : List ℕ → Votes → Rows
rows_of ws v = rows_for ws v (row_entries ws v)

-- "which offices are unheard": of offices 0 to n−1, 1 for each that has no vote, else 0
unfoldable pub marks : ℕ → Votes → List ℕ
marks zero v = []
marks (suc n) v = cond (is_none (v 0)) 1 0 ∷ marks n (later v)

-- ── the steps of the walk ──
-- x is one of some entries
unfoldable pub is_in : ℕ → List ℕ → Bool
is_in x [] = false
is_in x (y ∷ ys) = eqb y x || is_in x ys

-- the rows and one more, for e with its weight t
abbrev pub with_row : ℕ → ℕ → Rows → Rows
with_row t e r = record { count = r.count + 1; entries = set r.entries r.count e; tallies = set r.tallies r.count t }

-- with one for what is voted for, if that is an entry that has none
unfoldable pub with_vote : ℕ → Option ℕ → Rows → Rows
with_vote t None r = r
with_vote t (Some e) r = pick (is_in e (take r.count r.entries)) r (with_row t e r)
