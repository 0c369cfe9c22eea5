-- What became of an office's own entries: its tail before a call in three parts, by what the office has after it. Assumes nothing.
use Rattle.std.specs.Prelude.{◌≡◌, List, [], ◌∷◌, ◌++◌, cond, ℕ, eqb, length, drop}
use Rattle.protocol.specs.Entry.{office_of}
use Rattle.protocol.specs.Beginning.{◌⊑◌}
use Rattle.protocol.specs.Office.{Office, tail, path}

-- the common beginning of two lists
unfoldable pub common : List ℕ → List ℕ → List ℕ
common [] b = []
common (x ∷ a) [] = []
common (x ∷ a) (y ∷ b) = cond (eqb x y) (x ∷ common a b) []

-- ── t is the own tail before the call; l is the settled log after it and p the own path after it, both from the place on where t began ──
-- "settled": its beginning that the settled log has now, at the same places
abbrev pub settled_part : List ℕ → List ℕ → List ℕ
settled_part t l = common t l

-- what settled and what is pending: its beginning that the own path has now
abbrev pub kept_part : List ℕ → List ℕ → List ℕ
kept_part t p = common t p

-- "pending still": in the own path, past the settled log
abbrev pub pending_part : List ℕ → List ℕ → List ℕ → List ℕ
pending_part t l p = drop (length (settled_part t l)) (kept_part t p)

-- "lost": the rest
abbrev pub lost_part : List ℕ → List ℕ → List ℕ
lost_part t p = drop (length (kept_part t p)) t

-- ── the same of the state o of office k before a call, and o' after it ──
abbrev pub settled_of : ℕ → Office → Office → List ℕ
settled_of k o o' = settled_part (tail o k) (drop (length o.log) o'.log)

abbrev pub pending_of : ℕ → Office → Office → List ℕ
pending_of k o o' = pending_part (tail o k) (drop (length o.log) o'.log) (drop (length o.log) (path o' k))

abbrev pub lost_of : ℕ → Office → Office → List ℕ
lost_of k o o' = lost_part (tail o k) (drop (length o.log) (path o' k))

-- the entry e that stood in the own path behind p stands there no more
abbrev pub Loses : ℕ → Office → Office → List ℕ → ℕ → Type 0
Loses k o o' p e = ((p ++ (e ∷ [])) ⊑ path o k) × ((p ++ (e ∷ [])) ⊑ path o' k → ⊥)

-- ── entries ──
-- "the own office's entries": a tail may hold entries of other offices that were adopted
unfoldable pub entries_of : ℕ → List ℕ → List ℕ
entries_of k [] = []
entries_of k (e ∷ l) = cond (eqb (office_of e) k) (e ∷ entries_of k l) (entries_of k l)

-- e is one of the entries l
pub record Stands (l : List ℕ) (e : ℕ) : Type 0 where
  pub front : List ℕ
  pub rest : List ℕ
  pub whole : l ≡ front ++ (e ∷ rest)
