-- Request (xiii): "For three offices, tails of 0 to 2 entries, each entry with line 0 and code 0, list all 2197 ballot tables, each once: by office 0's
-- tail, then 1's, then 2's; shorter tails first, then by values." Assumes nothing.
use mathlib.Core.List.{List, [], ◌∷◌, ◌++◌, map, flat_map}
use Rattle.std.specs.Prelude.{ℕ, get_or}
use Rattle.protocol.specs.Entry.{value}

-- one entry of each office
abbrev pub entries : List ℕ
entries = value 0 0 0 ∷ value 1 0 0 ∷ value 2 0 0 ∷ []

-- each of the tails with each entry before it
abbrev pub one_longer : List (List ℕ) → List (List ℕ)
one_longer ts = flat_map (λ (e : ℕ). map (λ (t : List ℕ). e ∷ t) ts) entries

-- of 0, 1 and 2 entries
unfoldable pub tails : List (List ℕ)
tails = ([] ∷ []) ++ (one_longer ([] ∷ []) ++ one_longer (one_longer ([] ∷ [])))

-- a table is the three offices' tails
unfoldable pub tables : List (List (List ℕ))
tables = flat_map (λ (x : List ℕ). flat_map (λ (y : List ℕ). map (λ (z : List ℕ). x ∷ y ∷ z ∷ []) tails) tails) tails

-- the tail at place j, an empty one past the end
abbrev pub tail_at : ℕ → List ℕ
tail_at j = get_or tails j []

-- the table at place i, three empty tails past the end
abbrev pub table_at : ℕ → List (List ℕ)
table_at i = get_or tables i ([] ∷ [] ∷ [] ∷ [])
