-- What request (xiii) asks of the list: which tables stand in it, how often, and in which order. Nothing here is said by the list itself.
-- Assumes nothing.
use Rattle.std.specs.Prelude.{◌≡◌, List, [], ◌∷◌, Bool, true, false, ◌&&◌, ◌||◌, ◌⊎◌, ℕ, ◌<◌, eqb, ltb, leb, length, get_or}
use Rattle.lists.specs.Tests.{both, all_b}
use Rattle.protocol.specs.Entry.{office_of, line_of, code_of}

-- "three offices", "each entry with line 0 and code 0"
unfoldable pub small_entry : ℕ → Bool
small_entry e = both (ltb (office_of e) 3) (both (eqb (line_of e) 0) (eqb (code_of e) 0))

-- "tails of 0 to 2 entries"
unfoldable pub small_tail : List ℕ → Bool
small_tail t = both (leb (length t) 2) (all_b small_entry t)

-- a table of three such tails
unfoldable pub small_table : List (List ℕ) → Bool
small_table t = both (eqb (length t) 3) (all_b small_tail t)

-- the first entries that differ decide
abbrev pub values_before : List ℕ → List ℕ → Bool
values_before [] t = false
values_before (x ∷ s) [] = false
values_before (x ∷ s) (y ∷ t) = ltb x y || (eqb x y && values_before s t)

-- "shorter tails first, then by values"
unfoldable pub tail_before : List ℕ → List ℕ → Bool
tail_before s t = ltb (length s) (length t) || (eqb (length s) (length t) && values_before s t)

-- "by office 0's tail, then 1's, then 2's"
abbrev pub TableBefore : List (List ℕ) → List (List ℕ) → Type 0
TableBefore [] b = ⊥
TableBefore (s ∷ a) [] = ⊥
TableBefore (s ∷ a) (t ∷ b) = (tail_before s t ≡ true) ⊎ ((s ≡ t) × TableBefore a b)

-- the table t stands at place i of the list
abbrev pub StandsAt : List (List (List ℕ)) → List (List ℕ) → ℕ → Type 0
StandsAt list t i = (i < length list) × (get_or list i [] ≡ t)

-- "list all 2197 ballot tables, each once"
pub record Listed (list : List (List (List ℕ))) : Type 0 where
  pub count : length list ≡ 2197
  -- nothing else stands in it
  pub only : all_b small_table list ≡ true
  -- every small table stands in it
  pub all : (t : List (List ℕ)) → small_table t ≡ true → (i : ℕ) × StandsAt list t i
  -- at one place
  pub once : (t : List (List ℕ)) (i j : ℕ) → StandsAt list t i → StandsAt list t j → i ≡ j
  -- each before those behind it
  pub rising : (i j : ℕ) → i < j → j < length list → TableBefore (get_or list i []) (get_or list j [])
