-- What a reader makes of an answer, by its own numbers: its rows, the weight of the offices that it marks, the entry that wins. Assumes nothing.
use Rattle.std.specs.Prelude.{List, [], ◌∷◌, map, Bool, true, ◌&&◌, ◌||◌, cond, ℕ, ◌+◌, eqb, ltb, take}
use Rattle.std.specs.Prelude.{Option, None, Some}
use Rattle.protocol.specs.Vote.{above}
use Rattle.standing.specs.declared.Standing.{Standing}

-- an entry, and its T
pub record Row : Type 0 where
  pub entry : ℕ
  pub weight : ℕ

unfoldable pub paired : List ℕ → List ℕ → List Row
paired [] ts = []
paired (e ∷ es) [] = []
paired (e ∷ es) (t ∷ ts) = record { entry = e; weight = t } ∷ paired es ts

-- the rows of an answer: its first entries and their T, as many as it says
abbrev pub rows_in : Standing → List Row
rows_in s = paired (take s.rows s.entries) (take s.rows s.tallies)

-- the rows' entries, and their T
abbrev pub entries_in : List Row → List ℕ
entries_in rs = map (λ (r : Row). r.entry) rs

abbrev pub weights_in : List Row → List ℕ
weights_in rs = map (λ (r : Row). r.weight) rs

-- the T that the rows give to e, 0 where it has no row
unfoldable pub weight_in : ℕ → List Row → ℕ
weight_in e [] = 0
weight_in e (r ∷ rs) = cond (eqb e r.entry) r.weight (weight_in e rs)

-- the weight of the offices that are marked with 1
unfoldable pub joint_weight : List ℕ → List ℕ → ℕ
joint_weight [] ms = 0
joint_weight (w ∷ ws) [] = 0
joint_weight (w ∷ ws) (m ∷ ms) = cond (eqb m 1) w 0 + joint_weight ws ms

-- "for each other supported entry f, T(e) > T(f) + U, or T(e) = T(f) + U and" e comes before f, by the rows and U alone
abbrev pub ahead : (ℕ → ℕ → Bool) → ℕ → Row → List Row → Bool
ahead before u r [] = true
ahead before u r (s ∷ ss) = (eqb s.entry r.entry || above before r.weight (s.weight + u) r.entry s.entry) && ahead before u r ss

-- "Entry e wins when T(e) > U and .."
abbrev pub leads : (ℕ → ℕ → Bool) → ℕ → List Row → Row → Bool
leads before u rs r = ltb u r.weight && ahead before u r rs

abbrev pub first_leader : (ℕ → ℕ → Bool) → ℕ → List Row → List Row → Option ℕ
first_leader before u rs [] = None
first_leader before u rs (s ∷ ss) = cond (leads before u rs s) (Some s.entry) (first_leader before u rs ss)

-- the entry that wins by the answer's rows and U alone, if any, where ties go in the order `before`
unfoldable pub leader : (ℕ → ℕ → Bool) → Standing → Option ℕ
leader before s = first_leader before s.unheard (rows_in s) (rows_in s)
