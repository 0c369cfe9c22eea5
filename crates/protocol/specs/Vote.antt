-- One election step. `v k` is the entry that office k's ballot supports, none where the office has no ballot. `ws` are the offices'
-- weights, office 0's first, and `before e f` is the order in which a tie goes to e. Assumes nothing.
use Rattle.std.specs.Prelude.{List, [], ◌∷◌, Bool, true, false, ◌&&◌, ◌||◌, cond, ℕ, suc, ◌+◌, eqb, ltb}
use Rattle.std.specs.Prelude.{Option, None, Some}

abbrev pub Votes : Type 0
Votes = ℕ → Option ℕ

-- the votes from office 1 on
abbrev pub later : Votes → Votes
later v k = v (suc k)

abbrev pub is_for : ℕ → Option ℕ → Bool
is_for e None = false
is_for e (Some x) = eqb x e

abbrev pub is_none : Option ℕ → Bool
is_none None = true
is_none (Some x) = false

-- "T(e) is the weight of the ballots supporting e"
unfoldable pub tally : List ℕ → Votes → ℕ → ℕ
tally [] v e = 0
tally (w ∷ ws) v e = cond (is_for e (v 0)) w 0 + tally ws (later v) e

-- "U is the weight of offices with no ballot"
unfoldable pub unheard : List ℕ → Votes → ℕ
unheard [] v = 0
unheard (w ∷ ws) v = cond (is_none (v 0)) w 0 + unheard ws (later v)

abbrev pub and-also : Option ℕ → List ℕ → List ℕ
and-also None fs = fs
and-also (Some x) fs = x ∷ fs

-- the supported entries, by office
unfoldable pub supported : List ℕ → Votes → List ℕ
supported [] v = []
supported (w ∷ ws) v = and-also (v 0) (supported ws (later v))

-- a above b, or equal to it and e before f
abbrev pub above : (ℕ → ℕ → Bool) → ℕ → ℕ → ℕ → ℕ → Bool
above before a b e f = ltb b a || (eqb a b && before e f)

-- "T(e) > T(f) + U, or T(e) = T(f) + U and the value of e is below that of f"; since (iii) the tie order is `quieter_by`
abbrev pub beats : List ℕ → (ℕ → ℕ → Bool) → Votes → ℕ → ℕ → Bool
beats ws before v e f = above before (tally ws v e) (tally ws v f + unheard ws v) e f

-- "for each other supported entry f"
abbrev pub beats_all : List ℕ → (ℕ → ℕ → Bool) → Votes → ℕ → List ℕ → Bool
beats_all ws before v e [] = true
beats_all ws before v e (f ∷ fs) = (eqb f e || beats ws before v e f) && beats_all ws before v e fs

-- "Entry e wins when T(e) > U and, for each other supported entry f, .."
unfoldable pub wins : List ℕ → (ℕ → ℕ → Bool) → Votes → ℕ → Bool
wins ws before v e = ltb (unheard ws v) (tally ws v e) && beats_all ws before v e (supported ws v)

-- the first entry that passes a test, and the first that wins, if any
abbrev pub first_that : (ℕ → Bool) → List ℕ → Option ℕ
first_that t [] = None
first_that t (f ∷ fs) = cond (t f) (Some f) (first_that t fs)

abbrev pub first_winner : List ℕ → (ℕ → ℕ → Bool) → Votes → List ℕ → Option ℕ
first_winner ws before v fs = first_that (wins ws before v) fs

-- the supported entry that wins, if any
unfoldable pub winner : List ℕ → (ℕ → ℕ → Bool) → Votes → Option ℕ
winner ws before v = first_winner ws before v (supported ws v)

-- an election rule: from a settled log and votes, the entry that wins, if any
abbrev pub Rule : Type 0
Rule = List ℕ → Votes → Option ℕ

-- the rule whose weights and tie order follow from the settled log
abbrev pub by_log : (List ℕ → List ℕ) → (List ℕ → ℕ → ℕ → Bool) → Rule
by_log weights before log v = winner (weights log) (before log) v
