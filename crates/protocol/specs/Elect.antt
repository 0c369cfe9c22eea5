-- "Elect repeats this step until no entry wins, and answers how many entries it settled, 0 included." Assumes nothing.
use Rattle.std.specs.Prelude.{List, [], ◌∷◌, ◌++◌, map, cond, ℕ, zero, suc, ◌+◌, ◌-◌, eqb, length}
use Rattle.std.specs.Prelude.{Option, None, Some}
use Rattle.protocol.specs.Vote.{Rule}
use Rattle.protocol.specs.Office.{Office, votes}

-- "ballots starting with it lose that entry, all other ballots become none"
abbrev pub lose : ℕ → List ℕ → List ℕ
lose e [] = []
lose e (x ∷ t) = cond (eqb x e) t []

-- "the winner is written to the log, the length rises by one"
unfoldable pub settle : ℕ → Office → Office
settle e o = record { log = o.log ++ (e ∷ []); tails = map (lose e) o.tails }

-- how many entries the tails have
abbrev pub tail_entries : List (List ℕ) → ℕ
tail_entries [] = 0
tail_entries (t ∷ ts) = length t + tail_entries ts

-- what follows a step: `a` where no entry wins, `go e` where e does
abbrev pub next : {A : Type 0} → Option ℕ → A → (ℕ → A) → A
next None a go = a
next (Some e) a go = go e

-- at most `fuel` steps
unfoldable pub electing : Rule → ℕ → Office → Office
electing rule zero o = o
electing rule (suc fuel) o = next (rule o.log (votes o)) o (λ e. electing rule fuel (settle e o))

-- each step shortens the tails, so as many steps as they have entries are enough (law `elect-stops`)
unfoldable pub with_elect : Rule → Office → Office
with_elect rule o = electing rule (tail_entries o.tails) o

-- how many entries it settled
abbrev pub elect_count : Rule → Office → ℕ
elect_count rule o = length (with_elect rule o).log - length o.log
