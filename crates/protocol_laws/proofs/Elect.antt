-- Elect goes on until no entry wins, whatever number of steps it is allowed beyond the tails' entries, and counts what it settled.
--     elect-stops, elect-no-winner   no entry wins afterwards
--     elect-none, elect-some         one step of it
--     electing-enough                more steps than the tails have entries change nothing
--     elect-log, elect-most          the count is the log's growth, and at most the tails' entries
-- Assumes nothing.
use mathlib.Core.Path.{◌≡◌, refl, sym, ap, ◌∙◌}
use mathlib.Core.List.{List, [], ◌∷◌, ◌++◌, map, append-nil, append_assoc}
use Rattle.std.specs.Prelude.{Option, None, Some}
use Rattle.std.proofs.lemmas.Option.{none-some}
use mathlib.Core.Bool.{Bool, true, false, cond}
use Prim.Native.Nat.{ℕ, zero, suc, ◌≤◌, ◌<◌}
use native.Mathlib.Nat.{le_refl}
use native.Mathlib.Omega.{arith}
use lib.Dec.{eqb}
use lib.ListN.{length, get_or, length-append}
use Rattle.protocol.specs.Vote.{Rule}
use Rattle.protocol.specs.Moves.{weights_after}
use Rattle.protocol.specs.Counts.{quieter}
use Rattle.protocol.specs.SettledRule.{rule_from}
use Rattle.protocol.specs.Winning.{Wins}
use Rattle.protocol.specs.Office.{Office, first, votes}
use Rattle.protocol.specs.Elect.{lose, settle, tail_entries, next, electing, with_elect, elect_count}
use Rattle.protocol_laws.proofs.Vote.{NamesVoted, by_log-voted, winner-none}
use Rattle.protocol_laws.proofs.Office.{next-cases}

lose-short : (e : ℕ) (t : List ℕ) → length (lose e t) ≤ length t
lose-short e [] = omega arith
lose-short e (x ∷ t) = go (eqb x e)
  where
    go : (b : Bool) → length (cond b t []) ≤ suc (length t)
    go true = omega arith
    go false = omega arith

lose-shorter : (e x : ℕ) (t : List ℕ) → length (lose e (x ∷ t)) < length (x ∷ t)
lose-shorter e x t = go (eqb x e)
  where
    go : (b : Bool) → length (cond b t []) < suc (length t)
    go true = omega arith
    go false = omega arith

entries-short : (e : ℕ) (ts : List (List ℕ)) → tail_entries (map (lose e) ts) ≤ tail_entries ts
entries-short e [] = omega arith
entries-short e (t ∷ ts) = omega (arith, lose-short e t, entries-short e ts)

-- a vote is a tail that gets shorter
entries-shorter : (e x : ℕ) (ts : List (List ℕ)) (k : ℕ) → first (get_or ts k []) ≡ Some x → tail_entries (map (lose e) ts) < tail_entries ts
entries-shorter e x [] k h = absurd (none-some x h)
entries-shorter e x ([] ∷ ts) zero h = absurd (none-some x h)
entries-shorter e x ((y ∷ t) ∷ ts) zero h = omega (arith, lose-shorter e y t, entries-short e ts)
entries-shorter e x (t ∷ ts) (suc k) h = omega (arith, lose-short e t, entries-shorter e x ts k h)

-- ── any rule ──
-- the log grows by at most one entry a step
pub record Grown (fuel : ℕ) (l r : List ℕ) : Type 0 where
  pub settled : List ℕ
  pub log : r ≡ l ++ settled
  pub most : length settled ≤ fuel

electing-log : (rule : Rule) (fuel : ℕ) (o : Office) → Grown fuel o.log (electing rule fuel o).log
unfolding electing settle
electing-log rule zero o = record { settled = []; log = sym (append-nil o.log); most = omega arith }
electing-log rule (suc fuel) o =
    next-cases (λ r. Grown (suc fuel) o.log r.log) (rule o.log (votes o)) o (λ e. electing rule fuel (settle e o))
    (record { settled = []; log = sym (append-nil o.log); most = omega arith })
    (λ e _. let g = electing-log rule fuel (settle e o) in
    record { settled = e ∷ g.settled; log = g.log ∙ append_assoc o.log (e ∷ []) g.settled; most = omega (arith, g.most) })

-- "answers how many entries it settled": the log afterwards is the log before and so many entries
pub elect-log : (rule : Rule) (o : Office) → (settled : List ℕ) × ((with_elect rule o).log ≡ o.log ++ settled) × (length settled ≡ elect_count rule o)
unfolding with_elect
elect-log rule o =
    let g = electing-log rule (tail_entries o.tails) o in
    (g.settled, g.log, omega (arith, ap length g.log, length-append o.log g.settled))

-- it needs no more steps than the tails have entries
pub elect-most : (rule : Rule) (o : Office) → elect_count rule o ≤ tail_entries o.tails
unfolding with_elect
elect-most rule o =
    let g = electing-log rule (tail_entries o.tails) o in
    omega (arith, ap length g.log, length-append o.log g.settled, g.most)

-- no entry wins: nothing is settled
pub elect-none : (rule : Rule) (o : Office) → rule o.log (votes o) ≡ None → with_elect rule o ≡ o
unfolding with_elect electing
elect-none rule o h = go (tail_entries o.tails)
  where
    go : (fuel : ℕ) → electing rule fuel o ≡ o
    go zero = refl
    go (suc fuel) = ap (λ (r : Option ℕ). next r o (λ e. electing rule fuel (settle e o))) h

-- ── a rule whose winner has a vote ──
module _ (rule : Rule) (law : NamesVoted rule) where
  settle-shorter : (o : Office) (e : ℕ) → rule o.log (votes o) ≡ Some e → tail_entries (settle e o).tails < tail_entries o.tails
  unfolding settle
  settle-shorter o e q = let k = law o.log (votes o) e q in entries-shorter e e o.tails k.0 k.1

  stops : (fuel : ℕ) (o : Office) → tail_entries o.tails ≤ fuel → rule (electing rule fuel o).log (votes (electing rule fuel o)) ≡ None
  unfolding electing
  stops zero o h = go (rule o.log (votes o)) refl
    where
      go : (r : Option ℕ) → rule o.log (votes o) ≡ r → rule o.log (votes o) ≡ None
      go None q = q
      go (Some e) q = absurd (omega (arith, settle-shorter o e q))
  stops (suc fuel) o h = go (λ e b. stops fuel (settle e o) b) (rule o.log (votes o)) refl
    where
      Stops : Office → Type 0
      Stops r = rule r.log (votes r) ≡ None

      go : ((e : ℕ) → tail_entries (settle e o).tails ≤ fuel → Stops (electing rule fuel (settle e o)))
          → (r : Option ℕ) → rule o.log (votes o) ≡ r → Stops (next r o (λ e. electing rule fuel (settle e o)))
      go ih None q = q
      go ih (Some e) q = ih e (omega (arith, settle-shorter o e q))

  -- "until no entry wins"
  pub elect-stops : (o : Office) → rule (with_elect rule o).log (votes (with_elect rule o)) ≡ None
  unfolding with_elect
  elect-stops o = stops (tail_entries o.tails) o (le_refl (tail_entries o.tails))

  -- two allowances that are enough
  same : (f g : ℕ) (o : Office) → tail_entries o.tails ≤ f → tail_entries o.tails ≤ g → electing rule f o ≡ electing rule g o
  unfolding electing
  same zero zero o a b = refl
  same zero (suc g) o a b = go (rule o.log (votes o)) refl
    where
      go : (r : Option ℕ) → rule o.log (votes o) ≡ r → o ≡ next r o (λ e. electing rule g (settle e o))
      go None q = refl
      go (Some e) q = absurd (omega (arith, settle-shorter o e q))
  same (suc f) zero o a b = go (rule o.log (votes o)) refl
    where
      go : (r : Option ℕ) → rule o.log (votes o) ≡ r → next r o (λ e. electing rule f (settle e o)) ≡ o
      go None q = refl
      go (Some e) q = absurd (omega (arith, settle-shorter o e q))
  same (suc f) (suc g) o a b = go (λ e x y. same f g (settle e o) x y) (rule o.log (votes o)) refl
    where
      go : ((e : ℕ) → tail_entries (settle e o).tails ≤ f → tail_entries (settle e o).tails ≤ g → electing rule f (settle e o) ≡ electing rule g (settle e o))
          → (r : Option ℕ) → rule o.log (votes o) ≡ r → next r o (λ e. electing rule f (settle e o)) ≡ next r o (λ e. electing rule g (settle e o))
      go ih None q = refl
      go ih (Some e) q = let s = settle-shorter o e q in ih e (omega arith) (omega arith)

  -- any allowance that the tails' entries do not exceed
  pub electing-enough : (fuel : ℕ) (o : Office) → tail_entries o.tails ≤ fuel → electing rule fuel o ≡ with_elect rule o
  unfolding with_elect
  electing-enough fuel o h = same fuel (tail_entries o.tails) o h (le_refl (tail_entries o.tails))

  -- e wins: elect settles it and goes on from there
  pub elect-some : (o : Office) (e : ℕ) → rule o.log (votes o) ≡ Some e → with_elect rule o ≡ with_elect rule (settle e o)
  unfolding electing
  elect-some o e q =
      sym (electing-enough (suc (tail_entries o.tails)) o (omega arith))
      ∙ ap (λ (r : Option ℕ). next r o (λ e. electing rule (tail_entries o.tails) (settle e o))) q
      ∙ electing-enough (tail_entries o.tails) (settle e o) (omega (arith, settle-shorter o e q))

-- the frame's rule, from whatever is kept: after elect no entry wins, by the weights and the tie order of the log as it is then
pub elect-no-winner : (weights counts : List ℕ) (o : Office) (e : ℕ)
    → let r : Office = with_elect (rule_from weights counts) o in Wins (weights_after weights r.log) (quieter counts r.log) (votes r) e → ⊥
elect-no-winner weights counts o e w =
    let r : Office = with_elect (rule_from weights counts) o in
    (winner-none (weights_after weights r.log) (quieter counts r.log) (votes r)).0 (elect-stops (rule_from weights counts) (by_log-voted (weights_after weights) (quieter counts)) o) e w
