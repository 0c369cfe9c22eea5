-- What the one order needs of an election rule, and that the frame's has it.
--     from-lawful         the rule that goes on from kept weights and counts
--     settled-lawful      the frame's rule
--     decides-alike       it depends on founding weights, settled log and votes alone
--     hears-alike         and two offices that decide at one log decide alike, whichever votes they have heard
-- Assumes nothing.
use mathlib.Core.Path.{◌≡◌, refl, ap}
use mathlib.Core.List.{List}
use Rattle.std.specs.Prelude.{Option, None, Some}
use mathlib.Core.Bool.{Bool}
use Prim.Native.Nat.{ℕ}
use Rattle.protocol.specs.Vote.{Votes, Rule, by_log}
use Rattle.protocol.specs.Moves.{weights_after}
use Rattle.protocol.specs.Counts.{no_counts, counts_after, quieter}
use Rattle.protocol.specs.SettledRule.{rule_from, by_settled}
use Rattle.protocol.specs.Office.{Office, votes}
use Rattle.protocol.specs.Winning.{Wins, Asymmetric}
use Rattle.protocol_laws.proofs.Vote.{Grows, NamesVoted, wins-unique, wins-grows, wins-voted, winner-wins}
use Rattle.protocol_laws.proofs.Quieter.{quieter-asymmetric}

-- the rule's winner wins in a sense in which one entry at most does, more votes never undo it, and a vote is needed
pub record Lawful (rule : Rule) : Type 1 where
  pub Winner : List ℕ → Votes → ℕ → Type 0
  pub sound : (l : List ℕ) (v : Votes) (e : ℕ) → rule l v ≡ Some e → Winner l v e
  pub unique : (l : List ℕ) (v : Votes) (e f : ℕ) → Winner l v e → Winner l v f → e ≡ f
  pub grows : (l : List ℕ) (v v' : Votes) (e : ℕ) → Grows v v' → Winner l v e → Winner l v' e
  pub voted : (l : List ℕ) (v : Votes) (e : ℕ) → Winner l v e → (k : ℕ) × (v k ≡ Some e)

pub lawful-voted : (rule : Rule) → Lawful rule → NamesVoted rule
lawful-voted rule law l v e q = law.voted l v e (law.sound l v e q)

-- the weights and the tie order may follow from the settled log
pub by_log-lawful : (weights : List ℕ → List ℕ) (before : List ℕ → ℕ → ℕ → Bool) → ((l : List ℕ) → Asymmetric (before l)) → Lawful (by_log weights before)
by_log-lawful weights before asym = record {
  Winner = λ l v e. Wins (weights l) (before l) v e;
  sound = λ l v e. winner-wins (weights l) (before l) v e;
  unique = λ l v e f. wins-unique (weights l) (before l) (asym l) v e f;
  grows = λ l v v' e. wins-grows (weights l) (before l) v v' e;
  voted = λ l v e w. let s = wins-voted (weights l) (before l) v e w in (s.0, s.2);
}

-- the rule for logs behind entries that left these weights and these counts
pub from-lawful : (weights counts : List ℕ) → Lawful (rule_from weights counts)
from-lawful weights counts = by_log-lawful (weights_after weights) (quieter counts) (λ log. quieter-asymmetric (counts_after counts log))

-- the frame's rule
pub settled-lawful : (founding : List ℕ) → Lawful (by_settled founding)
settled-lawful founding = from-lawful founding (no_counts 8)

-- (iii) "The order depends on the settled log alone, so every office that decides at that log decides alike": of two offices of a frame with
-- equal settled logs and equal votes both settle the same entry, or both none
pub decides-alike : (founding : List ℕ) (o p : Office) → o.log ≡ p.log → ((k : ℕ) → votes o k ≡ votes p k)
    → by_settled founding o.log (votes o) ≡ by_settled founding p.log (votes p)
decides-alike founding o p l v = λ i. by_settled founding (l i) (λ k. v k i)

-- where they have heard different votes, and of no office two: if both settle an entry, it is the same
pub hears-alike : (rule : Rule) → Lawful rule → (log : List ℕ) (v u : Votes) → ((k x y : ℕ) → v k ≡ Some x → u k ≡ Some y → x ≡ y)
    → (e f : ℕ) → rule log v ≡ Some e → rule log u ≡ Some f → e ≡ f
hears-alike rule law log v u one e f p q =
    law.unique log joined e f (law.grows log v joined e mine (law.sound log v e p)) (law.grows log u joined f theirs (law.sound log u f q))
  where
    or : Option ℕ → Option ℕ → Option ℕ
    or None b = b
    or (Some x) b = Some x

    joined : Votes
    joined k = or (v k) (u k)

    mine : Grows v joined
    mine k x h = ap (λ (a : Option ℕ). or a (u k)) h

    theirs : Grows u joined
    theirs k y h = go (v k) (one k)
      where
        go : (a : Option ℕ) → ((x y : ℕ) → a ≡ Some x → u k ≡ Some y → x ≡ y) → or a (u k) ≡ Some y
        go None same = h
        go (Some x) same = ap Some (same x y refl h)
