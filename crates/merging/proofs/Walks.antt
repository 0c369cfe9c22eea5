-- Lists that are walked or lent in part.
--     past-none, past-some, past_room, adopted-yes, adopted-no     a ballot past the words, and the longer of two, by the tests on their tails
--     zeros-behind        the cells behind k filled ones
--     tail-most, past-short, offer-short     what a tail leaves past words that are as long, and an offer that is too short to count
-- Assumes nothing.
use mathlib.Core.Path.{◌≡◌, ap, ◌∙◌}
use mathlib.Core.Bool.{true, false}
use mathlib.Core.List.{List, []}
use Prim.Native.Nat.{ℕ, zero, ◌+◌, ◌-◌, ◌<◌, ◌≤◌}
use native.Mathlib.Omega.{arith}
use lib.Dec.{eqb}
use lib.Seq.{take-length}
use lib.ListN.{length, take, drop, replicate, length-drop, length-take}
use Rattle.lists.specs.Tests.{pick}
use Rattle.protocol.specs.Beginning.{extends}
use Rattle.protocol_laws.proofs.Beginning.{⊏-length, extends-true}
use Rattle.lists.proofs.Tests.{pick-cases, zeros, all-zeros, all_drop}
use Rattle.lists.proofs.Walk.{take-from}
use Rattle.ballots.specs.declared.Ballot.{Ballot}
use Rattle.ballots.specs.Ballots.{tail_of, ballot_of, no_ballot}
use Rattle.ballots.proofs.Laws.{tail-of}
use Rattle.longer_tails.proofs.Walks.{not-longer}
use Rattle.merging.specs.Merging.{rest_past, past_ballot, adopted_ballot}

pub zeros-behind : (k : ℕ) → drop {A = ℕ} k (replicate 32 0) ≡ replicate (32 - k) 0
zeros-behind k =
    let none : List ℕ = replicate 32 0 in
    zeros (drop k none) (all_drop (eqb 0) k none (all-zeros 32)) ∙ ap (λ (j : ℕ). replicate j 0) (length-drop k none)

-- a ballot past the words, by the test on its tail
module _ (ws : List ℕ) (b : Ballot) (t : List ℕ) (is : t ≡ tail_of b) where
  pub past-none : extends t ws ≡ false → no_ballot ≡ past_ballot ws b
  unfolding past_ballot rest_past pick
  past-none e = rw (← is, e)

  pub past-some : extends t ws ≡ true → ballot_of (take (length t - length ws) (drop (length ws) t)) ≡ past_ballot ws b
  unfolding past_ballot rest_past pick
  past-some e = ap ballot_of (take-from (length ws) (length t) t ∙ ap (drop (length ws)) (take-length t)) ∙ rw (← is, e)

  pub past_room : extends t ws ≡ true → length ws < length t
  past_room e = ⊏-length ws t (extends-true t ws e)

-- the longer of a ballot and its offer, by the test on their tails
module _ (b q : Ballot) (t o : List ℕ) (own : t ≡ tail_of b) (offered : o ≡ tail_of q) where
  pub adopted-yes : extends o t ≡ true → q ≡ adopted_ballot b q
  unfolding adopted_ballot pick
  adopted-yes e = rw (← own, ← offered, e)

  pub adopted-no : extends o t ≡ false → b ≡ adopted_ballot b q
  unfolding adopted_ballot pick
  adopted-no e = rw (← own, ← offered, e)

pub tail-most : (b : Ballot) → length (tail_of b) ≤ b.len
tail-most b = simp length-take (omega arith)

-- a tail that is not longer than the words leaves nothing past them
pub past-short : (ws : List ℕ) (b : Ballot) → b.len ≤ length ws → no_ballot ≡ past_ballot ws b
unfolding past_ballot rest_past pick
past-short ws b h = rw (not-longer (tail_of b) ws (omega (arith, tail-most b)))

-- an offer that is not longer than the words and the ballot's own tail leaves the ballot
pub offer-short : (ws : List ℕ) (b q : Ballot) → length (tail_of q) ≤ length ws + length (tail_of b) → b ≡ adopted_ballot b (past_ballot ws q)
unfolding adopted_ballot past_ballot rest_past pick
offer-short ws b q h = rw (tail-of (rest_past ws (tail_of q)), not-longer (rest_past ws (tail_of q)) (tail_of b) short)
  where
    short : length (rest_past ws (tail_of q)) ≤ length (tail_of b)
    short = pick-cases (λ (l : List ℕ). length l ≤ length (tail_of b)) (extends (tail_of q) ws) (drop (length ws) (tail_of q)) []
        (λ t. simp length-drop (omega arith)) (λ t. omega arith)
