-- The walk that merges the ballots with their offers. A turn stores the ballot past the words by which the log grew, and over that the ballot
-- after its offer; a store that is left out would store what stands there.
--     merged, all-merged        what the walk stores, and its list after the last turn
--     left-past, left-offer     a turn that leaves out its first store, and its second
--     next-merged               the list after a turn
-- Assumes nothing.
use mathlib.Core.Path.{◌≡◌, refl, sym, ap, ap₂, ◌∙◌}
use mathlib.Core.Bool.{Bool, true, false, ◌&&◌}
use mathlib.Core.List.{List, [], ◌∷◌, map}
use Prim.Native.Nat.{ℕ, zero, suc, ◌+◌, ◌<◌, ◌≤◌}
use native.Mathlib.Nat.{not-suc-le-zero, le_of_suc-le-suc}
use native.Mathlib.Omega.{arith}
use lib.Dec.{eqb, ltb}
use lib.ListN.{length, get_or, set, take, length-map, length-set, length-append, length-take, length-drop}
use lib.Seq.{get_or-set_same, get_or-set_other, set-set, set-get_or}
use borrow.Author.Tests.{eqb-true, eqb-false, ltb-false}
use Rattle.lists.specs.Tests.{pick}
use Rattle.lists.proofs.Fill.{filled, fill_step, fill_end, fill_here}
use Rattle.ballots.specs.declared.Ballot.{Ballot}
use Rattle.ballots.specs.Ballots.{tail_of, ballot_of, off_end}
use Rattle.merging.specs.Merging.{past_ballot, adopted_ballot, adopted_all}
use Rattle.merging.proofs.Walks.{past-short, tail-most, offer-short}
use Rattle.merging.proofs.Laws.{rest-past-nil}

-- one element of a list that was mapped
map_at : {A B : Type 0} (f : A → B) (d : A) (e : B) (xs : List A) (i : ℕ) → i < length xs → get_or (map f xs) i e ≡ f (get_or xs i d)
map_at f d e [] i h = absurd (not-suc-le-zero h)
map_at f d e (x ∷ xs) zero h = refl
map_at f d e (x ∷ xs) (suc i) h = map_at f d e xs i (le_of_suc-le-suc h)

-- one of the ballots that hold their tails
held_at : (bs : List Ballot) (i : ℕ) → i < length bs → map ballot_of (map tail_of bs) ≡ bs → ballot_of (tail_of (get_or bs i off_end)) ≡ get_or bs i off_end
held_at bs i h e =
    sym (map_at ballot_of [] off_end (map tail_of bs) i (omega (arith, length-map bs tail_of)) ∙ ap ballot_of (map_at tail_of off_end [] bs i h))
    ∙ ap (λ (l : List Ballot). get_or l i off_end) e

-- a ballot that holds its tail stays as it is where it is none, and beside a log that is not longer
kept-past : (ws : List ℕ) (b : Ballot) → ballot_of (tail_of b) ≡ b → (ltb 0 b.len && ltb 0 (length ws)) ≡ false → b ≡ past_ballot ws b
unfolding past_ballot
kept-past ws b held e = go (ltb 0 b.len) refl e
  where
    none : b.len ≡ 0 → b ≡ past_ballot ws b
    none n = sym held ∙ ap (λ (k : ℕ). ballot_of (take k b.cells)) n ∙ past-short ws b (omega arith)

    beside : (us : List ℕ) → length us ≡ 0 → b ≡ past_ballot us b
    beside [] n = sym (ap ballot_of (rest-past-nil (tail_of b)) ∙ held)
    beside (u ∷ us) n = absurd (omega arith)

    go : (t : Bool) → ltb 0 b.len ≡ t → (t && ltb 0 (length ws)) ≡ false → b ≡ past_ballot ws b
    go false q f = none (omega (arith, ltb-false 0 b.len q))
    go true q f = beside ws (omega (arith, ltb-false 0 (length ws) f))

-- as many ballots as were offered another, and one of them
adopted-length : (ws : List ℕ) (bs qs : List Ballot) → length (adopted_all ws bs qs) ≡ length bs
unfolding adopted_all
adopted-length ws [] qs = refl
adopted-length ws (b ∷ bs) [] = refl
adopted-length ws (b ∷ bs) (q ∷ qs) = ap suc (adopted-length ws bs qs)

adopted-at : (ws : List ℕ) (bs qs : List Ballot) (i : ℕ) → i < length bs → i < length qs
    → get_or (adopted_all ws bs qs) i off_end ≡ adopted_ballot (get_or bs i off_end) (past_ballot ws (get_or qs i off_end))
unfolding adopted_all
adopted-at ws [] qs i h l = absurd (not-suc-le-zero h)
adopted-at ws (b ∷ bs) [] i h l = absurd (not-suc-le-zero l)
adopted-at ws (b ∷ bs) (q ∷ qs) zero h l = refl
adopted-at ws (b ∷ bs) (q ∷ qs) (suc i) h l = adopted-at ws bs qs i (le_of_suc-le-suc h) (le_of_suc-le-suc l)

-- the offer at a place, where the sender's stands at the own one
from_at : (qs : List Ballot) (i own sender : ℕ) → i < length qs → (g : ℕ) → g ≡ pick (eqb i own) sender i → get_or qs g off_end ≡ get_or (set qs own (get_or qs sender off_end)) i off_end
unfolding pick
from_at qs i own sender h g q = go (eqb i own) refl
  where
    go : (t : Bool) → eqb i own ≡ t → get_or qs g off_end ≡ get_or (set qs own (get_or qs sender off_end)) i off_end
    go true e =
        let same = eqb-true i own e in
        ap (λ (k : ℕ). get_or qs k off_end) (q ∙ ap (λ (t : Bool). pick t sender i) e) ∙
        sym (ap (λ (k : ℕ). get_or (set qs k (get_or qs sender off_end)) i off_end) (sym same) ∙ get_or-set_same qs i (get_or qs sender off_end) off_end h)
    go false e =
        ap (λ (k : ℕ). get_or qs k off_end) (q ∙ ap (λ (t : Bool). pick t sender i) e) ∙ sym (get_or-set_other qs own i (get_or qs sender off_end) off_end (eqb-false i own e))

-- a store that is left out
left_out : (xs : List Ballot) (i : ℕ) (b : Ballot) → get_or xs i off_end ≡ b → xs ≡ set xs i b
left_out xs i b e = sym (set-get_or xs i off_end) ∙ ap (set xs i) e

-- the store of a ballot whose offer is not longer than the words between
pub left-offer : (between : List ℕ) (xs : List Ballot) (i : ℕ) (q : Ballot) → q.len ≤ length between → xs ≡ set xs i (adopted_ballot (get_or xs i off_end) (past_ballot between q))
left-offer between xs i q h = left_out xs i _ (offer-short between (get_or xs i off_end) q (omega (arith, tail-most q)))

-- the walk over the ballots bs with the offers os
module _ (grown between : List ℕ) (bs os : List Ballot) (own sender : ℕ) where
  abbrev past : List Ballot
  past = map (past_ballot grown) bs

  abbrev given : List Ballot
  given = set os own (get_or os sender off_end)

  abbrev pub merged : List Ballot
  merged = adopted_all between past given

  long : length merged ≡ length bs
  long = adopted-length between past given ∙ length-map bs (past_ballot grown)

  -- after the last turn
  pub all-merged : (i : ℕ) → length bs ≤ i → filled merged bs i ≡ merged
  all-merged i h = fill_end off_end merged bs long i h

  -- a turn at i, on the walk's list xs
  module _ (i : ℕ) (h : i < length bs) (xs : List Ballot) (e : xs ≡ filled merged bs i) where
    -- what stands at i, where the list still has a place
    place : get_or xs i off_end ≡ get_or bs i off_end
    place = ap (λ (l : List Ballot). get_or l i off_end) e ∙ fill_here off_end merged bs i (omega (arith, long)) h

    room : i < length xs
    room = rw e (simp (length-append, length-take, length-drop) (omega (arith, long)))

    -- the store of a ballot that is none, and of any where the log did not grow
    pub left-past : map ballot_of (map tail_of bs) ≡ bs → (ltb 0 (get_or xs i off_end).len && ltb 0 (length grown)) ≡ false → xs ≡ set xs i (past_ballot grown (get_or xs i off_end))
    left-past held f =
        left_out xs i _ (kept-past grown (get_or xs i off_end) (ap (λ (b : Ballot). ballot_of (tail_of b)) place ∙ held_at bs i h held ∙ sym place) f)

    -- by both stores, with the offer of the office g
    module _ (l : i < length os) (g : ℕ) (q : g ≡ pick (eqb i own) sender i) where
      abbrev offer : Ballot
      offer = past_ballot between (get_or os g off_end)

      -- the ballot that is to stand at i
      here : get_or merged i off_end ≡ adopted_ballot (past_ballot grown (get_or bs i off_end)) offer
      here =
          adopted-at between past given i (omega (arith, length-map bs (past_ballot grown))) (omega (arith, length-set os own (get_or os sender off_end)))
          ∙ ap₂ (λ (b o : Ballot). adopted_ballot b (past_ballot between o)) (map_at (past_ballot grown) off_end off_end bs i h) (sym (from_at os i own sender l g q))

      pub next-merged : (xs' xs'' : List Ballot)
          → xs' ≡ set xs i (past_ballot grown (get_or xs i off_end))
          → xs'' ≡ set xs' i (adopted_ballot (get_or xs' i off_end) offer)
          → xs'' ≡ filled merged bs (i + 1)
      next-merged xs' xs'' p o =
          o
          ∙ ap₂ (λ (l : List Ballot) (b : Ballot). set l i (adopted_ballot b offer)) p stored
          ∙ set-set xs i (past_ballot grown (get_or xs i off_end)) (adopted_ballot (past_ballot grown (get_or bs i off_end)) offer)
          ∙ ap₂ (λ (l : List Ballot) (b : Ballot). set l i b) e (sym here)
          ∙ fill_step off_end merged bs long i h
        where
          stored : get_or xs' i off_end ≡ past_ballot grown (get_or bs i off_end)
          stored =
              ap (λ (l : List Ballot). get_or l i off_end) p
              ∙ get_or-set_same xs i (past_ballot grown (get_or xs i off_end)) off_end room
              ∙ ap (past_ballot grown) place
