-- The two walks of an election step over the ballots, each up to place n, behind which every ballot is none.
--     votes-step                 a turn of the first, which gathers the votes
--     votes-silent               there are none from place n on
--     winner-of, won-by, won-nobody          who wins by them
--     shape-here                 the ballot that the second walk is at
--     lost-first, lost-rival, lost-keep      a turn of it: a ballot for the settled entry, for another, and none
--     lost-end                   after its last turn
-- Assumes nothing.
use mathlib.Core.Path.{◌≡◌, refl, sym, ap, ap₂, subst, ◌∙◌}
use mathlib.Core.Bool.{true, false, true≢false}
use mathlib.Core.List.{List, [], ◌∷◌, map}
use Rattle.std.specs.Prelude.{Option, None, Some}
use Rattle.std.specs.Option.{option_eq}
use Prim.Native.Nat.{ℕ, zero, suc, ◌+◌, ◌-◌, ◌<◌}
use native.Mathlib.Omega.{arith}
use lib.Dec.{eqb}
use lib.ListN.{length, get_or, drop, set, replicate, length-map, length-drop, length-replicate}
use lib.Seq.{set-get_or}
use borrow.Author.Tests.{eqb-true, eq-eqb}
use Rattle.lists.specs.Tests.{all_b}
use Rattle.protocol.specs.Vote.{Votes, is_none, winner}
use Rattle.protocol.specs.Counts.{quieter_by}
use Rattle.protocol.specs.Office.{first, votes}
use Rattle.protocol.specs.Elect.{lose}
use Rattle.lists.proofs.Tests.{both-0, both-1, both_true, all-at, all_drop, drop-map, get_d_map}
use Rattle.lists.proofs.Fill.{filled, front-step, fill_here, fill-rest}
use Rattle.ballots.specs.Ballots.{tail_of, ballot_of, no_ballot, off_end, ballot_shape, ballot_fine, is_no_ballot}
use Rattle.ballots.specs.declared.Ballot.{Ballot}
use Rattle.ballots.proofs.Laws as B
use Rattle.tallies.specs.Tallies.{cast, votes_in, SilentFrom}
use Rattle.votes.proofs.Cells.{vote-none, lost-for, lost-other, lost-none}
use Rattle.elections.specs.Elections.{held_in, Steppable, winner_in}
use Rattle.elections.specs.declared.State.{State}

drop-replicate : {A : Type 0} (i n : ℕ) (a : A) → drop i (replicate n a) ≡ replicate (n - i) a
drop-replicate zero n a = let e : n ≡ n - 0 = omega arith in ap (λ (k : ℕ). replicate k a) e
drop-replicate (suc i) zero a = let e : 0 ≡ 0 - suc i = omega arith in ap (λ (k : ℕ). replicate k a) e
drop-replicate (suc i) (suc n) a = let e : n - i ≡ suc n - suc i = omega arith in drop-replicate i n a ∙ ap (λ (k : ℕ). replicate k a) e

-- ballots that are none cast no vote, and stay none when an entry is settled
none-cast : (bs : List Ballot) → all_b is_no_ballot bs ≡ true → replicate (length bs) None ≡ map cast bs
unfolding all_b
none-cast [] h = refl
none-cast (b ∷ bs) h = ap₂ (λ (x : Option ℕ) (l : List (Option ℕ)). x ∷ l) (vote-none b (sym (eqb-true 0 b.len (both-0 _ _ h)))) (none-cast bs (both-1 _ _ h))

all-silent : (k : ℕ) → all_b is_none (replicate k None) ≡ true
unfolding all_b
all-silent zero = refl
all-silent (suc k) = both_true true (all_b is_none (replicate k None)) refl (all-silent k)

-- "ballots starting with it lose that entry, all other ballots become none"
abbrev pub lost : ℕ → Ballot → Ballot
lost e b = ballot_of (lose e (tail_of b))

none-lost : (n settled e : ℕ) (bs : List Ballot) → all_b (ballot_fine n settled) bs ≡ true → all_b is_no_ballot bs ≡ true → bs ≡ map (lost e) bs
unfolding all_b
none-lost n settled e [] f h = refl
none-lost n settled e (b ∷ bs) f h =
    ap₂ (λ (x : Ballot) (l : List Ballot). x ∷ l)
    (sym (B.ballot-held n settled b (B.fine n settled b (both-0 _ _ f))) ∙ ap ballot_of (lost-none e b (sym (eqb-true 0 b.len (both-0 _ _ h)))))
    (none-lost n settled e bs (both-1 _ _ f) (both-1 _ _ h))

lost-all : (e : ℕ) (bs : List Ballot) → map (lost e) bs ≡ map ballot_of (map (lose e) (map tail_of bs))
lost-all e [] = refl
lost-all e (b ∷ bs) = ap (λ (l : List Ballot). lost e b ∷ l) (lost-all e bs)

-- whether a vote is for e
is-for : (v : Option ℕ) (e : ℕ) → option_eq eqb v (Some e) ≡ true → v ≡ Some e
is-for None e h = absurd (true≢false (sym h))
is-for (Some x) e h = ap Some (eqb-true x e h)

is-other : (v : Option ℕ) (e : ℕ) → option_eq eqb v (Some e) ≡ false → v ≡ Some e → ⊥
is-other v e h q = true≢false (sym (eq-eqb e e refl) ∙ ap (λ (x : Option ℕ). option_eq eqb x (Some e)) (sym q) ∙ h)

-- after i turns of the first walk, and of the second
abbrev pub Gathered : List Ballot → List (Option ℕ) → ℕ → Type 0
Gathered bs vs i = vs ≡ filled (map cast bs) (replicate 8 None) i

abbrev pub Settling : ℕ → List Ballot → List Ballot → ℕ → Type 0
Settling e bs xs i = xs ≡ filled (map (lost e) bs) bs i

pub votes-step : (bs : List Ballot) → length bs ≡ 8 → (vs : List (Option ℕ)) (i : ℕ) → Gathered bs vs i → i < 8 → (v : Option ℕ) → v ≡ cast (get_or bs i off_end) → Gathered bs (set vs i v) (i + 1)
votes-step bs l vs i inv h v q =
    ap₂ (λ (l : List (Option ℕ)) (x : Option ℕ). set l i x) inv (q ∙ sym (get_d_map cast off_end bs i)) ∙
    front-step None (map cast bs) (replicate 8 None) i (omega (arith, length-map bs cast, l)) (omega (arith, length-replicate {A = Option ℕ} 8 None))

module _ (n : ℕ) (s : State) (words : List ℕ) (S : Steppable n s words) where
  -- ── the votes ──
  module _ (vs : List (Option ℕ)) (q : Gathered s.ballots vs n) where
    votes-all : vs ≡ map cast s.ballots
    votes-all =
        q ∙ fill-rest (map cast s.ballots) (replicate 8 None) n
        (drop-replicate n 8 None ∙ ap (λ (k : ℕ). replicate k None) left ∙ none-cast (drop n s.ballots) S.rest ∙ sym (drop-map cast n s.ballots))
      where
        left : 8 - n ≡ length (drop n s.ballots)
        left = rw (length-drop, S.eight)

    -- the votes from place n on
    pub votes-silent : SilentFrom n vs
    votes-silent = (
      S.few,
      ap (λ (l : List (Option ℕ)). all_b is_none (drop n l)) votes-all ∙
          ap (all_b is_none) (drop-map cast n s.ballots ∙ sym (none-cast (drop n s.ballots) S.rest)) ∙ all-silent (length (drop n s.ballots)),
    )

  cast-votes : votes_in (map cast s.ballots) ≡ votes (held_in s words)
  cast-votes = λ i k. (get_d_map cast off_end s.ballots k ∙ ap first (sym (B.tail_at s.ballots k))) i

  -- what the winner that is found by these votes says
  module _ (cs : List ℕ) (vs : List (Option ℕ)) (v : Gathered s.ballots vs n) (w : Option ℕ) (q : w ≡ winner s.summary.present (quieter_by cs) (votes_in vs)) where
    pub winner-of : winner_in cs s words ≡ w
    winner-of = sym (q ∙ ap (λ (x : Votes). winner s.summary.present (quieter_by cs) x) (ap votes_in (votes-all vs v) ∙ cast-votes))

    pub won-by : (f : ℕ) → w ≡ Some f → winner_in cs s words ≡ Some f
    won-by f p = winner-of ∙ p

    pub won-nobody : w ≡ None → winner_in cs s words ≡ None
    won-nobody p = winner-of ∙ p

  -- ── the ballots when e is settled ──
  module _ (e : ℕ) where
    all-lost : length (map (lost e) s.ballots) ≡ 8
    all-lost = length-map s.ballots (lost e) ∙ S.eight

    module _ (bs : List Ballot) (i : ℕ) (inv : Settling e s.ballots bs i) (h : i < n) where
      abbrev b : Ballot
      b = get_or s.ballots i off_end

      lost-here : get_or bs i off_end ≡ b
      lost-here = let m = S.few in ap (λ (l : List Ballot). get_or l i off_end) inv ∙ fill_here off_end (map (lost e) s.ballots) s.ballots i (omega (arith, all-lost)) (omega (arith, S.eight))

      fine-here : ballot_fine n s.held (get_or bs i off_end) ≡ true
      fine-here = let m = S.few in ap (ballot_fine n s.held) lost-here ∙ all-at (ballot_fine n s.held) off_end s.ballots i S.fine (omega (arith, S.eight))

      pub shape-here : ballot_shape (get_or bs i off_end) ≡ true
      unfolding ballot_fine
      shape-here = both-0 _ _ fine-here

      cells-here : 0 < length (get_or bs i off_end).cells
      cells-here = omega (arith, (B.fine n s.held (get_or bs i off_end) fine-here).cells)

      lost-write : (x : Ballot) → x ≡ lost e (get_or bs i off_end) → Settling e s.ballots (set bs i x) (i + 1)
      lost-write x q =
          let m = S.few in
          ap₂ (λ (l : List Ballot) (y : Ballot). set l i y) inv (q ∙ ap (lost e) lost-here ∙ sym (get_d_map (lost e) off_end s.ballots i)) ∙
          front-step no_ballot (map (lost e) s.ballots) s.ballots i (omega (arith, all-lost)) (omega (arith, S.eight))

      pub lost-first : 0 < (get_or bs i off_end).len → (v : Option ℕ) → v ≡ cast (get_or bs i off_end) → option_eq eqb v (Some e) ≡ true → (x : Ballot)
          → x ≡ ballot_of (drop 1 (tail_of (get_or bs i off_end))) → Settling e s.ballots (set bs i x) (i + 1)
      lost-first h v p q x t = lost-write x (t ∙ ap ballot_of (lost-for e (get_or bs i off_end) h cells-here (sym p ∙ is-for v e q)))

      pub lost-rival : 0 < (get_or bs i off_end).len → (v : Option ℕ) → v ≡ cast (get_or bs i off_end) → option_eq eqb v (Some e) ≡ false → (x : Ballot) → x ≡ no_ballot → Settling e s.ballots (set bs i x) (i + 1)
      lost-rival h v p q x t = lost-write x (t ∙ ap ballot_of (lost-other e (get_or bs i off_end) h cells-here (λ (c : cast (get_or bs i off_end) ≡ Some e). is-other v e q (p ∙ c))))

      pub lost-keep : (get_or bs i off_end).len ≡ 0 → Settling e s.ballots bs (i + 1)
      lost-keep q =
          let x = get_or bs i off_end in
          subst (λ (l : List Ballot). Settling e s.ballots l (i + 1)) (set-get_or bs i off_end)
          (lost-write x (sym (B.ballot-held n s.held x (B.fine n s.held x fine-here)) ∙ ap ballot_of (lost-none e x q)))

    pub lost-end : (bs : List Ballot) (i : ℕ) → Settling e s.ballots bs i → i ≡ n → bs ≡ map ballot_of (map (lose e) (map tail_of s.ballots))
    lost-end bs i inv q =
        inv ∙ ap (filled (map (lost e) s.ballots) s.ballots) q ∙
        fill-rest (map (lost e) s.ballots) s.ballots n
        (none-lost n s.held e (drop n s.ballots) (all_drop (ballot_fine n s.held) n s.ballots S.fine) S.rest ∙ sym (drop-map (lost e) n s.ballots)) ∙
        lost-all e s.ballots
