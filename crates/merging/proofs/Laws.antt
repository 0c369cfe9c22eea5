-- Take's work on tails is the protocol's on whole paths.
--     rebased-past, adopt-past     one ballot under a longer log, and one ballot with its offer
--     take_past                    all of take: the log that it leaves, and the ballots
-- Assumes nothing.
use mathlib.Core.Path.{◌≡◌, refl, sym, ap, ap₂, subst, ◌∙◌}
use mathlib.Core.Bool.{Bool, true, false, cond}
use mathlib.Core.Logic.{◌⊎◌, inl, inr}
use mathlib.Core.List.{List, [], ◌∷◌, ◌++◌, map, append_assoc, append-nil}
use Prim.Native.Nat.{ℕ}
use lib.ListN.{length, drop}
use borrow.Author.Tests.{eq-eqb}
use Rattle.lists.specs.Tests.{pick}
use Rattle.protocol.specs.Beginning.{◌⊑◌, ◌⊏◌, extends}
use Rattle.protocol.specs.Office.{Office, Message}
use Rattle.protocol.specs.Take.{rebased, rebase, catch_up, adopt, adopts, offers, with_take}
use Rattle.protocol_laws.proofs.Beginning.{⊏-⊑, ⊑-⊏-trans, ⊏-irrefl, ⊑-append, ⊑-rest, ⊏-cons, extends-true, extends-of, extends-false}
use Rattle.ballots.specs.declared.Ballot.{Ballot}
use Rattle.ballots.specs.Ballots.{ballot_of}
use Rattle.ballots.proofs.Laws.{tail-of}
use Rattle.merging.specs.Merging.{rest_past, past_ballot, adopted_ballot, adopted_all}

-- ── tails for paths ──
extends-behind : (l t x : List ℕ) → extends (l ++ t) (l ++ x) ≡ extends t x
unfolding extends
extends-behind [] t x = refl
extends-behind (y ∷ l) t x = rw (eq-eqb y y refl) (extends-behind l t x)

drop-behind : (l t x : List ℕ) → drop (length (l ++ x)) (l ++ t) ≡ drop (length x) t
drop-behind [] t x = refl
drop-behind (y ∷ l) t x = drop-behind l t x

cond-pick : (b : Bool) (x y : List ℕ) → cond b x y ≡ pick b x y
unfolding pick
cond-pick true x y = refl
cond-pick false x y = refl

not_extended : (b a : List ℕ) → (a ⊏ b → ⊥) → extends b a ≡ false
not_extended b a h = go (extends b a) refl
  where
    go : (r : Bool) → extends b a ≡ r → r ≡ false
    go false e = refl
    go true e = absurd (h (extends-true b a e))

pub rebased-past : (l x t : List ℕ) → rebased l (l ++ x) t ≡ rest_past x t
unfolding rest_past
rebased-past l x t = rw (extends-behind l t x, drop-behind l t x) (cond-pick (extends t x) (drop (length x) t) [])

-- a log that is not longer leaves every tail
pub rest-past-nil : (t : List ℕ) → rest_past [] t ≡ t
unfolding rest_past extends pick
rest-past-nil [] = refl
rest-past-nil (y ∷ t) = refl

nothing-extends : (t : List ℕ) → extends [] t ≡ false
unfolding extends
nothing-extends [] = refl
nothing-extends (y ∷ t) = refl

-- the tail that is left where another is offered
unfoldable adopted_tail : List ℕ → List ℕ → List ℕ
adopted_tail t q = pick (extends q t) q t

adopt-past : (m x t q : List ℕ) → adopt (m ++ x) t (m ++ q) ≡ adopted_tail t (rest_past x q)
unfolding adopted_tail rest_past pick
adopt-past m x t q =
    rw (append_assoc m x t, extends-behind m q (x ++ t), drop-behind m q x) (cond-pick (extends q (x ++ t)) (drop (length x) q) t ∙ go (extends q x) refl)
  where
    go : (b : Bool) → extends q x ≡ b → pick (extends q (x ++ t)) (drop (length x) q) t ≡ adopted_tail t (rest_past x q)
    go true e =
        let same : x ++ drop (length x) q ≡ q = ⊑-rest x q (⊏-⊑ x q (extends-true q x e)) in
        rw (e, ← extends-behind x (drop (length x) q) t, same)
    go false e = rw (e, nothing-extends t, not_extended q (x ++ t) (λ h. extends-false q x e (⊑-⊏-trans x (x ++ t) q (⊑-append x t) h)))

-- ── ballots for tails ──
past-held : (x t : List ℕ) → past_ballot x (ballot_of t) ≡ ballot_of (rest_past x t)
unfolding past_ballot
past-held x t = ap (λ (s : List ℕ). ballot_of (rest_past x s)) (tail-of t)

adopted-held : (t s : List ℕ) → adopted_ballot (ballot_of t) (ballot_of s) ≡ ballot_of (adopted_tail t s)
unfolding adopted_ballot adopted_tail pick
adopted-held t s = rw (tail-of t, tail-of s) (go (extends s t))
  where
    go : (b : Bool) → pick b (ballot_of s) (ballot_of t) ≡ ballot_of (pick b s t)
    go true = refl
    go false = refl

pasts-held : (x : List ℕ) (ts : List (List ℕ)) → map (past_ballot x) (map ballot_of ts) ≡ map ballot_of (map (rest_past x) ts)
pasts-held x [] = refl
pasts-held x (t ∷ ts) = ap₂ (λ (b : Ballot) (bs : List Ballot). b ∷ bs) (past-held x t) (pasts-held x ts)

adopts-held : (m x : List ℕ) (ts qs : List (List ℕ)) → map ballot_of (adopts (m ++ x) ts m qs) ≡ adopted_all x (map ballot_of ts) (map ballot_of qs)
unfolding adopted_all
adopts-held m x [] qs = refl
adopts-held m x (t ∷ ts) [] = refl
adopts-held m x (t ∷ ts) (q ∷ qs) =
    ap₂ (λ (b : Ballot) (bs : List Ballot). b ∷ bs)
    (ap ballot_of (adopt-past m x t q) ∙ sym (ap (adopted_ballot (ballot_of t)) (past-held x q) ∙ adopted-held t (rest_past x q)))
    (adopts-held m x ts qs)

-- ── an office that catches up ──
rebased-all : (l x : List ℕ) (ts : List (List ℕ)) → map (rebased l (l ++ x)) ts ≡ map (rest_past x) ts
rebased-all l x [] = refl
rebased-all l x (t ∷ ts) = ap₂ (λ (s : List ℕ) (ss : List (List ℕ)). s ∷ ss) (rebased-past l x t) (rebased-all l x ts)

kept-all : (ts : List (List ℕ)) → map (rest_past []) ts ≡ ts
kept-all [] = refl
kept-all (t ∷ ts) = ap₂ (λ (s : List ℕ) (ss : List (List ℕ)). s ∷ ss) (rest-past-nil t) (kept-all ts)

abbrev grown : Office → List ℕ → Office
grown o x = record { log = o.log ++ x; tails = map (rest_past x) o.tails }

grown-nil : (o : Office) → o ≡ grown o []
grown-nil o = λ i. record { log = sym (append-nil o.log) i; tails = sym (kept-all o.tails) i }

catch-up-longer : (o : Office) (x : List ℕ) → catch_up (o.log ++ x) o ≡ grown o x
unfolding catch_up rebase
catch-up-longer o [] = rw (not_extended (o.log ++ []) o.log (λ h. ⊏-irrefl o.log (rw append-nil at h))) (grown-nil o)
catch-up-longer o (y ∷ x) =
    rw (extends-of (o.log ++ (y ∷ x)) o.log (⊏-cons o.log y x))
    (ap (λ (ts : List (List ℕ)). record { log = o.log ++ (y ∷ x); tails = ts }) (rebased-all o.log (y ∷ x) o.tails))

catch-up-shorter : (o : Office) (m x : List ℕ) → m ++ x ≡ o.log → catch_up m o ≡ o
unfolding catch_up
catch-up-shorter o m x e =
    let shorter : m ⊑ o.log = subst (λ (l : List ℕ). m ⊑ l) e (⊑-append m x) in
    rw (not_extended m o.log (λ h. ⊏-irrefl m (⊑-⊏-trans m o.log m shorter h)))

-- ── take ──
-- the log and the ballots after a take, by the words x that the settled log lacks and the words y that the message's log lacks
pub record Taking (k : ℕ) (m : Message) (o : Office) (x y : List ℕ) : Type 0 where
  pub log : (with_take k m o).log ≡ o.log ++ x
  pub ballots : map ballot_of (with_take k m o).tails ≡ adopted_all y (map (past_ballot x) (map ballot_of o.tails)) (map ballot_of (offers k m))

pub take_past : (k : ℕ) (m : Message) (o : Office) (x y : List ℕ) → o.log ++ x ≡ m.state.log ++ y → (x ≡ []) ⊎ (y ≡ []) → Taking k m o x y
unfolding with_take
take_past k m o x y e c = record {
  log = ap (λ (q : Office). q.log) caught;
  ballots = ap (λ (q : Office). map ballot_of (adopts q.log q.tails m.state.log (offers k m))) caught
      ∙ ap (λ (l : List ℕ). map ballot_of (adopts l (map (rest_past x) o.tails) m.state.log (offers k m))) e
      ∙ adopts-held m.state.log y (map (rest_past x) o.tails) (offers k m)
      ∙ ap (λ (bs : List Ballot). adopted_all y bs (map ballot_of (offers k m))) (sym (pasts-held x o.tails));
}
  where
    go : (x ≡ []) ⊎ (y ≡ []) → catch_up m.state.log o ≡ grown o x
    go (inl n) =
        let none : o.log ++ x ≡ o.log = rw (n, append-nil) in
        catch-up-shorter o m.state.log y (sym e ∙ none) ∙ grown-nil o ∙ ap (grown o) (sym n)
    go (inr n) =
        let same : m.state.log ≡ o.log ++ x = sym (e ∙ rw (n, append-nil)) in
        ap (λ (l : List ℕ). catch_up l o) same ∙ catch-up-longer o x

    caught : catch_up m.state.log o ≡ grown o x
    caught = go c
