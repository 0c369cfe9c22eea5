-- The walks over the rows and the votes.
--     any-in                             whether an entry has a row
--     vote-none, vote-again, vote-new    what one vote does to the rows
--     SoFar, rows_none, rows_few, rows_next, rows-done      the rows of the first i votes, and what is left of the others
--     mark-at, marks-length              the marks, one for each office
--     mark-is                            the mark that the code makes
--     marks-next, marks-done             which offices are silent, written into eight cells
-- Assumes nothing.
use mathlib.Core.Path.{◌≡◌, refl, sym, ap, ap₂, subst, ◌∙◌}
use mathlib.Core.List.{List, [], ◌∷◌, ◌++◌, map, append_assoc, append-nil}
use Rattle.std.specs.Prelude.{Option, None, Some}
use mathlib.Core.Bool.{Bool, true, false, true≢false, cond, not, ◌||◌}
use Prim.Native.Nat.{ℕ, zero, suc, ◌+◌, ◌-◌, ◌<◌, ◌≤◌}
use native.Mathlib.Nat.{not-suc-le-zero, le_of_suc-le-suc}
use native.Mathlib.Omega.{arith}
use lib.Dec.{eqb}
use lib.ListN.{length, get_or, take, drop, set, replicate, length-map, length-append, length-replicate, drop_of_length-le}
use lib.Seq.{take_all, set_at, take_at}
use borrow.Author.Tests.{eqb-true}
use Rattle.lists.proofs.Tests.{if-cases, pick_true, pick-false}
use Rattle.std.specs.List.{list_any}
use Rattle.std.specs.Option.{is_some}
use mir.Val.{bool_byte}
use Rattle.lists.proofs.Fill.{filled, front-step}
use Rattle.protocol.specs.Vote.{Votes, later, is_none, tally, and-also, supported}
use Rattle.tallies.specs.Tallies.{votes_in, weight_for}
use Rattle.tallies.proofs.Walks.{supported-step}
use Rattle.lists.specs.Padded.{in_eight}
use Rattle.bounds.proofs.Walks.{zeros-left}
use Rattle.rows.specs.Rows.{without, distinct, row_entries, rows_for, rows_of, marks, is_in, with_row, with_vote}
use Rattle.rows.specs.declared.Rows.{Rows}

-- ── one vote ──
pub any-in : (e : ℕ) (xs : List ℕ) → list_any (λ (x : ℕ). eqb x e) xs ≡ is_in e xs
unfolding is_in
any-in e [] = refl
any-in e (x ∷ xs) = ap (λ (b : Bool). eqb x e || b) (any-in e xs)

module _ (r : Rows) (weigh : Option ℕ → ℕ) (x : Option ℕ) where
  pub vote-none : x ≡ None → r ≡ with_vote (weigh x) x r
  unfolding with_vote
  vote-none h = rw h refl

  module _ (e : ℕ) (h : x ≡ Some e) (b : Bool) (q : b ≡ is_in e (take r.count r.entries)) where
    pub vote-again : b ≡ true → r ≡ with_vote (weigh x) x r
    unfolding with_vote
    vote-again p = rw h (sym (pick_true (is_in e (take r.count r.entries)) r _ (sym q ∙ p)))

    pub vote-new : b ≡ false → (w : ℕ) → w ≡ weigh (Some e) → with_row w e r ≡ with_vote (weigh x) x r
    unfolding with_vote
    vote-new p w s =
        rw h (ap (λ (y : ℕ). with_row y e r) s ∙ sym (pick-false (is_in e (take r.count r.entries)) r _ (sym q ∙ p)))

-- ── the entries that stand not among some others ──
pub lacking : List ℕ → List ℕ → List ℕ
lacking ds [] = []
lacking ds (y ∷ ys) = cond (is_in y ds) (lacking ds ys) (y ∷ lacking ds ys)

in-behind : (y x : ℕ) (ds : List ℕ) → is_in y (ds ++ (x ∷ [])) ≡ (is_in y ds || eqb x y)
unfolding is_in
in-behind y x [] = go (eqb x y)
  where
    go : (t : Bool) → (t || false) ≡ t
    go true = refl
    go false = refl
in-behind y x (d ∷ ds) = ap (λ (t : Bool). eqb d y || t) (in-behind y x ds) ∙ go (eqb d y) (is_in y ds) (eqb x y)
  where
    go : (a b c : Bool) → (a || (b || c)) ≡ ((a || b) || c)
    go true b c = refl
    go false b c = refl

-- x is one of them already
lacking-has : (ds : List ℕ) (x : ℕ) (l : List ℕ) → is_in x ds ≡ true → lacking ds (without x l) ≡ lacking ds l
unfolding lacking without
lacking-has ds x [] h = refl
lacking-has ds x (y ∷ l) h = if-cases (λ r. lacking ds r ≡ cond (is_in y ds) (lacking ds l) (y ∷ lacking ds l)) (eqb x y) (without x l) (y ∷ without x l)
    (λ q. subst (λ (z : ℕ). lacking ds (without x l) ≡ cond (is_in z ds) (lacking ds l) (z ∷ lacking ds l)) (eqb-true x y q) (rw h (lacking-has ds x l h)))
    (λ _. ap (λ (r : List ℕ). cond (is_in y ds) r (y ∷ r)) (lacking-has ds x l h))

-- x is one more of them
lacking-more : (ds : List ℕ) (x : ℕ) (l : List ℕ) → lacking ds (without x l) ≡ lacking (ds ++ (x ∷ [])) l
unfolding lacking without
lacking-more ds x [] = refl
lacking-more ds x (y ∷ l) = go (eqb x y) refl (lacking-more ds x l)
  where
    or-false : (t : Bool) → (t || false) ≡ t
    or-false true = refl
    or-false false = refl

    or-true : (t : Bool) → (t || true) ≡ true
    or-true true = refl
    or-true false = refl

    go : (t : Bool) → eqb x y ≡ t → lacking ds (without x l) ≡ lacking (ds ++ (x ∷ [])) l
        → lacking ds (cond t (without x l) (y ∷ without x l))
        ≡ cond (is_in y (ds ++ (x ∷ []))) (lacking (ds ++ (x ∷ [])) l) (y ∷ lacking (ds ++ (x ∷ [])) l)
    go true q ih = rw (in-behind y x ds, q, or-true (is_in y ds)) ih
    go false q ih = rw (in-behind y x ds, q, or-false (is_in y ds)) (ap (λ (r : List ℕ). cond (is_in y ds) r (y ∷ r)) ih)

-- ── eight cells with one more ──
eight-more : (ds : List ℕ) (x : ℕ) (k : ℕ) → length ds ≡ k → k < 8 → set (in_eight ds) k x ≡ in_eight (ds ++ (x ∷ []))
eight-more ds x k e h =
    ap (λ (l : List ℕ). set (ds ++ l) k x) (ap (λ (j : ℕ). replicate j 0) left) ∙ set_at ds 0 (replicate (8 - length (ds ++ (x ∷ []))) 0) x k e ∙
    sym (append_assoc ds (x ∷ []) (replicate (8 - length (ds ++ (x ∷ []))) 0))
  where
    left : 8 - length ds ≡ suc (8 - length (ds ++ (x ∷ [])))
    left = omega (arith, length-append ds (x ∷ []))

map-behind : (f : ℕ → ℕ) (ds : List ℕ) (x : ℕ) → map f (ds ++ (x ∷ [])) ≡ map f ds ++ (f x ∷ [])
map-behind f [] x = refl
map-behind f (d ∷ ds) x = ap (λ (l : List ℕ). f d ∷ l) (map-behind f ds x)

-- ── the rows of the first i votes ──
pub record SoFar (ws : List ℕ) (xs : List (Option ℕ)) (r : Rows) (i : ℕ) : Type 0 where
  pub ds : List ℕ
  pub few : length ds ≤ i
  pub laid : r ≡ rows_for ws (votes_in xs) ds
  pub all : row_entries ws (votes_in xs) ≡ ds ++ lacking ds (distinct (supported (drop i ws) (votes_in (drop i xs))))

lacking-none : (l : List ℕ) → lacking [] l ≡ l
unfolding lacking is_in
lacking-none [] = refl
lacking-none (y ∷ l) = ap (λ (r : List ℕ). y ∷ r) (lacking-none l)

module _ (ws : List ℕ) (xs : List (Option ℕ)) where
  pub rows_none : SoFar ws xs (record { count = 0; entries = replicate 8 0; tallies = replicate 8 0 }) 0
  unfolding row_entries
  rows_none = record { ds = []; few = omega arith; laid = refl; all = sym (lacking-none (distinct (supported ws (votes_in xs)))) }

  module _ (r : Rows) (i : ℕ) (S : SoFar ws xs r i) where
    abbrev rest : List ℕ
    rest = supported (drop (i + 1) ws) (votes_in (drop (i + 1) xs))

    -- what there is, by a vote and what is behind it
    abbrev Left : Option ℕ → Type 0
    Left x = row_entries ws (votes_in xs) ≡ S.ds ++ lacking S.ds (distinct (and-also x rest))

    left : i < length xs → i < length ws → Left (get_or xs i None)
    left hx hw = S.all ∙ ap (λ (l : List ℕ). S.ds ++ lacking S.ds (distinct l)) (supported-step xs ws i hx hw)

    pub rows_few : r.count ≤ i
    rows_few = let f = S.few in omega (arith, ap (λ (x : Rows). x.count) S.laid)

    -- the entries that the rows have
    rows-have : take r.count r.entries ≡ S.ds
    rows-have = ap (λ (x : Rows). take x.count x.entries) S.laid ∙ take_at S.ds (replicate (8 - length S.ds) 0) (length S.ds) refl

    again : (x : ℕ) → is_in x S.ds ≡ true → Left (Some x) → (next : Rows) → next ≡ r → SoFar ws xs next (i + 1)
    unfolding lacking distinct
    again x h all next q = record {
      ds = S.ds;
      few = let f = S.few in omega arith;
      laid = q ∙ S.laid;
      all = all ∙ ap (λ (l : List ℕ). S.ds ++ l) (simp h (lacking-has S.ds x (distinct rest) h));
    }

    new : (x : ℕ) → is_in x S.ds ≡ false → Left (Some x) → i < 8 → (next : Rows) → next ≡ with_row (tally ws (votes_in xs) x) x r → SoFar ws xs next (i + 1)
    unfolding lacking distinct
    new x h all few next q = record {
      ds = S.ds ++ (x ∷ []);
      few = let f = S.few in omega (arith, length-append S.ds (x ∷ []));
      laid = q ∙ ap (with_row (t x) x) S.laid ∙ more;
      all = all ∙ ap (λ (l : List ℕ). S.ds ++ l) (simp h (ap (λ (l : List ℕ). x ∷ l) (lacking-more S.ds x (distinct rest)))) ∙
          sym (append_assoc S.ds (x ∷ []) (lacking (S.ds ++ (x ∷ [])) (distinct rest)));
    }
      where
        t : ℕ → ℕ
        t = tally ws (votes_in xs)

        short : length S.ds < 8
        short = let f = S.few in omega arith

        counted : length S.ds + 1 ≡ length (S.ds ++ (x ∷ []))
        counted = sym (length-append S.ds (x ∷ []))

        more : with_row (t x) x (rows_for ws (votes_in xs) S.ds) ≡ rows_for ws (votes_in xs) (S.ds ++ (x ∷ []))
        more = λ j. record {
          count = counted j;
          entries = eight-more S.ds x (length S.ds) refl short j;
          tallies = (eight-more (map t S.ds) (t x) (length S.ds) (length-map S.ds t) short ∙ ap in_eight (sym (map-behind t S.ds x))) j;
        }

    pub rows_next : length xs ≡ 8 → length ws ≡ 8 → i < 8 → (next : Rows)
        → next ≡ with_vote (weight_for ws (votes_in xs) (get_or xs i None)) (get_or xs i None) r → SoFar ws xs next (i + 1)
    unfolding with_vote
    rows_next hx hw few next q = go (get_or xs i None) (left (omega arith) (omega arith)) q
      where
        entry : (x : ℕ) (b : Bool) → is_in x S.ds ≡ b → Left (Some x)
            → next ≡ with_vote (tally ws (votes_in xs) x) (Some x) r → SoFar ws xs next (i + 1)
        entry x true d all q = again x d all next (q ∙ pick_true _ _ _ (ap (is_in x) rows-have ∙ d))
        entry x false d all q = new x d all few next (q ∙ pick-false _ _ _ (ap (is_in x) rows-have ∙ d))

        go : (x : Option ℕ) → Left x → next ≡ with_vote (weight_for ws (votes_in xs) x) x r → SoFar ws xs next (i + 1)
        go None all q = record { ds = S.ds; few = let f = S.few in omega arith; laid = q ∙ S.laid; all = all }
        go (Some x) all q = entry x (is_in x S.ds) refl all q

    pub rows-done : length ws ≤ i → r ≡ rows_of ws (votes_in xs)
    unfolding rows_of lacking distinct supported
    rows-done h =
        S.laid ∙ ap (rows_for ws (votes_in xs))
        (sym (S.all ∙ ap (λ (l : List ℕ). S.ds ++ lacking S.ds (distinct (supported l (votes_in (drop i xs))))) (drop_of_length-le ws h) ∙ append-nil S.ds))

-- ── which offices are silent ──
pub marks-length : (n : ℕ) (v : Votes) → length (marks n v) ≡ n
unfolding marks
marks-length zero v = refl
marks-length (suc n) v = ap suc (marks-length n (later v))

pub mark-at : (n : ℕ) (v : Votes) (k : ℕ) → k < n → get_or (marks n v) k 0 ≡ cond (is_none (v k)) 1 0
unfolding marks
mark-at zero v k h = absurd (not-suc-le-zero h)
mark-at (suc n) v zero h = refl
mark-at (suc n) v (suc k) h = mark-at n (later v) k (le_of_suc-le-suc h)

pub mark-is : (x : Option ℕ) (b : Bool) → is_some x ≡ not b → bool_byte b ≡ cond (is_none x) 1 0
mark-is None true h = refl
mark-is None false h = absurd (true≢false (sym h))
mark-is (Some e) true h = absurd (true≢false h)
mark-is (Some e) false h = refl

module _ (n : ℕ) (xs : List (Option ℕ)) (cs : List ℕ) (i : ℕ)
    (inv : cs ≡ filled (marks n (votes_in xs)) (replicate 8 0) i) where
  pub marks-next : n ≤ 8 → i < n → (x : ℕ) → x ≡ cond (is_none (get_or xs i None)) 1 0
      → set cs i x ≡ filled (marks n (votes_in xs)) (replicate 8 0) (i + 1)
  marks-next few h x p =
      ap₂ (λ (l : List ℕ) (y : ℕ). set l i y) inv (p ∙ sym (mark-at n (votes_in xs) i h)) ∙
      front-step 0 (marks n (votes_in xs)) (replicate 8 0) i (omega (arith, marks-length n (votes_in xs))) (omega (arith, length-replicate {A = ℕ} 8 0))

  pub marks-done : i ≡ n → cs ≡ in_eight (marks n (votes_in xs))
  marks-done h =
      let l = marks-length n (votes_in xs) in
      inv ∙ ap₂ (λ (a b : List ℕ). a ++ b) (take_all i (marks n (votes_in xs)) (omega (arith, l)))
      (zeros-left i 8 ∙ ap (λ (k : ℕ). replicate (8 - k) 0) (h ∙ sym l))
