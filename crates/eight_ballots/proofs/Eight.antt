-- Eight ballots, each by its length, its cells and its unused cells.
--     places_fine, places-fine      eight ballots within the limits, as a test of each and of those from office n on
--     none-all                     eight ballots that are none
--     fit_from                      the lengths from a place on
--     fine-tests-all, all_both     the test of all as those of the lengths, of the cells, of the unused cells and of the parts
--     fit_next, fit-done, fit-few  a walk over the lengths: one more, at its end; lengths that fit are at most 32
--     eight-tests                  a test of eight ballots, of four and of four, as the code joins them
-- Assumes nothing.
use mathlib.Core.Path.{◌≡◌, refl, sym, ap, ap₂, ◌∙◌}
use mathlib.Core.Bool.{Bool, true, false, ◌&&◌}
use mathlib.Core.List.{List, [], ◌∷◌, map}
use Prim.Native.Nat.{ℕ, zero, suc, ◌+◌, ◌-◌, ◌<◌, ◌≤◌}
use native.Mathlib.Nat.{not-suc-le-zero, le_of_suc-le-suc, sub-zero}
use native.Mathlib.Omega.{arith}
use lib.Dec.{eqb, leb, ltb}
use lib.ListN.{length, get_or, drop, drop_of_length-le, length-map}
use lib.Seq.{length-take-le}
use borrow.Author.Tests.{eqb-true, eq-eqb, le-leb, leb-true, ltb-true, ltb-false}
use Rattle.lists.specs.Tests.{both, pick, all_b}
use Rattle.lists.proofs.Tests.{both-0, both-1, both_true, both-comm, both-assoc, both-swap, alike, all-mono, all_map, all-mapped, all_drop, drop-map}
use Rattle.lists.proofs.Walk.{and_both, rest-step, with-next, with-done}
use Rattle.protocol.specs.Limits.{is_empty, tail_fine, tails_fine}
use Rattle.protocol_laws.proofs.Limits.{empty-nil}
use Rattle.ballots.specs.Ballots.{ballot_fine, ballot_shape, ballots_fine, empty_ballot, is_no_ballot, off_end, tail_of}
use Rattle.eight_ballots.specs.Fours.{entry_cells, fits_at, of_four}
use Rattle.ballots.specs.declared.Ballot.{Ballot}
use Rattle.eight_ballots.proofs.Fours.{rest_fine, fine-tests}
use Rattle.ballots.proofs.Laws.{tail-fine, none-empty, empty-fine}

-- ── the definition's halves, ballot by ballot ──
abbrev pub places_fine : ℕ → ℕ → List Ballot → Bool
places_fine n held bs = both (all_b (ballot_fine n held) bs) (all_b is_no_ballot (drop n bs))

pub shape_of : (n held : ℕ) (b : Ballot) → ballot_fine n held b ≡ true → ballot_shape b ≡ true
unfolding ballot_fine
shape_of n held b e = both-0 (ballot_shape b) (tail_fine n held (tail_of b)) e

-- a ballot in shape with an empty tail is none
none-shaped : (b : Ballot) → ballot_shape b ≡ true → is_empty (tail_of b) ≡ true → is_no_ballot b ≡ true
unfolding ballot_shape
none-shaped b s e =
    let cells = eqb-true (length b.cells) 32 (both-0 _ _ s) in
    let len = leb-true b.len 32 (both-0 _ _ (both-1 _ _ s)) in
    let none : length (tail_of b) ≡ 0 = ap length (empty-nil (tail_of b) e) in
    eq-eqb 0 b.len (omega (arith, none, length-take-le b.len b.cells (omega arith)))

-- two tests of every ballot make a third
both_halves : (t u : Ballot → Bool) (v : Ballot → Bool) → ((b : Ballot) → t b ≡ true → u b ≡ true → v b ≡ true) → (bs : List Ballot) → all_b t bs ≡ true → all_b u bs ≡ true → all_b v bs ≡ true
unfolding all_b
both_halves t u v h [] p q = refl
both_halves t u v h (b ∷ bs) p q = both_true (v b) (all_b v bs) (h b (both-0 _ _ p) (both-0 _ _ q)) (both_halves t u v h bs (both-1 _ _ p) (both-1 _ _ q))

pub places-fine : (n held : ℕ) (bs : List Ballot) → length bs ≡ 8 → ballots_fine n held bs ≡ places_fine n held bs
unfolding ballots_fine tails_fine ballot_fine
places-fine n held bs eight = alike _ _ to from
  where
    to : ballots_fine n held bs ≡ true → places_fine n held bs ≡ true
    to e =
        let shape = both-0 _ _ e in
        let tails = both-1 _ _ (both-1 _ _ e) in
        both_true _ _
        (both_halves ballot_shape (λ b. tail_fine n held (tail_of b)) (ballot_fine n held) (λ b p q. both_true (ballot_shape b) (tail_fine n held (tail_of b)) p q) bs shape
        (sym (all-mapped (tail_fine n held) tail_of bs) ∙ both-0 _ _ tails))
        (both_halves ballot_shape (λ b. is_empty (tail_of b)) is_no_ballot none-shaped (drop n bs) (all_drop ballot_shape n bs shape)
        (sym (all-mapped is_empty tail_of (drop n bs)) ∙ ap (all_b is_empty) (sym (drop-map tail_of n bs)) ∙ both-1 _ _ tails))

    from : places_fine n held bs ≡ true → ballots_fine n held bs ≡ true
    from e =
        let fine = both-0 _ _ e in
        both_true _ _ (all-mono (ballot_fine n held) ballot_shape (shape_of n held) bs fine)
        (both_true _ _ (eq-eqb (length (map tail_of bs)) 8 (length-map bs tail_of ∙ eight))
        (both_true _ _ (all_map (ballot_fine n held) (tail_fine n held) tail_of (tail-fine n held) bs fine)
        (ap (all_b is_empty) (drop-map tail_of n bs) ∙ all_map is_no_ballot is_empty tail_of none-empty (drop n bs) (both-1 _ _ e))))

-- eight ballots that are none are within the limits
pub none-all : (n held : ℕ) → held ≤ 1024 → (bs : List Ballot) → length bs ≡ 8 → all_b empty_ballot bs ≡ true → true ≡ ballots_fine n held bs
none-all n held h bs eight e =
    sym (places-fine n held bs eight ∙ both_true _ _ (all-mono empty_ballot (ballot_fine n held) (λ b p. (empty-fine n held h b p).0) bs e)
    (all_drop is_no_ballot n bs (all-mono empty_ballot is_no_ballot (λ b p. (empty-fine n held h b p).1) bs e)))

-- ── a ballot at its place ──
-- within its limits, and none from office n on
unfoldable fine_at : ℕ → ℕ → ℕ → Ballot → Bool
fine_at n held place b = both (ballot_fine n held b) (pick (ltb place n) true (is_no_ballot b))

-- the lengths from place i on
unfoldable pub fit_from : ℕ → ℕ → ℕ → List Ballot → Bool
fit_from n held i [] = true
fit_from n held i (b ∷ bs) = both (fits_at n held i b.len) (fit_from n held (i + 1) bs)

-- from office n on, where t is false, only the length 0 passes; it is within the limits
by_length : (l cells t none : Bool) → (none ≡ true → l ≡ true) → both (both l cells) (pick t true none) ≡ both (pick t l none) cells
unfolding both pick
by_length l cells true none f = both-comm (both l cells) true
by_length l cells false false f = both-comm (both l cells) false
by_length l cells false true f = both-comm (both l cells) true ∙ ap (λ (x : Bool). both x cells) (f refl)

cross : (f a z b : Bool) → both (both f a) (both z b) ≡ both (both f z) (both a b)
cross f a z b = simp (both-assoc, both-swap)

mixed : (x y z l e u : Bool) → both (both x (both y z)) (both l (both e u)) ≡ both (both x l) (both (both y e) (both z u))
mixed x y z l e u = simp (both-assoc, both-swap)

-- one ballot, and those behind it
one : (n held i : ℕ) (b : Ballot) (bs : List Ballot) (t : Bool) → ltb i n ≡ t
    → both (all_b (ballot_fine n held) (b ∷ bs)) (all_b is_no_ballot (drop (n - i) (b ∷ bs)))
    ≡ both (fine_at n held i b) (both (all_b (ballot_fine n held) bs) (all_b is_no_ballot (drop (n - (i + 1)) bs)))
unfolding all_b fine_at pick both
one n held i b bs true e =
    let m : n - i ≡ suc (n - (i + 1)) = omega (arith, ltb-true i n e) in
    rw (m, e) (cross (ballot_fine n held b) (all_b (ballot_fine n held) bs) true (all_b is_no_ballot (drop (n - (i + 1)) bs)))
one n held i b bs false e =
    let l = ltb-false i n e in
    let m : n - i ≡ 0 = omega arith in
    let k : n - (i + 1) ≡ 0 = omega arith in
    rw (m, k, e) (cross (ballot_fine n held b) (all_b (ballot_fine n held) bs) (is_no_ballot b) (all_b is_no_ballot bs))

none_left : (k : ℕ) → both true (all_b is_no_ballot (drop k [])) ≡ true
unfolding both all_b
none_left zero = refl
none_left (suc k) = refl

module _ (n held : ℕ) (some : 1 ≤ n) (most : held ≤ 1024) where
  -- the test at a place
  place-tests : (i : ℕ) (b : Ballot) → fine_at n held i b ≡ both (fits_at n held i b.len) (both (entry_cells n b) (rest_fine n b))
  unfolding fine_at fits_at
  place-tests i b =
      ap (λ (t : Bool). both t (pick (ltb i n) true (is_no_ballot b))) (sym (fine-tests n held b some))
      ∙ by_length (both (leb b.len 32) (leb (held + b.len) 1024)) (both (entry_cells n b) (rest_fine n b)) (ltb i n) (is_no_ballot b) none-fits
    where
      none-fits : is_no_ballot b ≡ true → both (leb b.len 32) (leb (held + b.len) 1024) ≡ true
      none-fits e = let l : 0 ≡ b.len = eqb-true 0 b.len e in both_true _ _ (le-leb b.len 32 (omega arith)) (le-leb (held + b.len) 1024 (omega arith))

  from_place : (i : ℕ) (bs : List Ballot) → both (all_b (ballot_fine n held) bs) (all_b is_no_ballot (drop (n - i) bs))
      ≡ both (fit_from n held i bs) (both (all_b (entry_cells n) bs) (all_b (rest_fine n) bs))
  unfolding all_b fit_from both
  from_place i [] = none_left (n - i)
  from_place i (b ∷ bs) =
      one n held i b bs (ltb i n) refl ∙ ap (λ (t : Bool). both t (both (all_b (ballot_fine n held) bs) (all_b is_no_ballot (drop (n - (i + 1)) bs)))) (place-tests i b)
      ∙ ap (both (both (fits_at n held i b.len) (both (entry_cells n b) (rest_fine n b)))) (from_place (i + 1) bs)
      ∙ mixed (fits_at n held i b.len) (entry_cells n b) (rest_fine n b) (fit_from n held (i + 1) bs) (all_b (entry_cells n) bs) (all_b (rest_fine n) bs)

  pub fine-tests-all : (bs : List Ballot) → length bs ≡ 8 → ballots_fine n held bs ≡ both (fit_from n held 0 bs) (both (all_b (entry_cells n) bs) (all_b (rest_fine n) bs))
  fine-tests-all bs eight =
      places-fine n held bs eight ∙ ap (λ (k : ℕ). both (all_b (ballot_fine n held) bs) (all_b is_no_ballot (drop k bs))) (sym (sub-zero n)) ∙ from_place 0 bs

-- two tests of every ballot, each of all of them
pub all_both : (t u : Ballot → Bool) (bs : List Ballot) → both (all_b t bs) (all_b u bs) ≡ all_b (λ (b : Ballot). both (t b) (u b)) bs
unfolding all_b both
all_both t u [] = refl
all_both t u (b ∷ bs) = cross (t b) (all_b t bs) (u b) (all_b u bs) ∙ ap (both (both (t b) (u b))) (all_both t u bs)

-- ── the walk over the lengths ──
module _ (n held : ℕ) (bs : List Ballot) (fit : Bool) (i : ℕ) (inv : fit_from n held 0 bs ≡ both fit (fit_from n held i (drop i bs))) where
  pub fit_next : i < length bs → (x : Bool) → x ≡ fits_at n held i (get_or bs i off_end).len → fit_from n held 0 bs ≡ both (fit && x) (fit_from n held (i + 1) (drop (i + 1) bs))
  unfolding fit_from
  fit_next h x e = inv ∙ rw (rest-step off_end bs i h, sym e) (sym (both-assoc fit x _) ∙ ap (λ (t : Bool). both t (fit_from n held (i + 1) (drop (i + 1) bs))) (sym (and_both fit x)))

  pub fit-done : length bs ≤ i → fit ≡ fit_from n held 0 bs
  unfolding fit_from both
  fit-done h = sym (inv ∙ rw (drop_of_length-le bs h) (both-comm fit true))

-- lengths that fit are at most 32
fits-few : (n held place len : ℕ) → fits_at n held place len ≡ true → len ≤ 32
unfolding fits_at pick
fits-few n held place len e = go (ltb place n) e
  where
    go : (t : Bool) → pick t (both (leb len 32) (leb (held + len) 1024)) (eqb 0 len) ≡ true → len ≤ 32
    go true q = leb-true len 32 (both-0 _ _ q)
    go false q = let z : 0 ≡ len = eqb-true 0 len q in omega arith

pub fit-few : (n held i : ℕ) (bs : List Ballot) → fit_from n held i bs ≡ true → (k : ℕ) → k < length bs → (get_or bs k off_end).len ≤ 32
unfolding fit_from
fit-few n held i [] e k h = absurd (not-suc-le-zero h)
fit-few n held i (b ∷ bs) e zero h = fits-few n held i b.len (both-0 _ _ e)
fit-few n held i (b ∷ bs) e (suc k) h = fit-few n held (i + 1) bs (both-1 _ _ e) k (le_of_suc-le-suc h)

-- ── eight ballots as four and four ──
abbrev of_eight : (Ballot → Bool) → List Ballot → Bool
of_eight t bs = both (of_four t (get_or bs 0 off_end) (get_or bs 1 off_end) (get_or bs 2 off_end) (get_or bs 3 off_end)) (of_four t (get_or bs 4 off_end) (get_or bs 5 off_end) (get_or bs 6 off_end) (get_or bs 7 off_end))

of-eight : (t : Ballot → Bool) (bs : List Ballot) → length bs ≡ 8 → of_eight t bs ≡ all_b t bs
unfolding of_four both
of-eight t bs l =
    let at : ℕ → Bool = λ k. t (get_or bs k off_end) in
    let s1 = with-next t off_end bs true 0 refl (omega arith) (at 0) refl in
    let s2 = with-next t off_end bs (at 0) 1 s1 (omega arith) (at 1) refl in
    let s3 = with-next t off_end bs (at 0 && at 1) 2 s2 (omega arith) (at 2) refl in
    let s4 = with-next t off_end bs ((at 0 && at 1) && at 2) 3 s3 (omega arith) (at 3) refl in
    let x = ((at 0 && at 1) && at 2) && at 3 in
    let s5 = with-next t off_end bs x 4 s4 (omega arith) (at 4) refl in
    let s6 = with-next t off_end bs (x && at 4) 5 s5 (omega arith) (at 5) refl in
    let s7 = with-next t off_end bs ((x && at 4) && at 5) 6 s6 (omega arith) (at 6) refl in
    let s8 = with-next t off_end bs (((x && at 4) && at 5) && at 6) 7 s7 (omega arith) (at 7) refl in
    in-turn (at 0) (at 1) (at 2) (at 3) (at 4) (at 5) (at 6) (at 7) ∙ with-done t off_end bs ((((x && at 4) && at 5) && at 6) && at 7) 8 s8 (omega arith)
  where
    in-turn : (a b c d e f g h : Bool) → both (both (both (both a b) c) d) (both (both (both e f) g) h) ≡ (((((((a && b) && c) && d) && e) && f) && g) && h)
    in-turn a b c d e f g h = simp (and_both, both-assoc)

module _ (t : Ballot → Bool) (bs : List Ballot) (l : length bs ≡ 8) (p q : Bool) where
  pub eight-tests : p ≡ of_four t (get_or bs 0 off_end) (get_or bs 1 off_end) (get_or bs 2 off_end) (get_or bs 3 off_end)
      → q ≡ of_four t (get_or bs 4 off_end) (get_or bs 5 off_end) (get_or bs 6 off_end) (get_or bs 7 off_end) → (p && q) ≡ all_b t bs
  eight-tests e f = and_both p q ∙ ap₂ both e f ∙ of-eight t bs l
