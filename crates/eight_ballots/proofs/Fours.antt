-- The tests that the walks over four ballots make.
--     four-tests, four-none    a test of four ballots, written out, and that of four numbers
--     all-cells                the test of one ballot's cells, of which there are 32
--     coding-cells             cells that all code lines are entries
--     mask-length, mask-used, mask-unused     how many masks there are, the mask of a used cell, and that of an unused one
--     masked-next              a walk that joins unused cells, one cell more
--     unused-begins, unused-ends, unused-none     its begin, its end, and where there is no such cell
--     fine-tests               what is left of the test of a ballot beside those of its cells
-- Assumes nothing.
use mathlib.Core.Path.{◌≡◌, refl, sym, ap, ap₂, ◌∙◌}
use mathlib.Core.Bool.{Bool, true, false, ◌&&◌}
use mathlib.Core.List.{List}
use Prim.Native.Nat.{ℕ, ◌+◌, ◌-◌, ◌<◌, ◌≤◌, max}
use native.Mathlib.Omega.{arith}
use lib.Bits.{bit_and, bit_or, and_zero_r, or_zero_r}
use lib.Dec.{eqb, leb, ltb}
use lib.ListN.{length, get_or, drop, replicate, get_or-replicate, drop_of_length-le, take-append-drop}
use lib.Seq.{get_or-append-add, get_or-take, length-take-le}
use borrow.Author.Tests.{eqb-true, eq-eqb, le-leb, leb-true, lt-ltb, ltb-true, ltb-false}
use Rattle.lists.specs.Tests.{all_b, both, pick}
use Rattle.protocol.specs.Entry.{is_entry, proper}
use Rattle.protocol.specs.Limits.{tail_fine}
use Rattle.lists.proofs.Tests.{all_append, all-mono, all_take, and-true, both-0, both-1, both_true, alike}
use Rattle.entries.specs.Carries.{is_coding}
use Rattle.entries.proofs.Carries.{zero-next}
use Rattle.entries.proofs.Word.{coding-entry}
use Rattle.lists.proofs.Walk.{AllWith, and_both, with-done}
use Rattle.ballots.specs.Ballots.{ballot_fine, ballot_shape, tail_of}
use Rattle.eight_ballots.specs.Fours.{all_cells, coding_cells, entry_cells, mask_words, of_four, unused_zero, fair_tail}
use Rattle.ballots.specs.declared.Ballot.{Ballot}
use Rattle.ballots.proofs.Laws.{fine}

-- four tests, as the code joins them
pub four-tests : (t : Ballot → Bool) (a b c d : Ballot) (p q r s : Bool) → p ≡ t a → q ≡ t b → r ≡ t c → s ≡ t d → (((p && q) && r) && s) ≡ of_four t a b c d
unfolding of_four
four-tests t a b c d p q r s ea eb ec ed =
    and_both ((p && q) && r) s ∙ ap₂ both (and_both (p && q) r ∙ ap₂ both (and_both p q ∙ ap₂ both ea eb) ec) ed

-- four numbers that are all 0
pub four-none : (j k l m : ℕ) → (((eqb j 0 && eqb k 0) && eqb l 0) && eqb m 0) ≡ true → (j ≡ 0) × ((k ≡ 0) × ((l ≡ 0) × (m ≡ 0)))
four-none j k l m e =
    let s = and-true _ _ e in
    let t = and-true _ _ s.0 in
    let u = and-true _ _ t.0 in
    (eqb-true j 0 u.0, (eqb-true k 0 u.1, (eqb-true l 0 t.1, eqb-true m 0 s.1)))

pub all-cells : (t : ℕ → Bool) (b : Ballot) → length b.cells ≡ 32 → all_b t b.cells ≡ all_cells t b
unfolding all_cells both
all-cells t b h = rw (eq-eqb (length b.cells) 32 h)

pub coding-cells : (n : ℕ) (b : Ballot) → coding_cells n b ≡ true → entry_cells n b ≡ true
unfolding all_cells
coding-cells n b e = both_true _ _ (both-0 _ _ e) (all-mono (is_coding n) (is_entry n) (coding-entry n) b.cells (both-1 _ _ e))

-- ── masks ──
pub mask-length : length mask_words ≡ 64
unfolding mask_words
mask-length = refl

pub mask-used : (k : ℕ) → k < 32 → get_or mask_words k 0 ≡ 0
unfolding mask_words
mask-used k h = sym (get_or-take 32 mask_words k 0 h) ∙ get_or-replicate 32 k 0 0 h

pub mask-unused : (k : ℕ) → k < 32 → get_or mask_words (32 + k) 0 ≡ 4294967295
unfolding mask_words
mask-unused k h = get_or-append-add (replicate 32 0) (replicate 32 4294967295) k 0 ∙ get_or-replicate 32 k 4294967295 0 h

-- the walk over one ballot's cells of which the last k are unused, with the masks from place k on: v is the cell at place i under its mask
abbrev pub Unused : List ℕ → ℕ → ℕ → ℕ → Type 0
Unused cells k rest i = AllWith (all_b (eqb 0) (drop (32 - k) cells)) (eqb 0) cells (eqb rest 0) (max (32 - k) i)

pub masked-next : (masks cells : List ℕ) (k rest i v : ℕ) → masks ≡ mask_words → length cells ≡ 32 → i < 32 → k ≤ 32 → Unused cells k rest i
    → (v ≡ bit_and (get_or cells i 0) (get_or masks (k + i) 0)) × (get_or masks (k + i) 0 ≡ 4294967295 → v ≡ get_or cells i 0)
    → Unused cells k (bit_or rest v) (i + 1)
masked-next masks cells k rest i v q full h few inv e = go (ltb i (32 - k)) refl
  where
    mask : (j m : ℕ) → k + i ≡ j → get_or mask_words j 0 ≡ m → get_or masks (k + i) 0 ≡ m
    mask j m w z = ap₂ (λ (l : List ℕ) (x : ℕ). get_or l x 0) q w ∙ z

    go : (t : Bool) → ltb i (32 - k) ≡ t → Unused cells k (bit_or rest v) (i + 1)
    go true l =
        let below = ltb-true i (32 - k) l in
        let z : v ≡ 0 = e.0 ∙ ap (bit_and (get_or cells i 0)) (mask (k + i) 0 refl (mask-used (k + i) (omega arith))) ∙ and_zero_r (get_or cells i 0) in
        let r : bit_or rest v ≡ rest = ap (bit_or rest) z ∙ or_zero_r rest in
        let m : max (32 - k) (i + 1) ≡ max (32 - k) i = omega arith in
        rw (r, m) inv
    go false l =
        let past = ltb-false i (32 - k) l in
        let here : max (32 - k) i ≡ i = omega arith in
        let next : max (32 - k) (i + 1) ≡ i + 1 = omega arith in
        let w : v ≡ get_or cells i 0 = e.1 (mask (32 + (k + i - 32)) 4294967295 (omega arith) (mask-unused (k + i - 32) (omega arith))) in
        rw next (zero-next cells rest i v (omega arith) (rw here at inv) w)

pub unused-begins : (cells : List ℕ) (k : ℕ) → Unused cells k 0 0
unfolding both
unused-begins cells k = let e : max (32 - k) 0 ≡ 32 - k = omega arith in rw e

-- after the walk, or at once where there are none
pub unused-ends : (b : Ballot) (rest i : ℕ) → length b.cells ≡ 32 → b.len ≤ 32 → Unused b.cells (32 - b.len) rest i → 32 ≤ i → eqb rest 0 ≡ unused_zero b
unfolding unused_zero
unused-ends b rest i full few inv h =
    let e : 32 - (32 - b.len) ≡ b.len = omega arith in
    with-done (eqb 0) 0 b.cells (eqb rest 0) (max (32 - (32 - b.len)) i) inv (omega arith) ∙ ap (λ (k : ℕ). all_b (eqb 0) (drop k b.cells)) e

pub unused-none : (b : Ballot) → length b.cells ≡ 32 → 32 - b.len ≡ 0 → true ≡ unused_zero b
unfolding unused_zero all_b
unused-none b full none = let e : length b.cells ≤ b.len = omega arith in sym (ap (all_b (eqb 0)) (drop_of_length-le b.cells e))

-- ── the test of a ballot ──
zero-entry : (n : ℕ) → 1 ≤ n → is_entry n 0 ≡ true
unfolding is_entry proper both pick
zero-entry n some = rw (lt-ltb 0 n (omega arith))

-- what is tested of a ballot behind its length and its cells
abbrev pub rest_fine : ℕ → Ballot → Bool
rest_fine n b = both (unused_zero b) (fair_tail n b)

-- where n is not 0 a cell that is zero is an entry too
pub fine-tests : (n held : ℕ) (b : Ballot) → 1 ≤ n → both (both (leb b.len 32) (leb (held + b.len) 1024)) (both (entry_cells n b) (rest_fine n b)) ≡ ballot_fine n held b
unfolding all_cells unused_zero fair_tail ballot_fine ballot_shape tail_fine
fine-tests n held b some = alike _ _ to from
  where
    to : both (both (leb b.len 32) (leb (held + b.len) 1024)) (both (entry_cells n b) (rest_fine n b)) ≡ true → ballot_fine n held b ≡ true
    to e =
        let lens = both-0 _ _ e in
        let cells = both-0 _ _ (both-1 _ _ e) in
        let l : length (tail_of b) ≡ b.len = length-take-le b.len b.cells (omega (arith, leb-true b.len 32 (both-0 _ _ lens), eqb-true (length b.cells) 32 (both-0 _ _ cells))) in
        both_true _ _ (both_true _ _ (both-0 _ _ cells) (both_true _ _ (both-0 _ _ lens) (both-0 _ _ (both-1 _ _ (both-1 _ _ e)))))
        (both_true _ _ (rw l (both-0 _ _ lens))
        (both_true _ _ (rw l (both-1 _ _ lens)) (both_true _ _ (all_take (is_entry n) b.len b.cells (both-1 _ _ cells)) (both-1 _ _ (both-1 _ _ (both-1 _ _ e))))))

    from : ballot_fine n held b ≡ true → both (both (leb b.len 32) (leb (held + b.len) 1024)) (both (entry_cells n b) (rest_fine n b)) ≡ true
    from e =
        let F = fine n held b e in
        let unused : all_b (is_entry n) (drop b.len b.cells) ≡ true =
        all-mono (eqb 0) (is_entry n) (λ x z. ap (is_entry n) (sym (eqb-true 0 x z)) ∙ zero-entry n some) (drop b.len b.cells) F.zero in
        let cells : all_b (is_entry n) b.cells ≡ true = rw (take-append-drop b.len b.cells) at (all_append (is_entry n) (tail_of b) (drop b.len b.cells) F.entries unused) in
        both_true _ _ (both_true _ _ (le-leb b.len 32 F.len) (le-leb (held + b.len) 1024 F.path))
        (both_true _ _ (both_true _ _ (eq-eqb (length b.cells) 32 F.cells) cells) (both_true _ _ F.zero F.parts))
