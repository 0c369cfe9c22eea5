-- The claims of request (xi) on the two calls.
--     four-answers      of two vectors of one length the answer is one of four, each given exactly when it should be
--     version-path      the versions behind the log are the offices' paths
--     whole-vector      where the dropped entries left the kept counts, a version's vector is that of these entries and the version
--     read_back         each vector of a done write is read back, and answers "equal" for what it was written from
-- Assumes nothing.
use mathlib.Core.Path.{◌≡◌, refl, sym, ap, ap₂, ◌∙◌}
use mathlib.Core.Bool.{Bool, true, false, true≢false}
use mathlib.Core.Logic.{◌⊎◌, inl, inr}
use mathlib.Core.List.{List, [], ◌∷◌, ◌++◌, map, append_assoc, append-nil}
use Prim.Native.Nat.{ℕ, zero, suc, ◌*◌, ◌-◌, ◌<◌, ◌≤◌, zero-le}
use native.Mathlib.Nat.{mul-zero, not-suc-le-zero, le_of_suc-le-suc}
use native.Mathlib.Omega.{arith}
use lib.Dec.{leb, ltb}
use lib.ListN.{length, get_or, take, drop, replicate, length-append, length-map, get_or-append}
use lib.Seq.{ext_get_or, get_or-take, take_at, drop_at}
use borrow.Author.Tests.{eq-eqb, le-leb, leb-true, lt-ltb}
use Rattle.lists.specs.Tests.{all_b, pick}
use Rattle.lists.proofs.Tests.{all-at, all_map, all_of, all_take, both-0, both-1, both_true, get_d_map}
use Rattle.numbers.specs.Numbers.{be64, bytes64, run_at}
use Rattle.numbers.proofs.Runs.{drop_more, run-said}
use Rattle.protocol.specs.Counts.{no_counts, count_of, counts_after}
use Rattle.protocol.specs.Limits.{tail_fine}
use Rattle.protocol.specs.Office.{path}
use Rattle.protocol_laws.proofs.Counts.{counts-length, counts-most}
use Rattle.protocol_laws.proofs.Limits.{fine-tail}
use Rattle.ballots.specs.Ballots.{ballot_fine, tail_of}
use Rattle.ballots.proofs.Laws.{tail-fine}
use Rattle.spelling.proofs.Items.{room_for}
use Rattle.vectors.specs.Vectors.{EachAtMost, kept_count_limit, vector_bytes, vector_of, versions_bytes}
use Rattle.vectors.proofs.Items.{is_count, count_item}
use Rattle.vectors.proofs.Vectors.{kept-vector, paths-length, vector-length}
use Rattle.versions.specs.Versions.{after, answers_to, at_most, before, beside, compared_to, counts_in, equal, is_vector, nine, stands}
use Rattle.frame.specs.State.{held_length, held_by}
use Rattle.frame.specs.Soundness.{sound_b, Sound}
use Rattle.frame.specs.declared.Record.{Record}
use Rattle.frame.proofs.Sound.{sound}
use Rattle.frame.proofs.State.{log-length}
use Rattle.archive.specs.Writing.{start_of, vectors_of, versions, write_bytes, write_number, write_of}
use Rattle.archive.specs.Comparison.{compare_number, compare_of}
use Rattle.archive.proofs.Writing.{start-long, start-few}
use Rattle.archive.specs.Claims.{EachLeq, FourAnswers, ReadBack, vector_at, version_at, written_at}

-- ── four answers ──
at-most-leq : (a b : List ℕ) → at_most a b ≡ true → EachLeq a b
unfolding at_most
at-most-leq [] b e k = zero-le
at-most-leq (x ∷ a) [] e k = absurd (true≢false (sym e))
at-most-leq (x ∷ a) (y ∷ b) e zero = leb-true x y (both-0 _ _ e)
at-most-leq (x ∷ a) (y ∷ b) e (suc k) = at-most-leq a b (both-1 _ _ e) k

leq-at-most : (a b : List ℕ) → length a ≡ length b → EachLeq a b → at_most a b ≡ true
unfolding at_most
leq-at-most [] b l h = refl
leq-at-most (x ∷ a) [] l h = absurd (omega arith)
leq-at-most (x ∷ a) (y ∷ b) l h = both_true (leb x y) (at_most a b) (le-leb x y (h 0)) (leq-at-most a b (omega arith) (λ k. h (suc k)))

at-most-not : (a b : List ℕ) → length a ≡ length b → at_most a b ≡ false → EachLeq a b → ⊥
at-most-not a b l e h = true≢false (sym (leq-at-most a b l h) ∙ e)

not-at-most : (a b : List ℕ) → (EachLeq a b → ⊥) → at_most a b ≡ false
not-at-most a b h = go (at_most a b) refl
  where
    go : (t : Bool) → at_most a b ≡ t → t ≡ false
    go true e = absurd (h (at-most-leq a b e))
    go false e = refl

-- which two tests an answer stands for
stands_one : (l h : Bool) → (stands l h ≡ before) ⊎ ((stands l h ≡ equal) ⊎ ((stands l h ≡ after) ⊎ (stands l h ≡ beside)))
unfolding stands
stands_one true true = inr (inl refl)
stands_one true false = inl refl
stands_one false true = inr (inr (inl refl))
stands_one false false = inr (inr (inr refl))

-- an answer says both tests
tests-of : (l h l' h' : Bool) → stands l h ≡ stands l' h' → (l ≡ l') × (h ≡ h')
unfolding stands
tests-of true true true true e = (refl, refl)
tests-of true true true false e = absurd (omega (arith, e))
tests-of true true false true e = absurd (omega (arith, e))
tests-of true true false false e = absurd (omega (arith, e))
tests-of true false true true e = absurd (omega (arith, e))
tests-of true false true false e = (refl, refl)
tests-of true false false true e = absurd (omega (arith, e))
tests-of true false false false e = absurd (omega (arith, e))
tests-of false true true true e = absurd (omega (arith, e))
tests-of false true true false e = absurd (omega (arith, e))
tests-of false true false true e = (refl, refl)
tests-of false true false false e = absurd (omega (arith, e))
tests-of false false true true e = absurd (omega (arith, e))
tests-of false false true false e = absurd (omega (arith, e))
tests-of false false false true e = absurd (omega (arith, e))
tests-of false false false false e = (refl, refl)

module _ (a b : List ℕ) (l : length a ≡ length b) where
  compared_is : (x y : Bool) → at_most a b ≡ x → at_most b a ≡ y → compared_to a b ≡ stands x y
  unfolding compared_to
  compared_is x y p q = ap₂ stands p q

  found : (x y : Bool) → compared_to a b ≡ stands x y → (at_most a b ≡ x) × (at_most b a ≡ y)
  unfolding compared_to
  found x y e = tests-of (at_most a b) (at_most b a) x y e

  same-counts : EachLeq a b → EachLeq b a → a ≡ b
  same-counts h g = ext_get_or 0 a b l (λ k _. omega (arith, h k, g k))

  pub four-answers : FourAnswers a b
  unfolding compared_to stands
  four-answers = record {
    complete = stands_one (at_most a b) (at_most b a);
    comes-before = (
      λ e. let f = found true false e in (at-most-leq a b f.0, at-most-not b a (sym l) f.1),
      λ h. compared_is true false (leq-at-most a b l h.0) (not-at-most b a h.1),
    );
    equals = (
      λ e. let f = found true true e in same-counts (at-most-leq a b f.0) (at-most-leq b a f.1),
      λ e. compared_is true true (leq-at-most a b l (λ k. omega (arith, ap (λ (c : List ℕ). count_of c k) e))) (leq-at-most b a (sym l) (λ k. omega (arith, ap (λ (c : List ℕ). count_of c k) e))),
    );
    comes-after = (
      λ e. let f = found false true e in (at-most-leq b a f.1, at-most-not a b l f.0),
      λ h. compared_is false true (not-at-most a b h.1) (leq-at-most b a (sym l) h.0),
    );
    stands-beside = (
      λ e. let f = found false false e in (at-most-not a b l f.0, at-most-not b a (sym l) f.1),
      λ h. compared_is false false (not-at-most a b h.0) (not-at-most b a h.1),
    );
  }

-- ── one vector of those written ──
in-range : {A : Type 0} (d e : A) (xs : List A) (i : ℕ) → i < length xs → get_or xs i d ≡ get_or xs i e
in-range d e [] i h = absurd (not-suc-le-zero h)
in-range d e (x ∷ xs) zero h = refl
in-range d e (x ∷ xs) (suc i) h = in-range d e xs i (le_of_suc-le-suc h)

-- n counts, from those in `start` on
module _ (n : ℕ) (start : List ℕ) (long : length start ≡ n) where
  piece : (ps : List (List ℕ)) (rest : List ℕ) (i : ℕ) → i < length ps → take (8 * n) (drop (8 * n * i) (versions_bytes start ps ++ rest)) ≡ vector_bytes start (get_or ps i [])
  unfolding versions_bytes
  piece [] rest i h = absurd (not-suc-le-zero h)
  piece (p ∷ ps) rest zero h =
      ap (λ (k : ℕ). take (8 * n) (drop k ((vector_bytes start p ++ versions_bytes start ps) ++ rest))) (mul-zero (8 * n))
      ∙ ap (take (8 * n)) (append_assoc (vector_bytes start p) (versions_bytes start ps) rest) ∙ take_at (vector_bytes start p) (versions_bytes start ps ++ rest) (8 * n) (vector-length n start long p)
  piece (p ∷ ps) rest (suc i) h =
      ap (take (8 * n)) (drop_more (8 * n) i ((vector_bytes start p ++ versions_bytes start ps) ++ rest)
      ∙ ap (drop (8 * n * i)) (ap (drop (8 * n)) (append_assoc (vector_bytes start p) (versions_bytes start ps) rest)
      ∙ drop_at (vector_bytes start p) (versions_bytes start ps ++ rest) (8 * n) (vector-length n start long p)))
      ∙ piece ps rest i (le_of_suc-le-suc h)

  -- the vector of a short version, from kept counts, is read back
  module _ (few : EachAtMost kept_count_limit start) (p : List ℕ) (short : length p ≤ 1024) where
    each-count : all_b is_count (vector_of start p) ≡ true
    unfolding is_count
    each-count = all_of is_count 0 (vector_of start p) (λ k _. lt-ltb (count_of (vector_of start p) k) 18446744073709551616 (omega (arith, counts-most start p k, few k)))

    vector-said : counts_in n (vector_bytes start p) ≡ vector_of start p
    vector-said =
        ap₂ (λ (k : ℕ) (s : List ℕ). run_at 8 be64 k s) (sym (counts-length start p ∙ long)) (sym (append-nil (vector_bytes start p)))
        ∙ run-said 8 bytes64 be64 (room_for 8) is_count count_item (vector_of start p) [] each-count

    vector-is : is_vector n (vector_bytes start p) ≡ true
    unfolding is_vector
    vector-is = eq-eqb (length (vector_bytes start p)) (8 * n) (vector-length n start long p)

-- the version at place k + 1 is the path of office k
pub version-path : (r : Record) (words : List ℕ) → Sound r words → (k : ℕ) → k < r.n → version_at r words (suc k) ≡ path (held_by r words) k
version-path r words S k h =
    let log = take (held_length r) words in
    let tails = map tail_of r.ballots in
    let many : length (map (λ (t : List ℕ). log ++ t) (take r.n tails)) ≡ r.n = paths-length r.n r.ballots (omega (arith, S.eight, S.head.most)) log in
    in-range [] (log ++ []) (map (λ (t : List ℕ). log ++ t) (take r.n tails)) k (omega arith)
    ∙ get_d_map (λ (t : List ℕ). log ++ t) [] (take r.n tails) k ∙ ap (λ (t : List ℕ). log ++ t) (get_or-take r.n tails k [] h)

pub whole-vector : (r : Record) (words : List ℕ) → Sound r words → (former : List ℕ) → r.kept.counts ≡ counts_after (no_counts 8) former
    → (i : ℕ) → vector_at r words i ≡ vector_of (no_counts r.n) (former ++ version_at r words i)
whole-vector r words S former e i =
    ap (λ (c : List ℕ). vector_of (take r.n c) (version_at r words i)) e ∙ kept-vector r.n S.head.most former (version_at r words i)

-- ── a done write ──
module _ (r : Record) (words out : List ℕ) (done : (write_of r words out).number ≡ 0) where
  write-sound : sound_b r words ≡ true
  unfolding write_of write_number pick
  write-sound = go (sound_b r words) refl done
    where
      go : (b : Bool) → sound_b r words ≡ b → ◌≡◌ {A = ℕ} (pick b (pick (ltb (length out) (length (vectors_of r words))) 6 0) 1) 0 → sound_b r words ≡ true
      go true e h = e
      go false e h = absurd (omega (arith, h))

  wrote : write_bytes r words out ≡ vectors_of r words ++ drop (length (vectors_of r words)) out
  unfolding write_of write_bytes pick
  wrote = rw done

  sounds : Sound r words
  sounds = sound r words write-sound

  many : length (versions r words) ≡ suc r.n
  many = ap suc (paths-length r.n r.ballots (omega (arith, sounds.eight, sounds.head.most)) (take (held_length r) words))

  -- every version has at most 1024 entries
  short-all : all_b (λ (p : List ℕ). leb (length p) 1024) (versions r words) ≡ true
  unfolding all_b
  short-all =
      let log = take (held_length r) words in
      both_true _ _ (le-leb (length log) 1024 (omega (arith, log-length r words sounds, sounds.most)))
      (all_map (tail_fine r.n (held_length r)) (λ (p : List ℕ). leb (length p) 1024) (λ t. log ++ t)
      (λ t e. le-leb (length (log ++ t)) 1024 (omega (arith, length-append log t, log-length r words sounds, (fine-tail r.n (held_length r) t e).room)))
      (take r.n (map tail_of r.ballots))
      (all_take (tail_fine r.n (held_length r)) r.n (map tail_of r.ballots)
      (all_map (ballot_fine r.n (held_length r)) (tail_fine r.n (held_length r)) tail_of (tail-fine r.n (held_length r)) r.ballots sounds.fine)))

  module _ (i : ℕ) (h : i ≤ r.n) where
    short : length (version_at r words i) ≤ 1024
    short = leb-true (length (version_at r words i)) 1024 (all-at (λ (p : List ℕ). leb (length p) 1024) [] (versions r words) i short-all (omega (arith, many)))

    written_is : written_at r words out i ≡ vector_bytes (start_of r) (version_at r words i)
    written_is =
        ap (λ (s : List ℕ). take (8 * r.n) (drop (8 * r.n * i) s)) wrote
        ∙ piece r.n (start_of r) (start-long r words sounds) (versions r words) (drop (length (vectors_of r words)) out) i (omega (arith, many))

    says : counts_in r.n (written_at r words out i) ≡ vector_at r words i
    says = ap (counts_in r.n) written_is ∙ vector-said r.n (start_of r) (start-long r words sounds) (start-few r words sounds) (version_at r words i) short

    number_is : compare_number r words (written_at r words out i) ≡ 0
    unfolding compare_number pick
    number_is = let v = ap (is_vector r.n) written_is ∙ vector-is r.n (start_of r) (start-long r words sounds) (start-few r words sounds) (version_at r words i) short in rw (write-sound, v)

    answers-is : (compare_of r words (written_at r words out i)).answers ≡ nine (answers_to (start_of r) (counts_in r.n (written_at r words out i)) (versions r words))
    unfolding compare_of pick
    answers-is = rw number_is

    answers-are : (j : ℕ) → j ≤ r.n → get_or (compare_of r words (written_at r words out i)).answers j beside ≡ compared_to (vector_at r words j) (vector_at r words i)
    answers-are j g =
        let f : List ℕ → ℕ = λ (p : List ℕ). compared_to (vector_of (start_of r) p) (counts_in r.n (written_at r words out i)) in
        let l : length (map f (versions r words)) ≡ suc r.n = length-map (versions r words) f ∙ many in
        let b : j < length (map f (versions r words)) = omega arith in
        ap (λ (x : List ℕ). get_or x j beside) answers-is
        ∙ get_or-append (map f (versions r words)) (replicate (9 - length (map f (versions r words))) beside) beside j b ∙ in-range beside (f []) (map f (versions r words)) j b
        ∙ get_d_map f [] (versions r words) j ∙ ap (compared_to (vector_at r words j)) says

  pub read_back : ReadBack r words out
  unfolding compare_of
  read_back = record {
    says = says;
    done = number_is;
    answers = λ i j h g. answers-are i h j g;
    itself = λ i h. answers-are i h i h ∙ (four-answers (vector_at r words i) (vector_at r words i) refl).equals.1 refl;
  }
