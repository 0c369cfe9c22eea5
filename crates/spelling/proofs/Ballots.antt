-- The ballots: those that are written are read back, and those that are read are spelled so and no other way. Assumes nothing.
use Prim.Native.Nat.{ℕ, zero, suc, ◌+◌, ◌*◌, ◌≤◌, ◌<◌}
use mathlib.Core.Bool.{Bool, true, false, false≢true, and-false}
use mathlib.Core.List.{List, [], ◌∷◌, ◌++◌, append_assoc}
use mathlib.Core.Path.{◌≡◌, refl, sym, ap, ◌∙◌}
use native.Mathlib.Omega.{arith}
use lib.Dec.{leb, eqb}
use lib.ListN.{length, get_or, drop, length-append, length-drop}
use lib.Seq.{drop-drop}
use borrow.Author.Tests.{leb-true, eqb-true, le-leb, eq-eqb, ne_eqb}
use Rattle.protocol.specs.Limits.{tail_fine}
use Rattle.protocol_laws.proofs.Limits.{fine-tail}
use Rattle.lists.specs.Tests.{all_b, both}
use Rattle.lists.proofs.Tests.{both-1, both-0, both_true, pick_true, pick-false, all-mono}
use Rattle.numbers.specs.Numbers.{bytes32, run_at, Bytes, run, be32}
use Rattle.numbers.proofs.Runs.{bytes_drop, run_length, run-said, run_past, run-back, run_at-length}
use Rattle.spelling.specs.Reading.{size_at, tail_at, tails_at, ballot_ok, end_ok, ballots_ok, length_at, ballot_next, after_ballot}
use Rattle.spelling.specs.Spelling.{ballot_bytes, ballots_bytes, end_bytes}
use Rattle.spelling.proofs.Items.{is_word, entry-word, room_for, room-for, value_item}

-- ---- the two cases of a ballot

module _ (s : List ℕ) (o : ℕ) where
  pub tail-yes : ballot_next s o ≡ true → tail_at s o ≡ run_at 4 be32 (length_at s) (drop 4 s)
  unfolding tail_at
  tail-yes e = pick_true _ _ _ e

  pub tail-no : ballot_next s o ≡ false → tail_at s o ≡ []
  unfolding tail_at
  tail-no e = pick-false _ _ _ e

  pub size-yes : ballot_next s o ≡ true → size_at s o ≡ 4 + 4 * length_at s
  unfolding size_at
  size-yes e = pick_true _ _ _ e

  pub size-no : ballot_next s o ≡ false → size_at s o ≡ 0
  unfolding size_at
  size-no e = pick-false _ _ _ e

  pub ok-yes : ballot_next s o ≡ true → ballot_ok s o ≡ both (leb 1 (length_at s)) (both (leb (length_at s) 32) (leb (4 + 4 * length_at s) (length s)))
  unfolding ballot_ok
  ok-yes e = pick_true _ _ _ e

  pub ok-no : ballot_next s o ≡ false → ballot_ok s o ≡ true
  unfolding ballot_ok
  ok-no e = pick-false _ _ _ e

  after-yes : ballot_next s o ≡ true → after_ballot s o ≡ drop (4 + 4 * length_at s) s
  unfolding after_ballot
  after-yes e = rw (size-yes e)

  after-no : ballot_next s o ≡ false → after_ballot s o ≡ s
  unfolding after_ballot
  after-no e = rw (size-no e)

-- ---- what is written is read back

-- a tail that the layout can hold: at most 32 values of four bytes
unfoldable pub tail_words : List ℕ → Bool
tail_words t = both (leb (length t) 32) (all_b is_word t)

tail-words : (n k : ℕ) → n ≤ 8 → (t : List ℕ) → tail_fine n k t ≡ true → tail_words t ≡ true
unfolding tail_words
tail-words n k small t e =
    let f = fine-tail n k t e in
    both_true _ _ (le-leb (length t) 32 f.short) (all-mono _ is_word (λ v q. entry-word n v small q) t f.entries)

pub tails-words : (n k : ℕ) → n ≤ 8 → (ts : List (List ℕ)) → all_b (tail_fine n k) ts ≡ true → all_b tail_words ts ≡ true
tails-words n k small ts e = all-mono (tail_fine n k) tail_words (tail-words n k small) ts e

-- no ballot of an earlier office comes next
next-no : (o p : ℕ) (ts : List (List ℕ)) → o < p → ballot_next (ballots_bytes p ts ++ end_bytes) o ≡ false
unfolding ballot_next both ballots_bytes ballot_bytes end_bytes
next-no o p [] h = refl
next-no o p ([] ∷ ts) h = next-no o (suc p) ts (omega arith)
next-no o p ((v ∷ vs) ∷ ts) h = rw (ne_eqb p o (λ e. omega arith)) (and-false (leb 4 (length (ballots_bytes p ((v ∷ vs) ∷ ts) ++ end_bytes))))

next-yes : (o v : ℕ) (vs r : List ℕ) → ballot_next (ballot_bytes o (v ∷ vs) ++ r) o ≡ true
unfolding ballot_next both ballot_bytes
next-yes o v vs r = rw (le-leb 4 (length (ballot_bytes o (v ∷ vs) ++ r)) (omega arith), eq-eqb o o refl)

-- a ballot's bytes, and its tail read back before bytes r that are no ballot of this office
module _ (o : ℕ) (r : List ℕ) (e : ballot_next r o ≡ false) where
  ballot-said : (t : List ℕ) → tail_words t ≡ true → tail_at (ballot_bytes o t ++ r) o ≡ t
  unfolding ballot_bytes tail_words
  ballot-said [] h = tail-no r o e
  ballot-said (v ∷ vs) h =
      tail-yes (ballot_bytes o (v ∷ vs) ++ r) o (next-yes o v vs r)
      ∙ run-said 4 bytes32 be32 (room_for 4) is_word value_item (v ∷ vs) r (both-1 (leb (length (v ∷ vs)) 32) _ h)

  ballot-past : (t : List ℕ) → after_ballot (ballot_bytes o t ++ r) o ≡ r
  unfolding ballot_bytes
  ballot-past [] = after-no r o e
  ballot-past (v ∷ vs) =
      after-yes (ballot_bytes o (v ∷ vs) ++ r) o (next-yes o v vs r)
      ∙ sym (drop-drop (4 * length (v ∷ vs)) 4 (ballot_bytes o (v ∷ vs) ++ r))
      ∙ run_past 4 bytes32 be32 (room_for 4) is_word value_item (v ∷ vs) r

  ballot-here : (t : List ℕ) → tail_words t ≡ true → ballot_ok (ballot_bytes o t ++ r) o ≡ true
  unfolding ballot_bytes tail_words
  ballot-here [] h = ok-no r o e
  ballot-here (v ∷ vs) h =
      let l : ℕ = length (v ∷ vs) in
      let room : 4 + 4 * l ≤ length (ballot_bytes o (v ∷ vs) ++ r) =
      omega (arith, length-append (run bytes32 (v ∷ vs)) r, run_length 4 bytes32 be32 (room_for 4) is_word value_item (v ∷ vs)) in
      ok-yes (ballot_bytes o (v ∷ vs) ++ r) o (next-yes o v vs r)
      ∙ both_true _ _ (le-leb 1 l (omega arith)) (both_true _ _ (both-0 (leb l 32) _ h) (le-leb (4 + 4 * l) (length (ballot_bytes o (v ∷ vs) ++ r)) room))

pub ballots-said : (o : ℕ) (ts : List (List ℕ)) → all_b tail_words ts ≡ true → tails_at (ballots_bytes o ts ++ end_bytes) o (length ts) ≡ ts
unfolding tails_at ballots_bytes all_b
ballots-said o [] h = refl
ballots-said o (t ∷ ts) h =
    let e = next-no o (suc o) ts (omega arith) in
    let r : List ℕ = ballots_bytes (suc o) ts ++ end_bytes in
    rw (append_assoc, ballot-said o r e t (both-0 _ _ h), ballot-past o r e t)
    (ap (λ (l : List (List ℕ)). t ∷ l) (ballots-said (suc o) ts (both-1 (tail_words t) _ h)))

pub ballots-here : (o : ℕ) (ts : List (List ℕ)) → all_b tail_words ts ≡ true → ballots_ok (ballots_bytes o ts ++ end_bytes) o (length ts) ≡ true
unfolding ballots_ok ballots_bytes all_b end_ok end_bytes both
ballots-here o [] h = refl
ballots-here o (t ∷ ts) h =
    let e = next-no o (suc o) ts (omega arith) in
    let r : List ℕ = ballots_bytes (suc o) ts ++ end_bytes in
    rw (append_assoc, ballot-here o r e t (both-0 _ _ h), ballot-past o r e t)
    (ballots-here (suc o) ts (both-1 (tail_words t) _ h))

-- ---- what is read is spelled so

pub four-back : (s : List ℕ) → 4 ≤ length s → get_or s 0 0 ∷ get_or s 1 0 ∷ get_or s 2 0 ∷ get_or s 3 0 ∷ drop 4 s ≡ s
four-back [] h = absurd (omega arith)
four-back (x ∷ []) h = absurd (omega arith)
four-back (x ∷ y ∷ []) h = absurd (omega arith)
four-back (x ∷ y ∷ z ∷ []) h = absurd (omega arith)
four-back (x ∷ y ∷ z ∷ u ∷ r) h = refl

pub ballot-cons : (o : ℕ) (t : List ℕ) → 1 ≤ length t → ballot_bytes o t ≡ 0x42 ∷ 0x41 ∷ o ∷ length t ∷ run bytes32 t
unfolding ballot_bytes
ballot-cons o [] h = absurd (omega arith)
ballot-cons o (v ∷ vs) h = refl

-- what `ballot_next` says
next-head : (s : List ℕ) (o : ℕ) → ballot_next s o ≡ true → 0x42 ∷ 0x41 ∷ o ∷ length_at s ∷ drop 4 s ≡ s
unfolding ballot_next
next-head s o e =
    let a = both-1 (leb 4 (length s)) _ e in
    let b = both-1 (eqb (get_or s 0 0) 0x42) _ a in
    let p : get_or s 0 0 ≡ 0x42 = eqb-true _ _ (both-0 _ _ a) in
    let q : get_or s 1 0 ≡ 0x41 = eqb-true _ _ (both-0 _ _ b) in
    let r : get_or s 2 0 ≡ o = eqb-true _ _ (both-1 (eqb (get_or s 1 0) 0x41) _ b) in
    rw (p, q, r) at (four-back s (leb-true 4 (length s) (both-0 _ _ e)))

-- a test in its two cases, each with its equation
pub by-test : (P : Type 0) (b : Bool) → (b ≡ true → P) → (b ≡ false → P) → P
by-test P true f g = f refl
by-test P false f g = g refl

-- a ballot that comes next and is of the layout
record Next (s : List ℕ) : Type 0 where
  some : 1 ≤ length_at s
  room : 4 + 4 * length_at s ≤ length s

next-facts : (s : List ℕ) (o : ℕ) → ballot_next s o ≡ true → ballot_ok s o ≡ true → Next s
next-facts s o e ok =
    let t = sym (ok-yes s o e) ∙ ok in
    let u = both-1 (leb 1 (length_at s)) _ t in
    record { some = leb-true _ _ (both-0 _ _ t); room = leb-true _ _ (both-1 (leb (length_at s) 32) _ u) }

ballot-back : (s : List ℕ) (o : ℕ) → Bytes s → ballot_ok s o ≡ true → ballot_bytes o (tail_at s o) ++ after_ballot s o ≡ s
unfolding ballot_bytes
ballot-back s o bs ok = by-test _ (ballot_next s o) yes-case (λ e. rw (tail-no s o e, after-no s o e))
  where
    yes-case : ballot_next s o ≡ true → ballot_bytes o (tail_at s o) ++ after_ballot s o ≡ s
    yes-case e =
        let f : Next s = next-facts s o e ok in
        let l : ℕ = length_at s in
        let t : List ℕ = run_at 4 be32 l (drop 4 s) in
        let lt : length t ≡ l = run_at-length 4 be32 l (drop 4 s) in
        rw (
          tail-yes s o e,
          after-yes s o e,
          ballot-cons o t (omega arith),
          lt,
          ← drop-drop (4 * l) 4 s,
          run-back 4 bytes32 be32 (room_for 4) is_word value_item l (drop 4 s) (bytes_drop 4 s bs) (room-for 4 l (drop 4 s) (rw length-drop (omega arith))),
        )
        (next-head s o e)

bytes_after : (s : List ℕ) (o : ℕ) → Bytes s → Bytes (after_ballot s o)
unfolding after_ballot
bytes_after s o b = bytes_drop (size_at s o) s b

end_back : (s : List ℕ) → end_ok s ≡ true → end_bytes ≡ s
unfolding end_ok end_bytes both
end_back [] e = absurd (false≢true e)
end_back (x ∷ []) e = absurd (false≢true e)
end_back (x ∷ y ∷ []) e = rw (eqb-true x 0x45 (both-0 _ _ e), eqb-true y 0x4E (both-1 (eqb x 0x45) _ e))
end_back (x ∷ y ∷ z ∷ r) e = let h : suc (suc (suc (length r))) ≡ 2 = eqb-true (length (x ∷ y ∷ z ∷ r)) 2 (both-0 _ _ e) in absurd (omega arith)

pub ballots-back : (s : List ℕ) (o c : ℕ) → Bytes s → ballots_ok s o c ≡ true → ballots_bytes o (tails_at s o c) ++ end_bytes ≡ s
unfolding ballots_ok ballots_bytes tails_at
ballots-back s o zero b h = end_back s h
ballots-back s o (suc c) b h =
    rw (append_assoc, ballots-back (after_ballot s o) (suc o) c (bytes_after s o b) (both-1 (ballot_ok s o) _ h)) (ballot-back s o b (both-0 _ _ h))

pub tails_at-length : (s : List ℕ) (o c : ℕ) → length (tails_at s o c) ≡ c
unfolding tails_at
tails_at-length s o zero = refl
tails_at-length s o (suc c) = ap suc (tails_at-length (after_ballot s o) (suc o) c)
