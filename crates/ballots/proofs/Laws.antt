-- What a fine ballot is, and what the operations on one do to the tail that it holds.
--     fine                      what the test `ballot_fine` says where it passes
--     tail-fine, fine-tail      a ballot is fine as its cells are in shape and its tail is fine
--     ballot-held, held_all     a fine ballot is the one that holds its tail
--     tail-of, tails-of         the tail of the ballot that holds a tail
--     push-held                 an entry more in the cells is an entry more in the tail
--     none-empty, empty-none    no ballot is the empty tail
--     none-fine, empty-fine     no ballot is fine
-- Assumes nothing.
use mathlib.Core.Path.{◌≡◌, refl, sym, ap, ap₂, ◌∙◌}
use mathlib.Core.Bool.{true}
use mathlib.Core.List.{List, [], ◌∷◌, ◌++◌, map, append_assoc}
use Prim.Native.Nat.{ℕ, suc, ◌+◌, ◌-◌, ◌<◌, ◌≤◌}
use native.Mathlib.Numerals.{add-one}
use native.Mathlib.Omega.{arith}
use lib.Dec.{eqb}
use lib.ListN.{length, get_or, take, drop, set, replicate, length-append, length-drop, take-append-drop, length-replicate}
use lib.Seq.{length-take-le, set_split, drop-drop, take-append_seam, drop-append_seam}
use borrow.Author.Tests.{eqb-true, leb-true, lt-ltb, eq-eqb, le-leb}
use Rattle.lists.specs.Tests.{all_b, pick}
use Rattle.protocol.specs.Entry.{is_entry}
use Rattle.protocol.specs.Limits.{is_empty, tail_fine}
use Rattle.protocol.specs.Fair.{fair}
use Rattle.protocol_laws.proofs.Fair.{fair-nil}
use Rattle.lists.proofs.Tests.{both-0, both-1, both_true, zeros, all-zeros, get_d_map}
use Rattle.ballots.specs.Ballots.{ballot_shape, ballot_fine, empty_ballot, tail_of, ballot_of, no_ballot, pushed, is_no_ballot, off_end}
use Rattle.ballots.specs.declared.Ballot.{Ballot}

pub record Fine (n held : ℕ) (b : Ballot) : Type 0 where
  pub cells : length b.cells ≡ 32
  pub len : b.len ≤ 32
  pub zero : all_b (eqb 0) (drop b.len b.cells) ≡ true
  pub path : held + b.len ≤ 1024
  pub entries : all_b (is_entry n) (tail_of b) ≡ true
  pub parts : fair n (tail_of b) ≡ true

pub fine : (n held : ℕ) (b : Ballot) → ballot_fine n held b ≡ true → Fine n held b
unfolding ballot_fine ballot_shape tail_fine
fine n held b e =
    let s = both-0 _ _ e in
    let cells = eqb-true (length b.cells) 32 (both-0 _ _ s) in
    let len = leb-true b.len 32 (both-0 _ _ (both-1 _ _ s)) in
    let t = both-1 _ _ (both-1 _ _ e) in
    record {
      cells = cells;
      len = len;
      zero = both-1 _ _ (both-1 _ _ s);
      path = omega (arith, leb-true (held + length (tail_of b)) 1024 (both-0 _ _ t), length-take-le b.len b.cells (omega arith));
      entries = both-0 _ _ (both-1 _ _ t);
      parts = both-1 _ _ (both-1 _ _ t);
    }

-- the tail of the ballot that holds it
pub tail-of : (t : List ℕ) → tail_of (ballot_of t) ≡ t
tail-of t = take-append_seam t _

pub tails-of : (ts : List (List ℕ)) → map tail_of (map ballot_of ts) ≡ ts
tails-of [] = refl
tails-of (t ∷ ts) = ap₂ (λ (x : List ℕ) (l : List (List ℕ)). x ∷ l) (tail-of t) (tails-of ts)

-- the tail at an office of eight ballots
pub tail_at : (bs : List Ballot) (k : ℕ) → get_or (map tail_of bs) k [] ≡ tail_of (get_or bs k off_end)
tail_at bs k = get_d_map tail_of off_end bs k

-- a ballot is fine as its cells are in shape and its tail is fine
pub tail-fine : (n held : ℕ) (b : Ballot) → ballot_fine n held b ≡ true → tail_fine n held (tail_of b) ≡ true
unfolding ballot_fine
tail-fine n held b e = both-1 (ballot_shape b) (tail_fine n held (tail_of b)) e

shape_of : (t : List ℕ) → length t ≤ 32 → ballot_shape (ballot_of t) ≡ true
unfolding ballot_shape
shape_of t h =
    both_true _ _ (eq-eqb (length (t ++ replicate (32 - length t) 0)) 32 (rw (length-append, length-replicate) (omega arith)))
    (both_true _ _ (le-leb (length t) 32 h) (rw drop-append_seam (all-zeros (32 - length t))))

pub fine-tail : (n held : ℕ) (t : List ℕ) → tail_fine n held t ≡ true → ballot_fine n held (ballot_of t) ≡ true
unfolding ballot_fine tail_fine
fine-tail n held t e =
    both_true (ballot_shape (ballot_of t)) (tail_fine n held (tail_of (ballot_of t)))
    (shape_of t (leb-true (length t) 32 (both-0 _ _ e)))
    (ap (tail_fine n held) (tail-of t) ∙ e)

module _ (n held : ℕ) (b : Ballot) (F : Fine n held b) where
  unused : drop b.len b.cells ≡ replicate (32 - b.len) 0
  unused =
      let l : length (drop b.len b.cells) ≡ 32 - b.len = rw (length-drop, F.cells) in
      zeros (drop b.len b.cells) F.zero ∙ ap (λ (k : ℕ). replicate k 0) l

  unused-next : b.len < 32 → drop (b.len + 1) b.cells ≡ replicate (32 - (b.len + 1)) 0
  unused-next h =
      let l : 32 - b.len ≡ suc (32 - (b.len + 1)) = omega arith in
      sym (drop-drop 1 b.len b.cells) ∙ ap (drop 1) (unused ∙ ap (λ (k : ℕ). replicate k 0) l)

  pub tail-length : length (tail_of b) ≡ b.len
  tail-length = length-take-le b.len b.cells (omega arith)

  pub ballot-held : ballot_of (tail_of b) ≡ b
  ballot-held = λ i. record {
    len = tail-length i;
    cells = held-cells i;
  }
    where
      held-cells : tail_of b ++ replicate (32 - length (tail_of b)) 0 ≡ b.cells
      held-cells = rw (tail-length, ← unused) (take-append-drop b.len b.cells)

  pub push-held : (e : ℕ) → b.len < 32 → pushed b e ≡ ballot_of (tail_of b ++ e ∷ [])
  unfolding pushed pick
  push-held e h = rw (lt-ltb b.len 32 h) (λ i. record { len = grown i; cells = grown-cells i })
    where
      grown : b.len + 1 ≡ length (tail_of b ++ e ∷ [])
      grown = rw (length-append, tail-length)

      grown-cells : set b.cells b.len e ≡ (tail_of b ++ e ∷ []) ++ replicate (32 - length (tail_of b ++ e ∷ [])) 0
      grown-cells = set_split b.cells b.len e (omega arith) ∙ rw (← grown, ← unused-next h, append_assoc, add-one)

pub held_all : (n held : ℕ) (bs : List Ballot) → all_b (ballot_fine n held) bs ≡ true → map ballot_of (map tail_of bs) ≡ bs
unfolding all_b
held_all n held [] e = refl
held_all n held (b ∷ bs) e =
    ap₂ (λ (x : Ballot) (l : List Ballot). x ∷ l)
    (ballot-held n held b (fine n held b (both-0 _ _ e)))
    (held_all n held bs (both-1 _ _ e))

-- no ballot is the empty tail
pub none-empty : (b : Ballot) → is_no_ballot b ≡ true → is_empty (tail_of b) ≡ true
unfolding is_empty
none-empty b h = ap (λ (k : ℕ). is_empty (take k b.cells)) (sym (eqb-true 0 b.len h))

pub empty-none : (t : List ℕ) → is_empty t ≡ true → is_no_ballot (ballot_of t) ≡ true
unfolding is_empty
empty-none [] h = refl
empty-none (x ∷ t) h = let z : ◌≡◌ {A = ℕ} 0 1 = cc in absurd (omega arith)

-- what the test whether a ballot is none says
empty-is : (b : Ballot) → empty_ballot b ≡ true → b ≡ no_ballot
unfolding empty_ballot
empty-is b e = λ i. record {
  len = sym (eqb-true 0 b.len (both-0 _ _ e)) i;
  cells = cells i;
}
  where
    cells : b.cells ≡ replicate 32 0
    cells = zeros b.cells (both-1 _ _ (both-1 _ _ e)) ∙ ap (λ (k : ℕ). replicate k 0) (eqb-true (length b.cells) 32 (both-0 _ _ (both-1 _ _ e)))

-- no ballot is fine with any settled log
pub none-fine : (n held : ℕ) → held ≤ 1024 → ballot_fine n held no_ballot ≡ true
unfolding tail_fine all_b
none-fine n held h = fine-tail n held [] (both_true _ _ refl (both_true _ _ (le-leb (held + 0) 1024 (omega arith)) (both_true _ _ refl (fair-nil n))))

pub empty-fine : (n held : ℕ) → held ≤ 1024 → (b : Ballot) → empty_ballot b ≡ true → (ballot_fine n held b ≡ true) × (is_no_ballot b ≡ true)
empty-fine n held h b e = (ap (ballot_fine n held) (empty-is b e) ∙ none-fine n held h, ap is_no_ballot (empty-is b e))
