-- The cells of one ballot: the vote that it casts, and what is left without its first entry.
--     vote-none                  the vote of a ballot with no entries
--     without-first-is           what is left when its cells move up by one
--     lost-for, lost-other, lost-none      what is left of a ballot when an entry is settled, by its vote
-- Assumes nothing.
use mathlib.Core.Path.{◌≡◌, refl, sym, ap, ◌∙◌}
use mathlib.Core.Bool.{true}
use mathlib.Core.List.{List, [], ◌∷◌, ◌++◌, append_assoc}
use Prim.Native.Nat.{ℕ, zero, suc, ◌+◌, ◌-◌, ◌<◌, ◌≤◌}
use native.Mathlib.Nat.{not-suc-le-zero}
use native.Mathlib.Omega.{arith}
use lib.ListN.{length, take, drop, replicate, length-drop, take-append-drop, replicate-append-replicate}
use lib.Seq.{length-take-le}
use borrow.Author.Tests.{eqb-true, leb-true, eq-eqb, ne_eqb}
use Rattle.protocol.specs.Office.{first}
use Rattle.protocol.specs.Elect.{lose}
use Rattle.lists.proofs.Tests.{both-0, both-1, zeros}
use Rattle.ballots.specs.Ballots.{tail_of, ballot_of, ballot_shape}
use Rattle.ballots.specs.declared.Ballot.{Ballot}
use Rattle.tallies.specs.Tallies.{cast}
use Rattle.std.specs.Prelude.{None, Some}
use Rattle.std.proofs.lemmas.Option.{same_Some}

-- ── the vote ──
pub vote-none : (b : Ballot) → b.len ≡ 0 → None ≡ cast b
vote-none b e = rw e

-- ── the ballot without its first entry ──
pub without-first-is : (b : Ballot) → ballot_shape b ≡ true → 1 ≤ b.len → (cs : List ℕ) → cs ≡ drop 1 b.cells ++ 0 ∷ []
    → ◌≡◌ {A = Ballot} (record { len = b.len - 1; cells = cs }) (ballot_of (drop 1 (tail_of b)))
unfolding ballot_shape
without-first-is b s o cs q = λ i. record { len = left i; cells = (q ∙ moved) i }
  where
    cells : length b.cells ≡ 32
    cells = eqb-true (length b.cells) 32 (both-0 _ _ s)

    len : b.len ≤ 32
    len = leb-true b.len 32 (both-0 _ _ (both-1 _ _ s))

    long : length (tail_of b) ≡ b.len
    long = length-take-le b.len b.cells (omega (arith, cells, len))

    left : b.len - 1 ≡ length (drop 1 (tail_of b))
    left = simp (length-drop, long)

    unused : drop b.len b.cells ≡ replicate (32 - b.len) 0
    unused =
        let l : length (drop b.len b.cells) ≡ 32 - b.len = rw (length-drop, cells) in
        zeros (drop b.len b.cells) (both-1 _ _ (both-1 _ _ s)) ∙ ap (λ (k : ℕ). replicate k 0) l

    drop-front : (t zs : List ℕ) → 1 ≤ length t → drop 1 (t ++ zs) ≡ drop 1 t ++ zs
    drop-front [] zs h = absurd (not-suc-le-zero h)
    drop-front (x ∷ t) zs h = refl

    one_more : 32 - b.len + 1 ≡ 32 - length (drop 1 (tail_of b))
    one_more = omega (arith, left, len, o)

    moved : drop 1 b.cells ++ 0 ∷ [] ≡ drop 1 (tail_of b) ++ replicate (32 - length (drop 1 (tail_of b))) 0
    moved =
        ap (λ (l : List ℕ). l ++ 0 ∷ []) (ap (drop 1) (sym (take-append-drop b.len b.cells) ∙ ap (λ (l : List ℕ). tail_of b ++ l) unused)
        ∙ drop-front (tail_of b) (replicate (32 - b.len) 0) (omega (arith, long, o))) ∙
        append_assoc (drop 1 (tail_of b)) (replicate (32 - b.len) 0) (0 ∷ []) ∙
        ap (λ (l : List ℕ). drop 1 (tail_of b) ++ l) (replicate-append-replicate (32 - b.len) 1 0 ∙ ap (λ (k : ℕ). replicate k 0) one_more)

-- ── what is left of a ballot when e is settled ──
module _ (e : ℕ) (b : Ballot) (h : 0 < b.len) (l : 0 < length b.cells) where
  pub lost-for : cast b ≡ Some e → drop 1 (tail_of b) ≡ lose e (tail_of b)
  lost-for = go b.len b.cells h l
    where
      go : (k : ℕ) (xs : List ℕ) → 0 < k → 0 < length xs → first (take k xs) ≡ Some e → drop 1 (take k xs) ≡ lose e (take k xs)
      go zero xs h l q = absurd (not-suc-le-zero h)
      go (suc k) [] h l q = absurd (not-suc-le-zero l)
      go (suc k) (x ∷ xs) h l q = rw (eq-eqb x e (same_Some x e q))

  pub lost-other : (cast b ≡ Some e → ⊥) → [] ≡ lose e (tail_of b)
  lost-other = go b.len b.cells h l
    where
      go : (k : ℕ) (xs : List ℕ) → 0 < k → 0 < length xs → (first (take k xs) ≡ Some e → ⊥) → [] ≡ lose e (take k xs)
      go zero xs h l q = absurd (not-suc-le-zero h)
      go (suc k) [] h l q = absurd (not-suc-le-zero l)
      go (suc k) (x ∷ xs) h l q = rw (ne_eqb x e (λ s. q (ap Some s)))

pub lost-none : (e : ℕ) (b : Ballot) → b.len ≡ 0 → tail_of b ≡ lose e (tail_of b)
lost-none e b q = rw q
