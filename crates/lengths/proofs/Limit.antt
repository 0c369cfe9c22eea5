-- The limit of lengths by the lengths that ballots in shape say of their tails.
--     lens-tails     the tails' lengths are the ballots'
--     few-fine       a settled length 32 below the limit is within it with every tail
--     past-fails     one past the limit is not
-- Assumes nothing.
use mathlib.Core.Path.{◌≡◌, refl, ap₂}
use mathlib.Core.Bool.{Bool, true, false}
use mathlib.Core.List.{List, [], ◌∷◌, map}
use Prim.Native.Nat.{ℕ, ◌+◌, ◌-◌, ◌<◌, ◌≤◌}
use native.Mathlib.Omega.{arith}
use lib.Dec.{leb, eqb}
use lib.ListN.{length}
use lib.Seq.{length-take-le}
use borrow.Author.Tests.{eqb-true, leb-true, le-leb, lt-leb}
use Rattle.lists.specs.Tests.{all_b, both}
use Rattle.lists.proofs.Tests.{alike, all_map, both-0, both-1, both_true, both-false-0}
use Rattle.protocol.specs.Limits.{length_limit, lengths_fine}
use Rattle.ballots.specs.Ballots.{ballot_shape, tail_of}
use Rattle.ballots.specs.declared.Ballot.{Ballot}

-- a ballot in shape has at most 32 entries, as many as its length says
shape-length : (b : Ballot) → ballot_shape b ≡ true → (b.len ≤ 32) × (length (tail_of b) ≡ b.len)
unfolding ballot_shape
shape-length b e =
    let cells : length b.cells ≡ 32 = eqb-true (length b.cells) 32 (both-0 _ _ e) in
    let len : b.len ≤ 32 = leb-true b.len 32 (both-0 _ _ (both-1 (eqb (length b.cells) 32) _ e)) in
    (len, length-take-le b.len b.cells (omega arith))

-- the room that a settled length leaves for a tail
abbrev pub in_room : ℕ → Ballot → Bool
in_room settled b = leb b.len (length_limit - settled)

module _ (settled : ℕ) (h : settled ≤ length_limit) where
  one-tail : (b : Ballot) → ballot_shape b ≡ true → leb (settled + length (tail_of b)) length_limit ≡ in_room settled b
  one-tail b q =
      let l : length (tail_of b) ≡ b.len = (shape-length b q).1 in
      alike _ _
      (λ p. le-leb b.len (length_limit - settled) (omega (arith, leb-true (settled + length (tail_of b)) length_limit p)))
      (λ p. le-leb (settled + length (tail_of b)) length_limit (omega (arith, leb-true b.len (length_limit - settled) p)))

  each_tail : (bs : List Ballot) → all_b ballot_shape bs ≡ true → all_b (λ (t : List ℕ). leb (settled + length t) length_limit) (map tail_of bs) ≡ all_b (in_room settled) bs
  unfolding all_b
  each_tail [] q = refl
  each_tail (b ∷ bs) q = ap₂ both (one-tail b (both-0 _ _ q)) (each_tail bs (both-1 (ballot_shape b) _ q))

  pub lens-tails : (bs : List Ballot) → all_b ballot_shape bs ≡ true → lengths_fine settled (map tail_of bs) ≡ all_b (in_room settled) bs
  unfolding lengths_fine both
  lens-tails bs e = rw (le-leb settled length_limit h) (each_tail bs e)

pub few-fine : (settled : ℕ) → settled + 32 ≤ length_limit → (bs : List Ballot) → all_b ballot_shape bs ≡ true → lengths_fine settled (map tail_of bs) ≡ true
unfolding lengths_fine
few-fine settled h bs e =
    both_true _ _ (le-leb settled length_limit (omega arith))
    (all_map ballot_shape _ tail_of (λ b q. le-leb (settled + length (tail_of b)) length_limit (omega (arith, shape-length b q))) bs e)

pub past-fails : (settled : ℕ) → length_limit < settled → (ts : List (List ℕ)) → lengths_fine settled ts ≡ false
unfolding lengths_fine
past-fails settled h ts = both-false-0 _ _ (lt-leb settled length_limit h)
