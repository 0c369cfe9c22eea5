-- The bytes of a ballot, and of the ballots that are left to write. Assumes nothing.
use Prim.Native.Nat.{ℕ, ◌+◌, ◌*◌, ◌≤◌, ◌<◌}
use mathlib.Core.Bool.{true}
use mathlib.Core.List.{List, [], ◌∷◌, ◌++◌, map}
use mathlib.Core.Path.{◌≡◌, refl, ap, ◌∙◌}
use native.Mathlib.Numerals.{add-one, add-two, add-three, add-four}
use native.Mathlib.Omega.{arith}
use lib.Dec.{eqb}
use lib.ListN.{length, get_or, take, drop, set, length-append, length-take, drop_of_length-le}
use lib.Seq.{sets, length-take-le, drop-cons}
use borrow.Author.Tests.{leb-true}
use Rattle.ballots.specs.Ballots.{ballot_shape, tail_of}
use Rattle.ballots.specs.declared.Ballot.{Ballot}
use Rattle.lists.specs.Tests.{all_b}
use Rattle.numbers.specs.Numbers.{be32, bytes32, run}
use Rattle.spelling.specs.Spelling.{ballot_bytes, ballots_bytes}
use Rattle.lists.proofs.Tests.{all-at, all_take, both-0, both-1}
use Rattle.spelling.proofs.Ballots.{ballot-cons}
use Rattle.spelling.proofs.Items.{is_word, room_for, value_item}
use Rattle.lists.proofs.Stores.{Left, left-all, left-next, left-none}
use Rattle.numbers.proofs.Runs.{run_length}
use Rattle.writer.specs.Written.{tails_of}

module _ (o : ℕ) (b : Ballot) where
  pub bytes-none : b.len ≡ 0 → ballot_bytes o (tail_of b) ≡ []
  unfolding ballot_bytes
  bytes-none e = rw e

  module _ (full : length b.cells ≡ 32) (fits : b.len ≤ 32) where
    pub tail-length : length (tail_of b) ≡ b.len
    tail-length = length-take-le b.len b.cells (omega arith)

    module _ (some : b.len ≡ 0 → ⊥) where
      pub bytes-some : ballot_bytes o (tail_of b) ≡ 0x42 ∷ 0x41 ∷ o ∷ b.len ∷ run bytes32 (take b.len b.cells)
      bytes-some = ballot-cons o (tail_of b) (omega (arith, tail-length)) ∙ rw tail-length

      pub size-some : length (ballot_bytes o (tail_of b)) ≡ 4 + 4 * b.len
      size-some = rw bytes-some (omega (arith, run_length 4 bytes32 be32 (room_for 4) is_word value_item (take b.len b.cells), tail-length))

      pub stores_some : (l : List ℕ) (at : ℕ)
          → sets (set (set (set (set l at 0x42) (at + 1) 0x41) (at + 2) o) (at + 3) b.len) (at + 4) (run bytes32 (take b.len b.cells)) ≡ sets l at (ballot_bytes o (tail_of b))
      stores_some l at = rw bytes-some (simp (add-one, add-two, add-three, add-four))

-- ---- the ballots

-- what is left to write from office o on
unfoldable pub rest_bytes : ℕ → List Ballot → ℕ → List ℕ
rest_bytes n bs o = ballots_bytes o (map tail_of (drop o (take n bs)))

rest_all : (n : ℕ) (bs : List Ballot) → rest_bytes n bs 0 ≡ ballots_bytes 0 (tails_of n bs)
unfolding rest_bytes tails_of
rest_all n bs = refl

pub rest-none : (n : ℕ) (bs : List Ballot) (o : ℕ) → length (take n bs) ≤ o → rest_bytes n bs o ≡ []
unfolding rest_bytes ballots_bytes
rest-none n bs o h = rw (drop_of_length-le (take n bs) h)

rest-step : (n : ℕ) (bs : List Ballot) (o : ℕ) (d : Ballot) → o < length (take n bs)
    → rest_bytes n bs o ≡ ballot_bytes o (tail_of (get_or (take n bs) o d)) ++ rest_bytes n bs (o + 1)
unfolding rest_bytes ballots_bytes
rest-step n bs o d h = rw (drop-cons (take n bs) o d h, add-one o)

pub len-at : (bs : List Ballot) (o : ℕ) (d : Ballot) → all_b ballot_shape bs ≡ true → o < length bs → (get_or bs o d).len ≤ 32
unfolding ballot_shape
len-at bs o d e h = let b : Ballot = get_or bs o d in leb-true b.len 32 (both-0 _ _ (both-1 (eqb (length b.cells) 32) _ (all-at ballot_shape d bs o e h)))

-- the ballots of n offices are theirs among all
pub len-within : (n : ℕ) (bs : List Ballot) (o : ℕ) (d : Ballot) → all_b ballot_shape bs ≡ true → o < length (take n bs) → (get_or (take n bs) o d).len ≤ 32
len-within n bs o d e h = len-at (take n bs) o d (all_take ballot_shape n bs e) h

-- the invariant of the loop that writes: from office o on, at place p, the rest is left to store
abbrev pub ToPut : List ℕ → ℕ → ℕ → List Ballot → List ℕ → ℕ → ℕ → Type 0
ToPut l₀ at n bs l p o = Left l₀ at (ballots_bytes 0 (tails_of n bs)) l p (rest_bytes n bs o)

module _ (n : ℕ) (bs : List Ballot) {l₀ : List ℕ} {at : ℕ} {l : List ℕ} {p o : ℕ} (inv : ToPut l₀ at n bs l p o) where
  -- there is room for the next ballot
  pub put-room : (d : Ballot) → o < length (take n bs) → at + length (ballots_bytes 0 (tails_of n bs)) ≤ length l₀
      → p + length (ballot_bytes o (tail_of (get_or (take n bs) o d))) ≤ length l
  put-room d h room = omega (arith, inv.place, inv.long, simp length-append at (ap length (rest-step n bs o d h)))

  pub put-again : (d : Ballot) {l' : List ℕ} {p' : ℕ} → o < length (take n bs) → p' ≡ p + length (ballot_bytes o (tail_of (get_or (take n bs) o d)))
      → l' ≡ sets l p (ballot_bytes o (tail_of (get_or (take n bs) o d))) → ToPut l₀ at n bs l' p' (o + 1)
  put-again d h e q = left-next inv (ballot_bytes o (tail_of (get_or (take n bs) o d))) (rest-step n bs o d h) e q

  pub put-ends : length (take n bs) ≤ o → (p ≡ at + length (ballots_bytes 0 (tails_of n bs))) × (l ≡ sets l₀ at (ballots_bytes 0 (tails_of n bs)))
  put-ends h = left-none inv (rest-none n bs o h)

pub put-begins : (l : List ℕ) (at n : ℕ) (bs : List Ballot) → ToPut l at n bs l at 0
unfolding rest_bytes tails_of
put-begins l at n bs = left-all l at (ballots_bytes 0 (tails_of n bs))

-- the invariant of the loop that counts: the size so far and that of the ballots left are the size of all, and each ballot adds 132 at most
abbrev pub ToCount : ℕ → ℕ → List Ballot → ℕ → ℕ → Type 0
ToCount base n bs size o = (size + length (rest_bytes n bs o) ≡ base + length (ballots_bytes 0 (tails_of n bs))) × (size ≤ base + 132 * o)

pub count-begins : (base n : ℕ) (bs : List Ballot) → ToCount base n bs base 0
count-begins base n bs = (rw rest_all (omega arith), omega arith)

pub count-again : (base n : ℕ) (bs : List Ballot) (size o : ℕ) (d : Ballot) (r : ℕ) → ToCount base n bs size o → o < length (take n bs)
    → ((k : ℕ) → r ≡ length (ballot_bytes k (tail_of (get_or (take n bs) o d)))) → r ≤ 132 → ToCount base n bs (size + r) (o + 1)
count-again base n bs size o d r inv h e k = omega (arith, e o, simp length-append at (ap length (rest-step n bs o d h)))
