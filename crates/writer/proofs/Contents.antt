-- The content that the writer spells, for a record whose office's state is within the limits: it is valid, and its message carries that state.
-- Assumes nothing.
use Prim.Native.Nat.{ℕ, ◌+◌, ◌-◌, ◌<◌, ◌≤◌}
use mathlib.Core.Bool.{false, false≢true, true}
use mathlib.Core.List.{List, [], ◌++◌, ◌∷◌, map}
use mathlib.Core.Path.{◌≡◌, refl, subst, sym, ap}
use native.Mathlib.Omega.{arith}
use lib.ListN.{drop, length, length-drop, replicate, take-append-drop, take}
use lib.Seq.{length-take-le}
use Rattle.ballots.specs.Ballots.{office_in, tail_of}
use Rattle.ballots.specs.declared.Ballot.{Ballot}
use Rattle.protocol.specs.Limits.{is_empty, is_weight, office_fine, lengths_fine, folded_fine}
use Rattle.protocol.specs.Folding.{Packet}
use Rattle.protocol_laws.proofs.Limits.{Fine, fine}
use Rattle.lists.specs.Tests.{all_b}
use Rattle.spelling.specs.Content.{as_packet, eight_tails, valid_content}
use Rattle.lists.proofs.Tests.{all_take, both-0, both-1, take-map}
use Rattle.spelling.proofs.Valid.{valid-test}
use Rattle.writer.specs.Written.{content_of, tails_of}

-- tails that are all empty
empties : (ts : List (List ℕ)) → all_b is_empty ts ≡ true → ts ≡ replicate (length ts) []
unfolding all_b is_empty
empties [] e = refl
empties ([] ∷ ts) e = ap (λ (l : List (List ℕ)). [] ∷ l) (empties ts (both-1 true _ e))
empties ((x ∷ t) ∷ ts) e = let z : false ≡ true = both-0 false (all_b is_empty ts) e in absurd (false≢true z)

module _
    (sender n : ℕ)
    (ws : List ℕ)
    (dropped : ℕ)
    (log : List ℕ)
    (held : ℕ)
    (bs : List Ballot)
    (few : n ≤ 8)
    (within : folded_fine n dropped (office_in log held bs) ≡ true)
  where
    facts : Fine n (office_in log held bs)
    unfolding folded_fine
    facts = fine n (office_in log held bs) (both-0 _ _ within)

    lengths : lengths_fine (dropped + length (take held log)) (map tail_of bs) ≡ true
    unfolding folded_fine
    lengths = both-1 (office_fine n (office_in log held bs)) _ within

    -- the message that is sent is the sender with its dropped count and its office's state
    pub content-packet : as_packet (content_of sender n ws dropped log held bs) ≡ record { sender = sender; dropped = dropped; state = office_in log held bs }
    unfolding as_packet eight_tails content_of tails_of
    content-packet =
        let l : length (drop n (map tail_of bs)) ≡ 8 - n = rw length-drop (omega (arith, facts.eight)) in
        let q : map tail_of (take n bs) ++ replicate (8 - n) [] ≡ map tail_of bs =
        rw (← l, ← empties (drop n (map tail_of bs)) facts.rest, ← take-map tail_of n bs) (take-append-drop n (map tail_of bs)) in
        ap (λ (ts : List (List ℕ)). record { sender = sender; dropped = dropped; state = record { log = take held log; tails = ts } }) q

    tails-length : length (tails_of n bs) ≡ n
    unfolding tails_of
    tails-length = rw (← take-map tail_of n bs) (length-take-le n (map tail_of bs) (omega (arith, facts.eight)))

    -- and its content is valid
    pub content-valid : sender < n → length ws ≡ 8 → all_b is_weight ws ≡ true → valid_content (content_of sender n ws dropped log held bs) ≡ true
    unfolding content_of
    content-valid below eight weights =
        valid-test (content_of sender n ws dropped log held bs)
        (record {
          some-office = omega arith;
          few-offices = few;
          sender-below = below;
          weights-length = length-take-le n ws (omega arith);
          weights-fine = all_take is_weight n ws weights;
          tails-length = tails-length;
          office = subst (λ (m : Packet). Fine n m.state) (sym content-packet) facts;
          lengths = subst (λ (m : Packet). lengths_fine (dropped + length (take held log)) m.state.tails ≡ true) (sym content-packet) lengths;
        })
