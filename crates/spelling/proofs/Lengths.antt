-- How long a spelling is: the sum of its parts, at most 7046 bytes, which some valid content reaches. Assumes nothing.
use Prim.Native.Nat.{ℕ, ◌*◌, ◌+◌, ◌-◌, ◌<◌, ◌≤◌, suc, zero}
use mathlib.Core.Bool.{true}
use mathlib.Core.List.{List, [], ◌∷◌}
use mathlib.Core.Path.{◌≡◌, refl}
use native.Mathlib.Nat.{suc-mul}
use native.Mathlib.Omega.{arith}
use lib.Dec.{leb}
use lib.ListN.{length, length-append, length-replicate, replicate}
use borrow.Author.Tests.{leb-true, leb-false}
use Rattle.protocol.specs.Entry.{is_entry, proper, value}
use Rattle.protocol.specs.Counts.{counts_after}
use Rattle.protocol.specs.Fair.{fair}
use Rattle.protocol.specs.Limits.{is_weight, length_limit, lengths_fine, tail_fine}
use Rattle.protocol_laws.proofs.Limits.{fine-tail}
use Rattle.lists.specs.Tests.{all_b, both, pick}
use Rattle.lists.proofs.Tests.{all_replicate, both-0, both-1}
use Rattle.spelling.specs.Content.{Content, as_packet, eight_tails, valid_content}
use Rattle.numbers.specs.Numbers.{be16, be32, bytes16, bytes32, bytes64}
use Rattle.spelling.specs.Reading.{record_at, record_here}
use Rattle.spelling.specs.Spelling.{ballot_bytes, ballots_bytes, end_bytes, head_bytes, head_size, log_record, spelling}
use Rattle.spelling.proofs.Ballots.{by-test}
use Rattle.spelling.proofs.Items.{is_word, room_for, record_item, weight_item, value_item}
use Rattle.numbers.proofs.Runs.{run_length}
use Rattle.spelling.proofs.Valid.{Valid, valid-facts, valid-test, log-length, tails-fine}

-- a ballot's bytes: none, or four and four for each value
pub ballot-length : (o : ℕ) (t : List ℕ) → length (ballot_bytes o t) ≤ 4 + 4 * length t
unfolding ballot_bytes
ballot-length o [] = omega arith
ballot-length o (v ∷ vs) = omega (arith, run_length 4 bytes32 be32 (room_for 4) is_word value_item (v ∷ vs))

-- the head, the log records, the ballots, the end
pub spelling-length : (c : Content) → length (spelling c) ≡ head_size (length c.weights) + (6 * length c.log + (length (ballots_bytes 0 c.tails) + 2))
unfolding spelling head_bytes bytes64 bytes32 end_bytes
spelling-length c =
    let w = run_length 2 bytes16 be16 (room_for 2) is_weight weight_item c.weights in
    let l = run_length 6 log_record record_at record_here is_word record_item c.log in
    simp length-append (omega arith)

-- at most j tails, whose ballots have at most m bytes each
ballots-most : (n k m o j : ℕ) (ts : List (List ℕ)) → length ts ≤ j → ((t : List ℕ) → tail_fine n k t ≡ true → 4 + 4 * length t ≤ m) → all_b (tail_fine n k) ts ≡ true
    → length (ballots_bytes o ts) ≤ j * m
unfolding ballots_bytes all_b
ballots-most n k m o j [] h f e = omega arith
ballots-most n k m o zero (t ∷ ts) h f e = absurd (omega arith)
ballots-most n k m o (suc j) (t ∷ ts) h f e =
    let a : 4 + 4 * length t ≤ m = f t (both-0 _ _ e) in
    let b : length (ballots_bytes (suc o) ts) ≤ j * m = ballots-most n k m (suc o) j ts (omega arith) f (both-1 (tail_fine n k t) _ e) in
    rw (length-append, suc-mul) (omega (arith, ballot-length o t))

-- "the longest message is then 7046 bytes": with 992 undropped entries, 36 + 5952 + 1056 + 2
pub longest : (c : Content) → valid_content c ≡ true → length (spelling c) ≤ 7046
longest c e = by-test _ (leb (length c.log) 992) (λ q. few (leb-true _ _ q)) (λ q. many (leb-false _ _ q))
  where
    v : Valid c
    v = valid-facts c e

    few : length c.log ≤ 992 → length (spelling c) ≤ 7046
    few h =
        let b : length (ballots_bytes 0 c.tails) ≤ 8 * 132 =
        ballots-most c.n (length c.log) 132 0 8 c.tails (omega (arith, v.tails-length, v.few-offices))
        (λ t q. omega (arith, fine-tail c.n (length c.log) t q)) (tails-fine c v) in
        omega (arith, spelling-length c, v.weights-length, v.few-offices)

    many : 992 < length c.log → length (spelling c) ≤ 7046
    many h =
        let m : ℕ = 4 + 4 * (1024 - length c.log) in
        let b : length (ballots_bytes 0 c.tails) ≤ 8 * m =
        ballots-most c.n (length c.log) m 0 8 c.tails (omega (arith, v.tails-length, v.few-offices))
        (λ t q. omega (arith, fine-tail c.n (length c.log) t q)) (tails-fine c v) in
        omega (arith, spelling-length c, v.weights-length, v.few-offices, log-length c v)

-- a tail of four entries of each of the offices below k: of all eight, a full tail in which each has its part
fours : ℕ → List ℕ
fours zero = []
fours (suc k) = let e : ℕ = value k 0 0 in e ∷ e ∷ e ∷ e ∷ fours k

full_tail : List ℕ
full_tail = fours 8

-- a content of 992 undropped entries and eight tails of 32
longest_content : Content
longest_content = record { sender = 0; n = 8; weights = replicate 8 1; dropped = 0; log = replicate 992 0; tails = replicate 8 full_tail }

zero-entry : is_entry 8 0 ≡ true
unfolding is_entry proper both pick
zero-entry = refl

full-fine : tail_fine 8 992 full_tail ≡ true
unfolding full_tail fours tail_fine all_b both pick is_entry proper fair counts_after
full-fine = refl

-- ballots of 32 values each
full-length : (o j : ℕ) → length (ballots_bytes o (replicate j full_tail)) ≡ j * 132
unfolding full_tail fours ballots_bytes ballot_bytes
full-length o zero = refl
full-length o (suc j) = rw (length-append, full-length (suc o) j, suc-mul) (omega (arith, run_length 4 bytes32 be32 (room_for 4) is_word value_item full_tail))

one-weight : is_weight 1 ≡ true
unfolding is_weight
one-weight = refl

longest-facts : Valid longest_content
unfolding longest_content as_packet eight_tails all_b lengths_fine length_limit full_tail fours both
longest-facts =
    record {
      some-office = omega arith;
      few-offices = omega arith;
      sender-below = omega arith;
      weights-length = refl;
      weights-fine = all_replicate is_weight 8 1 one-weight;
      tails-length = refl;
      office = record {
        eight = refl;
        most = rw length-replicate (omega arith);
        entries = all_replicate (is_entry 8) 992 0 zero-entry;
        tails = rw length-replicate (all_replicate (tail_fine 8 992) 8 full_tail full-fine);
        rest = refl;
      };
      lengths = refl;
    }

longest-length : length (spelling longest_content) ≡ 7046
unfolding longest_content
longest-length = omega (arith, spelling-length longest_content, length-replicate {A = ℕ} 992 0, full-length 0 8)

pub longest-reached : (c : Content) × (valid_content c ≡ true) × (length (spelling c) ≡ 7046)
longest-reached = (longest_content, valid-test longest_content longest-facts, longest-length)
