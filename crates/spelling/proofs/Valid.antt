-- What `valid_content` says, as facts; and what a valid content is to the protocol. Assumes nothing.
use Prim.Native.Nat.{◌+◌, ◌-◌, ◌≤◌, ◌<◌}
use mathlib.Core.Bool.{true}
use mathlib.Core.List.{[]}
use mathlib.Core.Path.{◌≡◌}
use lib.Dec.{ltb, leb, eqb}
use lib.ListN.{length, replicate}
use borrow.Author.Tests.{ltb-true, leb-true, eqb-true, lt-ltb, le-leb, eq-eqb}
use Rattle.protocol.specs.Limits.{is_office, is_weight, tail_fine, office_fine, length_limit, lengths_fine, folded_fine}
use Rattle.protocol_laws.proofs.Limits.{Fine, fine, fine_of}
use Rattle.lists.specs.Tests.{all_b, both}
use Rattle.lists.proofs.Tests.{both-1, both-0, both_true, all-append-0}
use Rattle.spelling.specs.Content.{Content, valid_content, as_packet, eight_tails}

-- what `valid_content` says, as facts
pub record Valid (m : Content) : Type 0 where
  pub some-office : 1 ≤ m.n
  pub few-offices : m.n ≤ 8
  pub sender-below : m.sender < m.n
  pub weights-length : length m.weights ≡ m.n
  pub weights-fine : all_b is_weight m.weights ≡ true
  pub tails-length : length m.tails ≡ m.n
  pub office : Fine m.n (as_packet m).state
  pub lengths : lengths_fine (m.dropped + length m.log) (as_packet m).state.tails ≡ true

pub valid-facts : (m : Content) → valid_content m ≡ true → Valid m
unfolding valid_content is_office folded_fine as_packet
valid-facts m h0 =
    let o0 = both-0 (both (leb 1 m.n) (both (leb m.n 8) (ltb m.sender m.n))) _ h0 in
    let o1 = both-1 (leb 1 m.n) _ o0 in
    let h1 = both-1 (both (leb 1 m.n) (both (leb m.n 8) (ltb m.sender m.n))) _ h0 in
    let h2 = both-1 (eqb (length m.weights) m.n) _ h1 in
    let h3 = both-1 (all_b is_weight m.weights) _ h2 in
    let h4 = both-1 (eqb (length m.tails) m.n) _ h3 in
    record {
      some-office = leb-true _ _ (both-0 _ _ o0);
      few-offices = leb-true _ _ (both-0 _ _ o1);
      sender-below = ltb-true _ _ (both-1 (leb m.n 8) _ o1);
      weights-length = eqb-true _ _ (both-0 _ _ h1);
      weights-fine = both-0 _ _ h2;
      tails-length = eqb-true _ _ (both-0 _ _ h3);
      office = fine m.n (as_packet m).state (both-0 _ _ h4);
      lengths = both-1 (office_fine m.n (as_packet m).state) _ h4;
    }

pub valid-test : (m : Content) → Valid m → valid_content m ≡ true
unfolding valid_content is_office folded_fine as_packet
valid-test m v =
    both_true _ _ (both_true _ _ (le-leb 1 m.n v.some-office) (both_true _ _ (le-leb m.n 8 v.few-offices) (lt-ltb m.sender m.n v.sender-below)))
    (both_true _ _ (eq-eqb (length m.weights) m.n v.weights-length)
    (both_true _ _ v.weights-fine
    (both_true _ _ (eq-eqb (length m.tails) m.n v.tails-length) (both_true _ _ (fine_of m.n (as_packet m).state v.office) v.lengths))))

-- a valid content's message carries an office's state within the limits
pub valid-office : (c : Content) → valid_content c ≡ true → folded_fine c.n c.dropped (as_packet c).state ≡ true
unfolding folded_fine as_packet
valid-office c e = let v = valid-facts c e in both_true _ _ (fine_of c.n (as_packet c).state v.office) v.lengths

-- the settled log and the n tails of that state
module _ (m : Content) (v : Valid m) where
  pub log-length : length m.log ≤ 1024
  unfolding as_packet
  log-length = v.office.most

  -- with the dropped entries it is of 64 bits
  pub settled-length : m.dropped + length m.log ≤ 9223372036854775808
  unfolding lengths_fine length_limit
  settled-length = leb-true (m.dropped + length m.log) length_limit (both-0 _ _ v.lengths)

  pub tails-fine : all_b (tail_fine m.n (length m.log)) m.tails ≡ true
  unfolding as_packet eight_tails
  tails-fine = all-append-0 (tail_fine m.n (length m.log)) m.tails (replicate (8 - m.n) []) v.office.tails
