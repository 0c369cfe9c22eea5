-- The tests of a message in the order in which the code makes them, and what reading it answers, exit by exit.
--     in_order              the layout and the limits, as the tests of the head, the log records, the ballots, the tails, and the lengths
--     no-head, no-log ..    the exits
-- Assumes nothing.
use Prim.Native.Nat.{ℕ, zero, suc, ◌+◌, ◌*◌, ◌-◌}
use mathlib.Core.Bool.{Bool, false, true}
use mathlib.Core.List.{List, map}
use Rattle.std.specs.Prelude.{None, Some}
use mathlib.Core.Path.{◌∙◌, ◌≡◌, ap, refl, sym}
use native.Mathlib.Omega.{arith}
use lib.Dec.{eqb, leb}
use lib.ListN.{drop, length, length-drop, take}
use lib.Seq.{take_all}
use borrow.Author.Tests.{lt-ltb, eq-eqb}
use Rattle.lists.specs.Tests.{all_b, both}
use Rattle.lists.proofs.Tests.{alike, all_map, both-0, both-1, both-assoc, both-comm, both-false-0, both-false-1, both-swap, both_true, pick-false, pick_true}
use Rattle.protocol.specs.Entry.{is_entry}
use Rattle.protocol.specs.Limits.{is_office, is_weight, log_fine, office_fine, folded_fine, lengths_fine, tail_fine, tails_fine}
use Rattle.numbers.specs.Numbers.{Bytes, be16, run_at}
use Rattle.numbers.proofs.Runs.{bytes_drop, run_at-length}
use Rattle.ballots.specs.declared.Ballot.{Ballot}
use Rattle.ballots.specs.Ballots.{ballot_fine, ballot_of, ballot_shape, ballots_fine, tail_of}
use Rattle.ballots.proofs.Laws.{fine-tail, tails-of}
use Rattle.spelling.specs.Content.{as_packet, eight_tails, valid_content}
use Rattle.spelling.specs.Spelling.{head_size}
use Rattle.spelling.specs.Reading.{ballots_ok, content_at, count_at, head_ok, layout_ok, reading, record_at, records_ok, rest_at, sender_at, dropped_at, held_at, tails_at}
use Rattle.spelling.proofs.Ballots.{tails_at-length}
use Rattle.numbers.proofs.Numbers.{be16-below}
use Rattle.readings.specs.declared.Reading.{Reading}
use Rattle.message_heads.specs.Heads.{head_said, head_within, head_reading}
use Rattle.message_heads.proofs.Heads.{head-failed}
use Rattle.reading.specs.Read.{ballots_of, log_within, reading_of}

-- other ballots beside the same head
pub said-beside : (s : List ℕ) (m : Reading) (bs : List Ballot) → m ≡ head_said s m.ballots
    → record { sender = m.sender; n = m.n; weights = m.weights; dropped = m.dropped; held = m.held; head = m.head; ballots = bs } ≡ head_said s bs
said-beside s m bs e =
    ap (λ (r : Reading). record { sender = r.sender; n = r.n; weights = r.weights; dropped = r.dropped; held = r.held; head = r.head; ballots = bs }) e

-- ---- the tests in the code's order

-- any two bytes spell a weight
weights-fine : (k : ℕ) (s : List ℕ) → Bytes s → all_b is_weight (run_at 2 be16 k s) ≡ true
unfolding run_at all_b is_weight
weights-fine zero s b = refl
weights-fine (suc k) s b = both_true _ _ (lt-ltb (be16 s) 65536 (be16-below s b)) (weights-fine k (drop 2 s) (bytes_drop 2 s b))

shape-fine : (n held : ℕ) (b : Ballot) → ballot_fine n held b ≡ true → ballot_shape b ≡ true
unfolding ballot_fine
shape-fine n held b e = both-0 (ballot_shape b) _ e

tails-each : (n held : ℕ) (ts : List (List ℕ)) → tails_fine n held ts ≡ true → all_b (tail_fine n held) ts ≡ true
unfolding tails_fine
tails-each n held ts e = both-0 _ _ (both-1 (eqb (length ts) 8) _ e)

-- ballots that hold tails are within the limits as the tails are
pub ballots-fine : (n held : ℕ) (ts : List (List ℕ)) → ballots_fine n held (map ballot_of ts) ≡ tails_fine n held ts
unfolding ballots_fine
ballots-fine n held ts = rw (tails-of ts) (alike _ _ (λ e. both-1 (all_b ballot_shape (map ballot_of ts)) _ e) (λ e. both_true _ _ (shapes e) e))
  where
    shape : (t : List ℕ) → tail_fine n held t ≡ true → ballot_shape (ballot_of t) ≡ true
    shape t e = shape-fine n held (ballot_of t) (fine-tail n held t e)

    shapes : tails_fine n held ts ≡ true → all_b ballot_shape (map ballot_of ts) ≡ true
    shapes e = all_map (tail_fine n held) ballot_shape ballot_of shape ts (tails-each n held ts e)

pub stored-tails : (n : ℕ) (ts : List (List ℕ)) (bs : List Ballot) → bs ≡ ballots_of n ts → map tail_of bs ≡ eight_tails n ts
unfolding ballots_of
stored-tails n ts bs e = ap (map tail_of) e ∙ tails-of (eight_tails n ts)

pub stored-fine : (n held : ℕ) (ts : List (List ℕ)) (bs : List Ballot) → bs ≡ ballots_of n ts → ballots_fine n held bs ≡ tails_fine n held (eight_tails n ts)
unfolding ballots_of
stored-fine n held ts bs e = ap (ballots_fine n held) e ∙ ballots-fine n held (eight_tails n ts)

-- ballots within the limits are in shape
pub fine-shapes : (n held : ℕ) (bs : List Ballot) → ballots_fine n held bs ≡ true → all_b ballot_shape bs ≡ true
unfolding ballots_fine
fine-shapes n held bs e = both-0 _ _ e

-- the ballots in the rest of a message, and the eight tails that they say
abbrev after : List ℕ → ℕ → List ℕ
after rest k = drop (6 * k) rest

abbrev eight_at : List ℕ → ℕ → ℕ → List (List ℕ)
eight_at rest n k = eight_tails n (tails_at (after rest k) 0 n)

module _ (s : List ℕ) (b : Bytes s) where
  -- what is left of the limits: the tests that hold of all bytes are gone
  limits : valid_content (content_at s)
      ≡ both (is_office (count_at s) (sender_at s))
      (both (both (both (leb (held_at s) 1024) (all_b (is_entry (count_at s)) (run_at 6 record_at (held_at s) (rest_at s))))
      (tails_fine (count_at s) (held_at s) (eight_at (rest_at s) (count_at s) (held_at s))))
      (lengths_fine (dropped_at s + held_at s) (eight_at (rest_at s) (count_at s) (held_at s))))
  unfolding valid_content content_at as_packet folded_fine office_fine log_fine both
  limits =
      rw (
        run_at-length 2 be16 (count_at s) (drop 4 s),
        eq-eqb (count_at s) (count_at s) refl,
        weights-fine (count_at s) (drop 4 s) (bytes_drop 4 s b),
        tails_at-length (after (rest_at s) (held_at s)) 0 (count_at s),
        eq-eqb (count_at s) (count_at s) refl,
        run_at-length 6 record_at (held_at s) (rest_at s),
      )

  in_order : both (layout_ok s) (valid_content (content_at s))
      ≡ both (head_within s) (both (log_within (rest_at s) (count_at s) (held_at s))
      (both (both (ballots_ok (after (rest_at s) (held_at s)) 0 (count_at s)) (tails_fine (count_at s) (held_at s) (eight_at (rest_at s) (count_at s) (held_at s))))
      (lengths_fine (dropped_at s + held_at s) (eight_at (rest_at s) (count_at s) (held_at s)))))
  unfolding layout_ok records_ok head_within log_within
  in_order = ap (both (layout_ok s)) limits ∙ ordered (head_ok s) _ _ (is_office (count_at s) (sender_at s)) _ _ _ _
    where
      ordered : (h r b o k e t l : Bool) → both (both h (both r b)) (both o (both (both (both k e) t) l)) ≡ both (both h (both o k)) (both (both r e) (both (both b t) l))
      ordered h r b o k e t l = simp (both-comm, both-assoc, both-swap)

pub no-head : (s : List ℕ) → Bytes s → None ≡ head_reading s → None ≡ reading_of (reading s)
unfolding reading reading_of
no-head s b e = rw (pick-false _ (Some (content_at s)) None (in_order s b ∙ both-false-0 _ _ (head-failed s (sym e))))

-- ---- the whole

-- what the code has of a message whose head passed its test: n, how many entries are held, the rest
pub record Parts (s : List ℕ) (n k : ℕ) (rest : List ℕ) : Type 0 where
  pub bytes : Bytes s
  pub within : head_within s ≡ true
  pub count : n ≡ count_at s
  pub held : k ≡ held_at s
  pub rest-is : rest ≡ rest_at s

pub rest-at : (s : List ℕ) (h : ℕ) → h ≡ head_size (count_at s) → take (length s - h) (drop h s) ≡ rest_at s
unfolding rest_at
rest-at s h e = take_all (length s - h) (drop h s) (omega (arith, length-drop h s)) ∙ rw e

module _ (s : List ℕ) (n k : ℕ) (rest : List ℕ) (P : Parts s n k rest) where
  -- the tests after the head's
  decided : both (layout_ok s) (valid_content (content_at s))
      ≡ both (log_within rest n k) (both (both (ballots_ok (after rest k) 0 n) (tails_fine n k (eight_at rest n k))) (lengths_fine (dropped_at s + k) (eight_at rest n k)))
  unfolding both
  decided = rw (P.count, P.held, P.rest-is) (in_order s P.bytes ∙ rw P.within)

  refused : both (layout_ok s) (valid_content (content_at s)) ≡ false → None ≡ reading_of (reading s)
  unfolding reading reading_of
  refused e = rw (pick-false _ (Some (content_at s)) None e)

  -- a log record fails
  pub no-log : log_within rest n k ≡ false → None ≡ reading_of (reading s)
  no-log e = refused (decided ∙ both-false-0 _ _ e)

  -- a ballot or the end fails
  pub no-ballots : ballots_ok (after rest k) 0 n ≡ false → None ≡ reading_of (reading s)
  no-ballots e = refused (decided ∙ both-false-1 _ _ (both-false-0 _ _ (both-false-0 _ _ e)))

  -- what the code has when all the ballots are stored beside the head
  module _ (m : Reading) (said : m ≡ head_said s m.ballots) (stored : m.ballots ≡ ballots_of n (tails_at (after rest k) 0 n)) where
    abbrev pub Said : Type 0
    Said = (m.n ≡ n) × (m.held ≡ k) × (m.dropped ≡ dropped_at s)

    pub fields : Said
    fields = (ap (λ (r : Reading). r.n) said ∙ sym P.count, ap (λ (r : Reading). r.held) said ∙ sym P.held, ap (λ (r : Reading). r.dropped) said)

    tested : ballots_fine m.n m.held m.ballots ≡ tails_fine n k (eight_at rest n k)
    tested = rw (fields.0, fields.1) (stored-fine n k _ m.ballots stored)

    bounded : lengths_fine (m.dropped + m.held) (map tail_of m.ballots) ≡ lengths_fine (dropped_at s + k) (eight_at rest n k)
    bounded = rw (fields.1, fields.2) (ap (lengths_fine (dropped_at s + k)) (stored-tails n _ m.ballots stored))

    -- the ballots' tails are outside the limits
    pub no-tails : ballots_fine m.n m.held m.ballots ≡ false → None ≡ reading_of (reading s)
    no-tails e = refused (decided ∙ both-false-1 _ _ (both-false-0 _ _ (both-false-1 (ballots_ok (after rest k) 0 n) _ (sym tested ∙ e))))

    -- the settled length is, alone or with a tail
    pub no_lengths : lengths_fine (m.dropped + m.held) (map tail_of m.ballots) ≡ false → None ≡ reading_of (reading s)
    no_lengths e = refused (decided ∙ both-false-1 _ _ (both-false-1 _ _ (sym bounded ∙ e)))

    pub read_all : log_within rest n k ≡ true → ballots_ok (after rest k) 0 n ≡ true → ballots_fine m.n m.held m.ballots ≡ true
        → lengths_fine (m.dropped + m.held) (map tail_of m.ballots) ≡ true → Some m ≡ reading_of (reading s)
    unfolding reading reading_of content_at
    read_all el eb et eh =
        rw (pick_true _ (Some (content_at s)) None (decided ∙ both_true _ _ el (both_true _ _ (both_true _ _ eb (sym tested ∙ et)) (sym bounded ∙ eh))), run_at-length 6 record_at (held_at s) (rest_at s))
        (ap Some (said ∙ rw (stored, P.rest-is, P.held, P.count)))
