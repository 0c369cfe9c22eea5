-- The two laws of the message: a valid content is read back from its spelling, and what is read is valid and is spelled so and no
-- other way. Assumes nothing.
use Prim.Native.Nat.{ℕ, ◌+◌, ◌-◌, ◌*◌, ◌≤◌}
use mathlib.Core.Bool.{Bool, true, false}
use mathlib.Core.List.{List, ◌∷◌, ◌++◌, append_assoc}
use Rattle.std.specs.Prelude.{None, Some}
use mathlib.Core.Path.{◌≡◌, subst, refl, sym, ap, ◌∙◌}
use native.Mathlib.Omega.{arith}
use lib.ListN.{length, drop, length-drop}
use lib.Seq.{drop-drop}
use Rattle.protocol.specs.Entry.{is_entry}
use Rattle.protocol.specs.Limits.{is_weight}
use Rattle.lists.specs.Tests.{all_b, both, pick}
use Rattle.lists.proofs.Tests.{both-1, both-0, both_true, all-mono}
use Rattle.numbers.specs.Numbers.{run_ok, run_at, Bytes, bytes16, bytes32, bytes64, be16, be64, run}
use Rattle.numbers.proofs.Numbers.{be64-bytes64, be64-back}
use Rattle.numbers.proofs.Runs.{bytes_drop, run-said, run-here, run_past, run-back, run_at-length}
use Rattle.numbers.proofs.Steps.{run_room}
use Rattle.spelling.specs.Content.{Content, valid_content, as_packet}
use Rattle.spelling.specs.Reading.{tails_at, settled_at, dropped_at, held_at, reading, head_ok, ballots_ok, records_ok, rest_at, content_at, record_here, layout_ok, sender_at, count_at, record_at}
use Rattle.spelling.specs.Spelling.{head_bytes, head_size, length_place, dropped_place, spelling, ballots_bytes, log_record, end_bytes}
use Rattle.spelling.proofs.Ballots.{ballots-said, ballots-here, ballots-back, four-back, tail_words, tails-words}
use Rattle.spelling.proofs.Head.{Head, head-facts, head-test}
use Rattle.spelling.proofs.Items.{is_word, entry-word, room_for, room-for, weight_item, record_item, record-length}
use Rattle.spelling.proofs.Valid.{Valid, valid-facts, settled-length, tails-fine}

-- ---- what is written is read back

-- the records of a content: what stands after the head
abbrev records : Content → List ℕ
records m = run log_record m.log ++ (ballots_bytes 0 m.tails ++ end_bytes)

-- the spelling, field by field of the head
spelled : (m : Content) → spelling m ≡ 0x53 ∷ 0x48 ∷ m.sender ∷ m.n ∷ (run bytes16 m.weights ++ (bytes64 (m.dropped + length m.log) ++ (bytes64 m.dropped ++ records m)))
unfolding spelling head_bytes
spelled m = simp append_assoc

module _ (m : Content) (v : Valid m) where
  -- its values are numbers of 32 bits
  log-words : all_b is_word m.log ≡ true
  unfolding as_packet
  log-words = all-mono (is_entry m.n) is_word (λ x q. entry-word m.n x v.few-offices q) m.log v.office.entries

  words : all_b tail_words m.tails ≡ true
  words = tails-words m.n (length m.log) v.few-offices m.tails (tails-fine m v)

  count-said : count_at (spelling m) ≡ m.n
  unfolding spelling head_bytes
  count-said = refl

  settled : ℕ
  settled = m.dropped + length m.log

  after-weights : drop (length_place m.n) (spelling m) ≡ bytes64 settled ++ (bytes64 m.dropped ++ records m)
  unfolding settled
  after-weights =
      sym (drop-drop (2 * m.n) 4 (spelling m))
      ∙ ap (λ (k : ℕ). drop (2 * k) (drop 4 (spelling m))) (sym v.weights-length)
      ∙ ap (λ (s : List ℕ). drop (2 * length m.weights) (drop 4 s)) (spelled m)
      ∙ run_past 2 bytes16 be16 (room_for 2) is_weight weight_item m.weights _

  after-length : drop (dropped_place m.n) (spelling m) ≡ bytes64 m.dropped ++ records m
  unfolding bytes64 bytes32
  after-length =
      let e : dropped_place m.n ≡ length_place m.n + 8 = omega arith in
      rw (e, ← drop-drop 8 (length_place m.n) (spelling m), after-weights)

  settled-said : settled_at (spelling m) ≡ settled
  unfolding settled_at settled
  settled-said = rw (count-said, after-weights) (be64-bytes64 settled (bytes64 m.dropped ++ records m) (omega (arith, settled-length m v)))

  dropped-said : dropped_at (spelling m) ≡ m.dropped
  unfolding dropped_at
  dropped-said = rw (count-said, after-length) (be64-bytes64 m.dropped (records m) (omega (arith, settled-length m v)))

  held-said : held_at (spelling m) ≡ length m.log
  unfolding settled
  held-said = omega (arith, settled-said, dropped-said)

  rest-said : rest_at (spelling m) ≡ records m
  unfolding rest_at bytes64 bytes32
  rest-said =
      let e : head_size m.n ≡ dropped_place m.n + 8 = omega arith in
      rw (count-said, e, ← drop-drop 8 (dropped_place m.n) (spelling m), after-length)

  after-log : drop (6 * length m.log) (records m) ≡ ballots_bytes 0 m.tails ++ end_bytes
  after-log = run_past 6 log_record record_at record_here is_word record_item m.log (ballots_bytes 0 m.tails ++ end_bytes)

  weights-said : run_at 2 be16 m.n (drop 4 (spelling m)) ≡ m.weights
  weights-said = rw (spelled m, ← v.weights-length) (run-said 2 bytes16 be16 (room_for 2) is_weight weight_item m.weights _ v.weights-fine)

  log-said : run_at 6 record_at (length m.log) (records m) ≡ m.log
  log-said = run-said 6 log_record record_at record_here is_word record_item m.log _ log-words

  tails-said : tails_at (ballots_bytes 0 m.tails ++ end_bytes) 0 m.n ≡ m.tails
  tails-said = rw (← v.tails-length) (ballots-said 0 m.tails words)

  sender-said : sender_at (spelling m) ≡ m.sender
  unfolding spelling head_bytes
  sender-said = refl

  msg-said : content_at (spelling m) ≡ m
  unfolding content_at
  msg-said = rw held-said (simp (sender-said, count-said, dropped-said, rest-said, weights-said, log-said, after-log, tails-said))

  long : head_size m.n ≤ length (spelling m)
  unfolding bytes64 bytes32
  long =
      let e : length (spelling m) - dropped_place m.n ≡ length (bytes64 m.dropped ++ records m) = sym (length-drop (dropped_place m.n) (spelling m)) ∙ ap length after-length in
      omega arith

  head-here : head_ok (spelling m) ≡ true
  unfolding spelling head_bytes settled
  head-here =
      head-test (spelling m)
      (record { four = omega (arith, long); mark-0 = refl; mark-1 = refl; head-long = long; dropped-within = omega (arith, settled-said, dropped-said) })

  records-here : records_ok (records m) m.n (length m.log) ≡ true
  unfolding records_ok
  records-here =
      both_true _ _ (run-here 6 log_record record_at record_here is_word record_item m.log (ballots_bytes 0 m.tails ++ end_bytes) log-words)
      (rw (after-log, ← v.tails-length) (ballots-here 0 m.tails words))

  msg-here : layout_ok (spelling m) ≡ true
  unfolding layout_ok
  msg-here = both_true _ _ head-here (rw (count-said, held-said, rest-said) records-here)

-- reading the spelling of a valid content gives it back
pub reading-spelling : (m : Content) → valid_content m ≡ true → reading (spelling m) ≡ Some m
unfolding reading pick both
reading-spelling m h = let v = valid-facts m h in rw (msg-here m v, msg-said m v, h)

-- ---- what is read is spelled so

head-back : (s : List ℕ) → Head s → 0x53 ∷ 0x48 ∷ sender_at s ∷ count_at s ∷ drop 4 s ≡ s
head-back s h = rw (h.mark-0, h.mark-1) at (four-back s h.four)

module _ (s : List ℕ) (ok : layout_ok s ≡ true) where
  pub layout-head : Head s
  unfolding layout_ok
  layout-head = head-facts s (both-0 _ _ ok)

  layout-log : run_ok 6 record_here (held_at s) (rest_at s) ≡ true
  unfolding layout_ok records_ok
  layout-log = both-0 _ _ (both-1 (head_ok s) _ ok)

  layout-ballots : ballots_ok (drop (6 * held_at s) (rest_at s)) 0 (count_at s) ≡ true
  unfolding layout_ok records_ok
  layout-ballots = both-1 (run_ok 6 record_here (held_at s) (rest_at s)) _ (both-1 (head_ok s) _ ok)

module _ (s : List ℕ) (b : Bytes s) (ok : layout_ok s ≡ true) where
  rest-bytes : Bytes (rest_at s)
  unfolding rest_at
  rest-bytes = bytes_drop (head_size (count_at s)) s b

  -- the eight bytes at a place of the head, and what stands behind them
  eight-back : (p : ℕ) → p + 8 ≤ length s → bytes64 (be64 (drop p s)) ++ drop (p + 8) s ≡ drop p s
  eight-back p h = rw (← drop-drop 8 p s) (be64-back (drop p s) (bytes_drop p s b) (rw length-drop (omega arith)))

  counts-back : bytes64 (settled_at s) ++ (bytes64 (dropped_at s) ++ rest_at s) ≡ drop (2 * count_at s) (drop 4 s)
  unfolding settled_at dropped_at rest_at
  counts-back =
      let h : Head s = layout-head s ok in
      let n : ℕ = count_at s in
      let e : head_size n ≡ dropped_place n + 8 = omega arith in
      let f : dropped_place n ≡ length_place n + 8 = omega arith in
      rw (e, eight-back (dropped_place n) (omega arith), f, eight-back (length_place n) (omega arith), drop-drop)

  layout-back : spelling (content_at s) ≡ s
  unfolding content_at
  layout-back =
      let h : Head s = layout-head s ok in
      let n : ℕ = count_at s in
      let k : ℕ = held_at s in
      let whole : dropped_at s + held_at s ≡ settled_at s = omega (arith, h.dropped-within) in
      rw (
        spelled,
        run_at-length 6 record_at k (rest_at s),
        whole,
        ballots-back (drop (6 * k) (rest_at s)) 0 n (bytes_drop (6 * k) (rest_at s) rest-bytes) (layout-ballots s ok),
        run-back 6 log_record record_at record_here is_word record_item k (rest_at s) rest-bytes (layout-log s ok),
        counts-back,
        run-back 2 bytes16 be16 (room_for 2) is_weight weight_item n (drop 4 s) (bytes_drop 4 s b) (room-for 2 n (drop 4 s) (rw length-drop (omega arith))),
      )
      (head-back s h)

picked : (t : Bool) (x c : Content) → pick t (Some x) None ≡ Some c → (t ≡ true) × (x ≡ c)
unfolding pick
picked true x c e = (refl, cc)
picked false x c e = let z : ◌≡◌ {A = ℕ} 0 1 = cc in absurd (omega arith)

module _ (s : List ℕ) (c : Content) (e : reading s ≡ Some c) where
  both-tests : (both (layout_ok s) (valid_content (content_at s)) ≡ true) × (content_at s ≡ c)
  unfolding reading
  both-tests = picked _ (content_at s) c e

  -- bytes that are read are of the layout, and say what is read, which is valid
  pub reading-is : (layout_ok s ≡ true) × (content_at s ≡ c)
  reading-is = (both-0 _ _ both-tests.0, both-tests.1)

  pub reading-valid : valid_content c ≡ true
  reading-valid = ap valid_content (sym both-tests.1) ∙ both-1 (layout_ok s) _ both-tests.0

  -- ---- the log in the message: its records stand after the head, six bytes each
  held-read : length (content_at s).log ≡ held_at s
  unfolding content_at
  held-read = run_at-length 6 record_at (held_at s) (rest_at s)

  pub reading-log : run_at 6 record_at (length c.log) (drop (head_size c.n) s) ≡ c.log
  unfolding content_at rest_at
  reading-log =
      subst (λ (d : Content). run_at 6 record_at (length d.log) (drop (head_size d.n) s) ≡ d.log) reading-is.1
      (ap (λ (k : ℕ). run_at 6 record_at k (rest_at s)) held-read)

  pub reading-room : head_size c.n + 6 * length c.log ≤ length s
  unfolding content_at rest_at
  reading-room =
      let h : Head s = layout-head s reading-is.0 in
      let m : 6 * held_at s ≤ length (rest_at s) = run_room 6 record_here record-length (held_at s) (rest_at s) (layout-log s reading-is.0) in
      subst (λ (d : Content). head_size d.n + 6 * length d.log ≤ length s) reading-is.1 (omega (arith, held-read, length-drop (head_size (count_at s)) s))

-- whatever is read is the spelling of a valid content: no other spelling is accepted
pub spelling-reading : (s : List ℕ) (c : Content) → Bytes s → reading s ≡ Some c → (spelling c ≡ s) × (valid_content c ≡ true)
spelling-reading s c b e = (rw (reading-is s c e).1 at (layout-back s b (reading-is s c e).0), reading-valid s c e)
