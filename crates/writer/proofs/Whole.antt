-- The whole message, part by part.
--     head-stores, head-length        the head
--     message-length, counted         the length, and the size that the writer counts
--     front-stores                    the head and the log records
--     whole-written                   the stores, one after the other, write the message
--     refused, written                what writing answers and leaves, without room and with it
--     answer-short, answer-fits       which of them it was, from the answer
-- Assumes nothing.
use Prim.Native.Nat.{ℕ, ◌+◌, ◌*◌, ◌<◌, ◌≤◌}
use mathlib.Core.Bool.{Bool, false, true}
use mathlib.Core.List.{List, ◌++◌, append_assoc}
use mathlib.Core.Path.{◌≡◌, refl, sym, ap, ◌∙◌}
use native.Mathlib.Nat.{zero-add}
use native.Mathlib.Omega.{arith}
use lib.Dec.{ltb}
use lib.ListN.{length, take, set, length-append, drop}
use lib.Seq.{sets, sets-eq, length-take-le}
use borrow.Author.Tests.{lt-ltb, le-ltb}
use Rattle.std.specs.Prelude.{Option, None, Some}
use Rattle.std.proofs.lemmas.Option.{none-some, same_Some}
use Rattle.ballots.specs.declared.Ballot.{Ballot}
use Rattle.lists.specs.Tests.{pick}
use Rattle.protocol.specs.Limits.{is_weight}
use Rattle.numbers.specs.Numbers.{be16, bytes16, bytes32, bytes64, run}
use Rattle.spelling.specs.Reading.{record_at, record_here}
use Rattle.spelling.specs.Spelling.{ballots_bytes, end_bytes, head_bytes, head_size, length_place, log_record, spelling}
use Rattle.spelling.proofs.Items.{is_word, room_for, record_item, weight_item}
use Rattle.lists.proofs.Stores.{sets-append}
use Rattle.numbers.proofs.Runs.{run_length}
use Rattle.writer.specs.Written.{Writes, content_of, front_bytes, message_of, tails_of, written_bytes, written_length}
use Rattle.writer.proofs.Ballots.{ToCount, rest-none}

-- the head
pub head-stores : (sender n : ℕ) (ws : List ℕ) (settled dropped : ℕ) (l : List ℕ) {l1 l2 l3 : List ℕ} {p : ℕ} → length ws ≡ n → p ≡ length_place n
    → l1 ≡ sets (set (set (set (set l 0 0x53) 1 0x48) 2 sender) 3 n) 4 (run bytes16 ws) → l2 ≡ sets l1 p (bytes64 settled) → l3 ≡ sets l2 (p + 8) (bytes64 dropped)
    → l3 ≡ sets l 0 (head_bytes sender n ws settled dropped)
unfolding head_bytes bytes64 bytes32
head-stores sender n ws settled dropped l {l1} e ep e1 e2 e3 =
    let r : length (run bytes16 ws) ≡ 2 * n = run_length 2 bytes16 be16 (room_for 2) is_weight weight_item ws ∙ ap (λ (k : ℕ). 2 * k) e in
    let q : sets (sets l1 (length_place n) (bytes64 settled)) (length_place n + 8) (bytes64 dropped) ≡ sets l1 (length_place n) (bytes64 settled ++ bytes64 dropped) =
    sym (sets-append l1 (length_place n) (bytes64 settled) (bytes64 dropped)) in
    rw (e3, e2, ep, q, e1) (sym (sets-append (set (set (set (set l 0 0x53) 1 0x48) 2 sender) 3 n) 4 (run bytes16 ws) (bytes64 settled ++ bytes64 dropped) ∙ rw r))

pub head-length : (sender n : ℕ) (ws : List ℕ) (settled dropped : ℕ) → length ws ≡ n → length (head_bytes sender n ws settled dropped) ≡ head_size n
unfolding head_bytes bytes64 bytes32
head-length sender n ws settled dropped e =
    omega (arith, run_length 2 bytes16 be16 (room_for 2) is_weight weight_item ws, length-append (run bytes16 ws) (bytes64 settled ++ bytes64 dropped))

-- the head, and the log records behind it
pub front-stores : (sender n : ℕ) (ws : List ℕ) (settled dropped : ℕ) (logs l : List ℕ) {l1 l2 : List ℕ} {h : ℕ} → length ws ≡ n → h ≡ head_size n
    → l1 ≡ sets l 0 (head_bytes sender n ws settled dropped) → l2 ≡ sets l1 h logs → l2 ≡ sets l 0 (head_bytes sender n ws settled dropped ++ logs)
front-stores sender n ws settled dropped logs l e eh e1 e2 =
    let head : List ℕ = head_bytes sender n ws settled dropped in
    let q : 0 + length head ≡ head_size n = omega (arith, head-length sender n ws settled dropped e) in
    rw (e2, e1, eh) (sym (sets-append l 0 head logs ∙ ap (λ (x : ℕ). sets (sets l 0 head) x logs) q))

module _ (sender n : ℕ) (ws : List ℕ) (dropped : ℕ) (log : List ℕ) (held : ℕ) (of : List Ballot) (hn : n ≤ length ws) (hk : held ≤ length log) where
  all : List ℕ
  all = message_of sender n ws dropped log held of

  heads : List ℕ
  heads = head_bytes sender n (take n ws) (dropped + held) dropped

  logs : List ℕ
  logs = run log_record (take held log)

  ballots : List ℕ
  ballots = ballots_bytes 0 (tails_of n of)

  spelled : all ≡ heads ++ (logs ++ (ballots ++ end_bytes))
  unfolding all heads logs ballots spelling content_of
  spelled = rw (length-take-le held log hk)

  heads-length : length heads ≡ head_size n
  unfolding heads
  heads-length = head-length sender n (take n ws) (dropped + held) dropped (length-take-le n ws hn)

  logs-length : length logs ≡ 6 * held
  unfolding logs
  logs-length = run_length 6 log_record record_at record_here is_word record_item (take held log) ∙ ap (λ (k : ℕ). 6 * k) (length-take-le held log hk)

  -- the length of the message: the head, the log records and the end, and then the ballots
  pub message-length : length (message_of sender n ws dropped log held of) ≡ head_size n + 6 * held + 2 + length (ballots_bytes 0 (tails_of n of))
  unfolding all ballots end_bytes
  message-length =
      ap length spelled
      ∙ omega (arith, heads-length, logs-length, length-append heads (logs ++ (ballots ++ end_bytes)), length-append logs (ballots ++ end_bytes), length-append ballots end_bytes)

  -- the size that the walk of the ballots has counted is that length
  pub counted : (base size o : ℕ) → base ≡ head_size n + 6 * held + 2 → ToCount base n of size o → length (take n of) ≤ o → size ≡ length (message_of sender n ws dropped log held of)
  counted base size o e inv h = omega (arith, message-length, ap length (rest-none n of o h))

  -- the stores, one after the other: the front, the ballots, the end
  module _
      (l l1 l2 l3 : List ℕ)
      (b e : ℕ)
      (eb : b ≡ head_size n + 6 * held)
      (e1 : l1 ≡ sets l 0 (front_bytes sender n ws dropped log held))
      (ee : e ≡ b + length (ballots_bytes 0 (tails_of n of)))
      (e2 : l2 ≡ sets l1 b (ballots_bytes 0 (tails_of n of)))
      (e3 : l3 ≡ sets l2 e end_bytes)
    where
      whole-stores : l3 ≡ sets l 0 (message_of sender n ws dropped log held of)
      unfolding all heads logs ballots
      whole-stores =
          let q : sets l 0 all ≡ sets (sets (sets l 0 (heads ++ logs)) b ballots) e end_bytes =
          ap (λ (x : List ℕ). sets l 0 x) (spelled ∙ sym (append_assoc heads logs (ballots ++ end_bytes)))
          ∙ sets-append l 0 (heads ++ logs) (ballots ++ end_bytes)
          ∙ ap (λ (x : ℕ). sets (sets l 0 (heads ++ logs)) x (ballots ++ end_bytes)) (omega (arith, length-append heads logs, heads-length, logs-length))
          ∙ sets-append (sets l 0 (heads ++ logs)) b ballots end_bytes
          ∙ ap (λ (x : ℕ). sets (sets (sets l 0 (heads ++ logs)) b ballots) x end_bytes) (sym ee) in
          rw (q, e3, e2, e1)

      -- stores from the start of a buffer that has room leave its later bytes
      pub whole-written : length (message_of sender n ws dropped log held of) ≤ length l
          → l3 ≡ message_of sender n ws dropped log held of ++ drop (length (message_of sender n ws dropped log held of)) l
      whole-written room = whole-stores ∙ sets-eq (message_of sender n ws dropped log held of) l 0 (rw zero-add room) ∙ rw zero-add

-- ---- what writing answers and leaves

module _ (message out : List ℕ) (size : ℕ) (e : size ≡ length message) where
  pub refused : length out < size → Writes message out None out
  unfolding written_length written_bytes pick
  refused h = let t = lt-ltb (length out) (length message) (omega arith) in (simp t, simp t)

  pub written : size ≤ length out → Writes message out (Some size) (message ++ drop (length message) out)
  unfolding written_length written_bytes pick
  written h = let t = le-ltb (length out) (length message) (omega arith) in (simp t (ap Some e), simp t)

-- none is answered without room alone, and the length with room alone
pub answer-short : (message out : List ℕ) → None ≡ written_length message out → ltb (length out) (length message) ≡ true
unfolding written_length pick
answer-short message out = go (ltb (length out) (length message))
  where
    go : (b : Bool) → ◌≡◌ {A = Option ℕ} None (pick b None (Some (length message))) → b ≡ true
    go true e = refl
    go false e = absurd (none-some (length message) e)

pub answer-fits : (message out : List ℕ) (k : ℕ) → Some k ≡ written_length message out → (ltb (length out) (length message) ≡ false) × (k ≡ length message)
unfolding written_length pick
answer-fits message out k = go (ltb (length out) (length message))
  where
    go : (b : Bool) → ◌≡◌ {A = Option ℕ} (Some k) (pick b None (Some (length message))) → (b ≡ false) × (k ≡ length message)
    go true e = absurd (none-some k (sym e))
    go false e = (refl, same_Some k (length message) e)
