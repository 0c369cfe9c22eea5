-- What a call answered, put into a turn: each law takes the call's promise and the answer's. Assumes nothing.
use mathlib.Core.Path.{◌≡◌, sym, ap, ◌∙◌}
use mathlib.Core.List.{List, ◌++◌}
use Prim.Native.Nat.{ℕ, ◌*◌, ◌<◌, ◌≤◌, min}
use native.Mathlib.Nat.{min-le_right}
use lib.Seq.{length-take-le, take-take}
use Rattle.rehearsal_lines.proofs.Holding.{take_within}
use native.Mathlib.Omega.{arith}
use lib.ListN.{length, get_or, take, drop, length-drop}
use Rattle.rehearsal_commands.specs.Command.{letter_i, letter_s, letter_t, letter_e, letter_v}
use Rattle.rehearsal_answers.specs.declared.Answer.{Answer}
use Rattle.frame.specs.declared.Record.{Record}
use Rattle.issuing.specs.declared.Issued.{Issued}
use Rattle.sending.specs.declared.Sent.{Sent}
use Rattle.frame.specs.declared.electing.Elected.{Elected}
use Rattle.both_frames.specs.Framed.{Framed}
use Rattle.issuing.specs.Issuing.{issue_of}
use Rattle.sending.specs.Sending.{send_of, send_bytes}
use Rattle.taking.specs.declared.Taken.{Taken}
use Rattle.taking.specs.Taking.{take_of, take_words}
use Rattle.frame.specs.Electing.{elect_of}
use Rattle.both_frames.specs.Frames.{settled_frame_of, tentative_frame_of}
use Rattle.rehearsal_turns.specs.declared.Turn.{Turn}
use Rattle.rehearsal_slots.specs.Pieces.{slot_of, message_in, sent_lengths}
use Rattle.rehearsal_replies.specs.Answers.{says_one, says_two, says_frames}
use Rattle.rehearsal_turns.specs.Turns.{issue_turn, send_turn, send_slots, take_turn, take_turn_words, elect_turn, view_turn}

module _ (r : Record) (lengths words : List ℕ) (a : Answer) where
  pub issued-turn : (line code : ℕ) (i : Issued) → i ≡ issue_of r words line code → a ≡ says_one letter_i i.number
      → ◌≡◌ {A = Turn} (record { «record» = i.record; lengths = lengths; answer = a }) (issue_turn r lengths words line code)
  unfolding issue_turn
  issued-turn line code i ei ea = rw (ea, ei)

  pub elected-turn : (e : Elected) → e ≡ elect_of r words → a ≡ says_two letter_e e.number e.count
      → ◌≡◌ {A = Turn} (record { «record» = e.record; lengths = lengths; answer = a }) (elect_turn r lengths words)
  unfolding elect_turn
  elected-turn e ee ea = rw (ea, ee)

  pub viewed-turn : (line : ℕ) (s t : Framed) → s ≡ settled_frame_of r words line → t ≡ tentative_frame_of r words line
      → a ≡ says_frames letter_v s.number s.edit t.edit
      → ◌≡◌ {A = Turn} (record { «record» = r; lengths = lengths; answer = a }) (view_turn r lengths words line)
  unfolding view_turn
  viewed-turn line s t es et ea = rw (ea, es, et)

  -- the message is lent from the slot's place on for `size` bytes
  pub taken-turn : (slots : List ℕ) (m size : ℕ) (t : Taken) → take size (drop (m * 7046) slots) ≡ message_in slots lengths m
      → t ≡ take_of r words (take size (drop (m * 7046) slots)) → a ≡ says_one letter_t t.number
      → ◌≡◌ {A = Turn} (record { «record» = t.record; lengths = lengths; answer = a }) (take_turn r lengths words slots m)
  unfolding take_turn
  taken-turn slots m size t em et ea = rw (ea, et, em)

  pub taken-words : (slots : List ℕ) (m size : ℕ) (after : List ℕ) → take size (drop (m * 7046) slots) ≡ message_in slots lengths m
      → after ≡ take_words r words (take size (drop (m * 7046) slots)) → after ≡ take_turn_words r lengths words slots m
  unfolding take_turn_words
  taken-words slots m size after em ea = ea ∙ ap (take_words r words) em

  -- the slot is lent from `from` on for `size` bytes
  module _ (slots : List ℕ) (m size : ℕ) (whole : size ≡ 7046) where
    pub sent-turn : (next : List ℕ) (s : Sent) → s ≡ send_of r words (take size (drop (m * 7046) slots)) → next ≡ sent_lengths lengths m s.number s.length
        → a ≡ says_two letter_s s.number s.length → ◌≡◌ {A = Turn} (record { «record» = r; lengths = next; answer = a }) (send_turn r lengths words slots m)
    unfolding send_turn
    sent-turn next s es en ea = rw (en, ea, es, whole)

    pub sent-slots : (bytes : List ℕ) → bytes ≡ send_bytes r words (take size (drop (m * 7046) slots))
        → take (m * 7046) slots ++ (bytes ++ drop size (drop (m * 7046) slots)) ≡ send_slots r words slots m
    unfolding send_slots
    sent-slots bytes eb = rw (eb, whole)

-- the bytes that are lent for a take are the slot's message
pub message-lent : (slots lengths : List ℕ) (m size : ℕ) → m < 4 → length slots ≡ 28184 → size ≡ min (get_or lengths m 0) 7046
    → take size (drop (m * 7046) slots) ≡ message_in slots lengths m
message-lent slots lengths m size h l e =
    let n = get_or lengths m 0 in
    let p : length (slot_of slots m) ≡ 7046 = length-take-le 7046 (drop (m * 7046) slots) (omega (arith, length-drop (m * 7046) slots)) in
    let s : size ≤ 7046 = rw e (min-le_right n 7046) in
    sym (take-take size 7046 (drop (m * 7046) slots) s) ∙ ap (λ (k : ℕ). take k (slot_of slots m)) e ∙ take_within n 7046 (slot_of slots m) p
