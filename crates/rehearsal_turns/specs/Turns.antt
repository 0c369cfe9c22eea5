-- A command at an office that is there: what the call answers, and what it leaves. Assumes nothing.
use Rattle.std.specs.Prelude.{ℕ, List, ltb}
use Rattle.lists.specs.Tests.{pick}
use Rattle.rehearsal_commands.specs.declared.Command.{Command}
use Rattle.rehearsal_commands.specs.declared.Command.TheVariants.{Found, Issue, Send, Take, Elect, View}
use Rattle.rehearsal_commands.specs.Command.{letter_i, letter_s, letter_t, letter_e, letter_v}
use Rattle.frame.specs.declared.Record.{Record}
use Rattle.issuing.specs.Issuing.{issue_of}
use Rattle.sending.specs.Sending.{send_of, send_bytes}
use Rattle.taking.specs.Taking.{take_of, take_words}
use Rattle.frame.specs.Electing.{elect_of, elect_words}
use Rattle.both_frames.specs.Frames.{settled_frame_of, tentative_frame_of}
use Rattle.rehearsal_turns.specs.declared.Turn.{Turn}
use Rattle.rehearsal_slots.specs.Pieces.{with_piece, slot_of, message_in, sent_lengths}
use Rattle.rehearsal_replies.specs.Answers.{says_one, says_two, says_frames, question}

-- nothing changes
abbrev pub stay : Record → List ℕ → Turn
stay r lengths = record { «record» = r; lengths = lengths; answer = question }

-- `i k line code`
unfoldable pub issue_turn : Record → List ℕ → List ℕ → ℕ → ℕ → Turn
issue_turn r lengths words line code =
    record { «record» = (issue_of r words line code).record; lengths = lengths; answer = says_one letter_i (issue_of r words line code).number }

-- `s k m`
unfoldable pub send_turn : Record → List ℕ → List ℕ → List ℕ → ℕ → Turn
send_turn r lengths words slots m =
    record {
      «record» = r;
      lengths = sent_lengths lengths m (send_of r words (slot_of slots m)).number (send_of r words (slot_of slots m)).length;
      answer = says_two letter_s (send_of r words (slot_of slots m)).number (send_of r words (slot_of slots m)).length;
    }

unfoldable pub send_slots : Record → List ℕ → List ℕ → ℕ → List ℕ
send_slots r words slots m = with_piece 7046 slots m (send_bytes r words (slot_of slots m))

-- `t k m`; "an empty slot is a message of no bytes"
unfoldable pub take_turn : Record → List ℕ → List ℕ → List ℕ → ℕ → Turn
take_turn r lengths words slots m =
    record {
      «record» = (take_of r words (message_in slots lengths m)).record;
      lengths = lengths;
      answer = says_one letter_t (take_of r words (message_in slots lengths m)).number;
    }

unfoldable pub take_turn_words : Record → List ℕ → List ℕ → List ℕ → ℕ → List ℕ
take_turn_words r lengths words slots m = take_words r words (message_in slots lengths m)

-- `e k`
unfoldable pub elect_turn : Record → List ℕ → List ℕ → Turn
elect_turn r lengths words =
    record { «record» = (elect_of r words).record; lengths = lengths; answer = says_two letter_e (elect_of r words).number (elect_of r words).count }

-- `v k line`
unfoldable pub view_turn : Record → List ℕ → List ℕ → ℕ → Turn
view_turn r lengths words line =
    record {
      «record» = r;
      lengths = lengths;
      answer = says_frames letter_v (settled_frame_of r words line).number (settled_frame_of r words line).edit (tentative_frame_of r words line).edit;
    }

-- the office's turn by the command, for "a slot that isn't there" a question mark
unfoldable pub turn_at : Record → List ℕ → List ℕ → List ℕ → Command → Turn
turn_at r lengths words slots (Found n ws) = stay r lengths
turn_at r lengths words slots (Issue k line code) = issue_turn r lengths words line code
turn_at r lengths words slots (Send k m) = pick (ltb m 4) (send_turn r lengths words slots m) (stay r lengths)
turn_at r lengths words slots (Take k m) = pick (ltb m 4) (take_turn r lengths words slots m) (stay r lengths)
turn_at r lengths words slots (Elect k) = elect_turn r lengths words
turn_at r lengths words slots (View k line) = view_turn r lengths words line

-- the office's log after it
unfoldable pub turn_words : Record → List ℕ → List ℕ → List ℕ → Command → List ℕ
turn_words r lengths words slots (Found n ws) = words
turn_words r lengths words slots (Issue k line code) = words
turn_words r lengths words slots (Send k m) = words
turn_words r lengths words slots (Take k m) = pick (ltb m 4) (take_turn_words r lengths words slots m) words
turn_words r lengths words slots (Elect k) = elect_words r words
turn_words r lengths words slots (View k line) = words

-- the slots after it
unfoldable pub turn_slots : Record → List ℕ → List ℕ → Command → List ℕ
turn_slots r words slots (Found n ws) = slots
turn_slots r words slots (Issue k line code) = slots
turn_slots r words slots (Send k m) = pick (ltb m 4) (send_slots r words slots m) slots
turn_slots r words slots (Take k m) = slots
turn_slots r words slots (Elect k) = slots
turn_slots r words slots (View k line) = slots
