-- What a line does to the world, and what it prints. Assumes nothing.
use Rattle.std.specs.Prelude.{ℕ, Option, List, get_or, set}
use Rattle.rehearsal_lines.specs.Feeding.{Said, Fed, feed_by, finish_by}
use Rattle.rehearsal_commands.specs.declared.Command.{Command}
use Rattle.rehearsal_commands.specs.Command.{line_of}
use Rattle.rehearsal_answers.specs.declared.Answer.{Answer}
use Rattle.rehearsal_answers.specs.Answer.{printed_of}
use Rattle.frame.specs.declared.Record.{Record}
use Rattle.frame.specs.State.{off_end}
use Rattle.rehearsal_turns.specs.declared.Turn.{Turn}
use Rattle.rehearsal_slots.specs.Pieces.{with_piece}
use Rattle.rehearsal_replies.specs.Answers.{question}
use Rattle.rehearsal_turns.specs.Turns.{turn_at, turn_words, turn_slots}
use Rattle.rehearsal_offices.specs.declared.Offices.{Offices}
use Rattle.rehearsal_addressees.specs.declared.Addressee.{Addressee}
use Rattle.rehearsal_addressees.specs.declared.Addressee.TheVariants.{All, One, Nobody}
use Rattle.rehearsal_offices.specs.declared.founding.Reply.{Reply}
use Rattle.rehearsal_offices.specs.World.{World, log_of}
use Rattle.rehearsal_offices.specs.Founding.{found_offices}
use Rattle.rehearsal_addressees.specs.Addressees.{addressee_of}

-- what a line leaves, and its answer
pub record Answered : Type 0 where
  pub world : World
  pub answer : Answer

-- the world of these offices, and what a reply leaves, with these logs and slots
abbrev pub world_at : Offices → List ℕ → List ℕ → World
world_at offices logs slots = record { offices = offices; logs = logs; slots = slots }

-- a founding changes the offices
abbrev pub answered_by : Reply → List ℕ → List ℕ → Answered
answered_by r logs slots = record { world = world_at r.offices logs slots; answer = r.answer }

-- the record of office k
abbrev pub record_at : Offices → ℕ → Record
record_at s k = get_or s.records k off_end

-- the offices after office k's turn
abbrev pub turned : Offices → ℕ → Turn → Offices
turned s k t = record { count = s.count; records = set s.records k t.record; lengths = t.lengths }

-- an office's turn changes its record, its log and the slots
abbrev pub turn_answer : World → ℕ → Turn → List ℕ → List ℕ → Answered
turn_answer w k t words slots = record { world = world_at (turned w.offices k t) (with_piece 1024 w.logs k words) slots; answer = t.answer }

-- the turn of office k by a command
unfoldable pub office_turn : World → ℕ → Command → Answered
office_turn w k c =
    turn_answer w k (turn_at (record_at w.offices k) w.offices.lengths (log_of w.logs k) w.slots c)
    (turn_words (record_at w.offices k) w.offices.lengths (log_of w.logs k) w.slots c)
    (turn_slots (record_at w.offices k) (log_of w.logs k) w.slots c)

-- by the line's addressee: a founding, an office's turn, or a question mark
unfoldable pub answer_to : World → Addressee → Answered
answer_to w (All n ws) = answered_by (found_offices w.offices n ws w.logs) w.logs w.slots
answer_to w (One k c) = office_turn w k c
answer_to w Nobody = record { world = w; answer = question }

unfoldable pub answer_line : World → Option Command → Answered
answer_line w line = answer_to w (addressee_of w.offices.count line)

-- the bytes of a line, its newline not counted
unfoldable pub say_line : World → List ℕ → Said World
say_line w bytes = record { world = (answer_line w (line_of bytes)).world; printed = printed_of (answer_line w (line_of bytes)).answer }

-- bytes of the input, of which the last line may be held
abbrev pub feed_of : World → List ℕ → List ℕ → Fed World
feed_of w held bytes = feed_by say_line w held bytes

-- the end of the input
abbrev pub finish_of : World → List ℕ → Fed World
finish_of w held = finish_by say_line w held
