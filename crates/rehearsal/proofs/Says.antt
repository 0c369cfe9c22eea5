-- What a line says, put together from what the calls promise.
--     say-short      an answer takes at most 65 bytes
--     says-as      a line and its answer
--     turn-stored      what an office's turn leaves
--     answer-by, say-found, say-turn, say-nobody      the answer by the line's addressee
-- Assumes nothing.
use mathlib.Core.Path.{◌≡◌}
use mathlib.Core.List.{List}
use Prim.Native.Nat.{ℕ, ◌≤◌}
use lib.ListN.{length}
use Rattle.rehearsal_commands.specs.declared.Command.{Command}
use Rattle.std.specs.Prelude.{Option}
use Rattle.rehearsal_commands.specs.Command.{line_of}
use Rattle.rehearsal_answers.specs.declared.Answer.{Answer}
use Rattle.rehearsal_answers.specs.Answer.{printed_of}
use Rattle.rehearsal_answers.proofs.Printing.{printed-short}
use Rattle.rehearsal_turns.specs.declared.Turn.{Turn}
use Rattle.rehearsal_slots.specs.Pieces.{with_piece}
use Rattle.rehearsal_replies.specs.Answers.{question}
use Rattle.rehearsal_turns.specs.Turns.{turn_at, turn_words, turn_slots}
use Rattle.rehearsal_addressees.specs.declared.Addressee.{Addressee}
use Rattle.rehearsal_addressees.specs.declared.Addressee.TheVariants.{All, One, Nobody}
use Rattle.rehearsal_offices.specs.declared.founding.Reply.{Reply}
use Rattle.rehearsal_addressees.specs.Addressees.{addressee_of}
use Rattle.rehearsal_offices.specs.World.{World, log_of}
use Rattle.rehearsal_offices.specs.Founding.{found_offices}
use Rattle.rehearsal.specs.Lines.{Answered, world_at, answered_by, turned, record_at, office_turn, answer_to, answer_line, say_line}

pub say-short : (w : World) (bytes : List ℕ) → length (say_line w bytes).printed ≤ 65
unfolding say_line answer_line
say-short w bytes =
    let a = addressee_of w.offices.count (line_of bytes) in
    printed-short (answer_to w a).answer

-- the offices, the logs and the slots after an office's turn
pub turn-stored : (w : World) (k : ℕ) (c : Command) (t : Turn) (logs slots : List ℕ) →
    t ≡ turn_at (record_at w.offices k) w.offices.lengths (log_of w.logs k) w.slots c →
    logs ≡ with_piece 1024 w.logs k (turn_words (record_at w.offices k) w.offices.lengths (log_of w.logs k) w.slots c) →
    slots ≡ turn_slots (record_at w.offices k) (log_of w.logs k) w.slots c →
    ◌≡◌ {A = Answered} (record { world = world_at (turned w.offices k t) logs slots; answer = t.answer }) (office_turn w k c)
unfolding office_turn
turn-stored w k c t logs slots et el es = rw (et, el, es)

-- a line and its answer
pub says-as : (w : World) (bytes : List ℕ) (line : Option Command) → line ≡ line_of bytes → (x : Answered) → x ≡ answer_line w line
    → say_line w bytes ≡ record { world = x.world; printed = printed_of x.answer }
unfolding say_line
says-as w bytes line el x e = rw (e, el)

-- the answer by the line's addressee
pub answer-by : (w : World) (line : Option Command) (a : Addressee) → a ≡ addressee_of w.offices.count line → answer_to w a ≡ answer_line w line
unfolding answer_line
answer-by w line a e = rw e

module _ (w : World) (a : Addressee) where
  pub say-found : (n : ℕ) (ws : List ℕ) (f : Reply) → a ≡ All n ws → f ≡ found_offices w.offices n ws w.logs → answered_by f w.logs w.slots ≡ answer_to w a
  unfolding answer_to
  say-found n ws f e ef = rw (ef, e)

  pub say-turn : (k : ℕ) (c : Command) (x : Answered) → a ≡ One k c → x ≡ office_turn w k c → x ≡ answer_to w a
  unfolding answer_to
  say-turn k c x e ex = rw (ex, e)

  pub say-nobody : (x : Answer) → a ≡ Nobody → x ≡ question → record { world = w; answer = x } ≡ answer_to w a
  unfolding answer_to
  say-nobody x e ex = rw (ex, e)
