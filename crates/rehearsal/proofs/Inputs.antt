-- The rehearsal's whole input.
--     say-long      a line of more than 128 bytes says what its first 129 say
--     input-answered      an input, however it comes in pieces, is answered line by line
-- Assumes nothing.
use mathlib.Core.Path.{◌≡◌, ap}
use mathlib.Core.List.{List}
use Prim.Native.Nat.{ℕ}
use Rattle.rehearsal_lines.specs.Held.{cut}
use Rattle.rehearsal_lines.specs.Feeding.{input_by, lines_of, say_all}
use Rattle.rehearsal_lines.proofs.Input.{input-lines}
use Rattle.std.specs.Prelude.{Option}
use Rattle.rehearsal_commands.specs.declared.Command.{Command}
use Rattle.rehearsal_commands.proofs.Lines.{long-line}
use Rattle.rehearsal_answers.specs.Answer.{printed_of}
use Rattle.rehearsal_offices.specs.World.{World}
use Rattle.rehearsal.specs.Lines.{answer_line, say_line}

pub say-long : (w : World) (line : List ℕ) → say_line w (cut line) ≡ say_line w line
unfolding say_line
say-long w line = ap (λ (l : Option Command). record { world = (answer_line w l).world; printed = printed_of (answer_line w l).answer }) (long-line line)

-- feeding an input and ending it prints the answers of its lines in order, each line said to the world that the lines before it left
pub input-answered : (w : World) (input : List ℕ) → input_by say_line w input ≡ say_all say_line w (lines_of input)
input-answered w input = input-lines say_line say-long w input
