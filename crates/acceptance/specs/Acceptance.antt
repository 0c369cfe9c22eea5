-- The number of a take by what its message was read as. Assumes nothing.
use Rattle.std.specs.Prelude.{ℕ, not, List, map, eqb}
use Rattle.std.specs.Prelude.{Option, None, Some}
use Rattle.lists.specs.Tests.{both, pick, same}
use Rattle.protocol.specs.Folding.{Packet}
use Rattle.ballots.specs.Ballots.{tail_of}
use Rattle.numbers.specs.Numbers.{run_at}
use Rattle.spelling.specs.Reading.{record_at}
use Rattle.readings.specs.declared.Reading.{Reading}
use Rattle.comparing.specs.Checking.{Checked, logs_refusal, checked_by}

-- the message that was read: its log records stand in the rest after the head
abbrev pub packet_in : List ℕ → Reading → Packet
packet_in rest m = record { sender = m.sender; dropped = m.dropped; state = record { log = run_at 6 record_at m.held rest; tails = map tail_of m.ballots } }

-- the number of a take on a sound record with these fields, whose held log is `log`, by what the message was read as. 7: "message not of the layout,
-- .."; 8: "message's n or weights differ from the record's"; 9: the own message; 16, 17 and 10 by the logs
unfoldable pub refusal_of : ℕ → ℕ → List ℕ → ℕ → List ℕ → List ℕ → Option Reading → ℕ
refusal_of n own weights dropped log rest None = 7
refusal_of n own weights dropped log rest (Some m) =
    pick (not (both (eqb m.n n) (same m.weights weights))) 8
    (pick (eqb m.sender own) 9
    (logs_refusal dropped log m.dropped (packet_in rest m).state.log))

unfoldable pub checked_of : ℕ → ℕ → List ℕ → ℕ → List ℕ → List ℕ → Option Reading → Checked
checked_of n own weights dropped log rest None = record { number = refusal_of n own weights dropped log rest None; places = 0 }
checked_of n own weights dropped log rest (Some m) =
    checked_by (refusal_of n own weights dropped log rest (Some m)) dropped log m.dropped (packet_in rest m).state.log
