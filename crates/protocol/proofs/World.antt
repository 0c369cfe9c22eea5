-- The world of demand 3 on lists: n offices, the messages sent so far, and what each call does. `rule` is the election rule. The world of the
-- final claim is made of records, log words and message bytes (crate `agreement`); this one is what it is viewed as. Assumes nothing.
use mathlib.Core.List.{List, [], ◌∷◌}
use Rattle.std.specs.Prelude.{Option, None, Some}
use mathlib.Core.Bool.{Bool, false, ◌&&◌, cond}
use Prim.Native.Nat.{ℕ}
use lib.Dec.{eqb, ltb}
use lib.ListN.{length, get_or, set, replicate}
use Rattle.std.specs.Prelude.{slice_get}
use Rattle.protocol.specs.Entry.{value}
use Rattle.protocol.specs.Vote.{Rule}
use Rattle.protocol.specs.Office.{Office, Message, fresh}
use Rattle.protocol.specs.Issue.{with_issue, refuse_entry}
use Rattle.protocol.specs.Take.{with_take, refuse_take}
use Rattle.protocol.specs.Elect.{with_elect}

pub record World : Type 0 where
  pub offices : List Office
  pub sent : List Message

-- messages are named by their place in `sent`, the newest first; `room`: the output is long enough
pub data Call : Type 0 where
  issue : (k line code : ℕ) → Call
  send : (k : ℕ) (room : Bool) → Call
  take : (k m : ℕ) → Call
  elect : (k : ℕ) → Call
  -- a call that is none of the paper's: it names no office that is there, or no message sent
  idle : Call

-- "n offices, numbers 0 to n−1"; "no message has been sent"
abbrev pub founded : ℕ → World
founded n = record { offices = replicate n fresh; sent = [] }

abbrev pub at : World → ℕ → Office
at w k = get_or w.offices k fresh

abbrev pub put : World → ℕ → Office → World
put w k o = record { offices = set w.offices k o; sent = w.sent }

abbrev pub is_there : World → ℕ → Bool
is_there w k = ltb k (length w.offices)

-- the call names an office that is there, and a message that was sent
unfoldable pub names : World → Call → Bool
names w (issue k line code) = is_there w k
names w (send k room) = is_there w k
names w (take k m) = is_there w k && ltb m (length w.sent)
names w (elect k) = is_there w k
names w idle = false

abbrev pub refuse_taking : ℕ → Option Message → Office → ℕ
refuse_taking k None o = 0
refuse_taking k (Some m) o = refuse_take k m o

abbrev pub taking : ℕ → Option Message → Office → Office
taking k None o = o
taking k (Some m) o = with_take k m o

-- the call's number, 0 when it is done. The limits of what an office holds are not this world's: an issue that meets one is viewed as `idle`
unfoldable pub refusal : World → Call → ℕ
refusal w (issue k line code) = refuse_entry (length w.offices) line code
refusal w (send k room) = cond room 0 6
refusal w (take k m) = refuse_taking k (slice_get w.sent m) (at w k)
refusal w (elect k) = 0
refusal w idle = 0

-- what a done call does: "issue, take and elect change their office only"; "a done send adds its message to the sent ones"
unfoldable pub done : Rule → World → Call → World
done rule w (issue k line code) = put w k (with_issue k (value k line code) (at w k))
done rule w (send k room) = record { offices = w.offices; sent = record { sender = k; state = at w k } ∷ w.sent }
done rule w (take k m) = put w k (taking k (slice_get w.sent m) (at w k))
done rule w (elect k) = put w k (with_elect rule (at w k))
done rule w idle = w

-- "a refused call changes nothing", and neither does one that names an office that is not there or a message not sent
unfoldable pub step : Rule → World → Call → World
step rule w c = cond (names w c && eqb (refusal w c) 0) (done rule w c) w

unfoldable pub run : Rule → World → List Call → World
run rule w [] = w
run rule w (c ∷ cs) = run rule (step rule w c) cs
