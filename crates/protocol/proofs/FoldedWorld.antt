-- The world of demand 3 with folding, on lists. Beside each office, and beside each sent message, stand the entries that the office had dropped
-- by then. No call looks at them: they are there for what is claimed of whole logs. Assumes nothing.
use mathlib.Core.List.{List, [], ◌∷◌, ◌++◌, map}
use Rattle.std.specs.Prelude.{Option, None, Some}
use mathlib.Core.Bool.{Bool, false, ◌&&◌, cond}
use Prim.Native.Nat.{ℕ, ◌-◌}
use lib.Dec.{eqb, ltb}
use lib.ListN as L
use lib.ListN.{length, get_or, set, replicate}
use Rattle.std.specs.Prelude.{slice_get}
use Rattle.protocol.specs.Entry.{value}
use Rattle.protocol.specs.Office.{Office, Message}
use Rattle.protocol.specs.Folding.{FoldedOffice, Packet, unfolded, packet, with_fold, with_folded_issue, refuse_folded_issue, with_folded_elect, with_folded_take, refuse_folded_take}
use Rattle.protocol.proofs.World as P
use Rattle.protocol.proofs.Effects.{Effect, no_effect, effect_after, rule_behind}

pub record Desk : Type 0 where
  pub now : FoldedOffice
  -- what it keeps of the entries that it has dropped
  pub kept : Effect
  -- those entries, the oldest first
  pub former : List ℕ

pub record Posted : Type 0 where
  pub message : Packet
  -- what its sender had dropped when it sent it
  pub former : List ℕ

pub record World : Type 0 where
  pub desks : List Desk
  pub sent : List Posted

-- document 01's calls, and fold
pub data Call : Type 0 where
  issue : (k line code : ℕ) → Call
  send : (k : ℕ) (room : Bool) → Call
  take : (k m : ℕ) → Call
  elect : (k : ℕ) → Call
  fold : (k : ℕ) → Call
  -- changes nothing
  idle : Call

-- an office as it was founded with these weights
abbrev pub new_desk : List ℕ → Desk
new_desk founding = record { now = unfolded; kept = no_effect founding; former = [] }

abbrev pub founded : List ℕ → ℕ → World
founded founding n = record { desks = replicate n (new_desk founding); sent = [] }

abbrev pub desk_at : World → ℕ → Desk
desk_at w k = get_or w.desks k (new_desk [])

-- what a call that leaves the office as f has dropped: as many entries as the dropped count rises, from the front of the log it was handed
abbrev pub goes : Desk → FoldedOffice → List ℕ
goes d f = L.take (f.dropped - d.now.dropped) d.now.held.log

abbrev pub leaving : Desk → FoldedOffice → Desk
leaving d f = record { now = f; kept = effect_after d.kept (goes d f); former = d.former ++ goes d f }

abbrev pub put : World → ℕ → FoldedOffice → World
put w k f = record { desks = set w.desks k (leaving (desk_at w k) f); sent = w.sent }

abbrev pub is_there : World → ℕ → Bool
is_there w k = ltb k (length w.desks)

-- the call names an office that is there, and a message that was sent
unfoldable pub names : World → Call → Bool
names w (issue k line code) = is_there w k
names w (send k room) = is_there w k
names w (take k m) = is_there w k && ltb m (length w.sent)
names w (elect k) = is_there w k
names w (fold k) = is_there w k
names w idle = false

abbrev pub refuse_taking : ℕ → Option Posted → FoldedOffice → ℕ
refuse_taking k None f = 0
refuse_taking k (Some m) f = refuse_folded_take k m.message f

abbrev pub taking : ℕ → Option Posted → FoldedOffice → FoldedOffice
taking k None f = f
taking k (Some m) f = with_folded_take k m.message f

-- the call's number, 0 when it is done; fold is never refused
unfoldable pub number : World → Call → ℕ
number w (issue k line code) = refuse_folded_issue (length w.desks) k line code (desk_at w k).now
number w (send k room) = cond room 0 6
number w (take k m) = refuse_taking k (slice_get w.sent m) (desk_at w k).now
number w (elect k) = 0
number w (fold k) = 0
number w idle = 0

unfoldable pub done : World → Call → World
done w (issue k line code) = put w k (with_folded_issue k (value k line code) (desk_at w k).now)
done w (send k room) = record { desks = w.desks; sent = record { message = packet k (desk_at w k).now; former = (desk_at w k).former } ∷ w.sent }
done w (take k m) = put w k (taking k (slice_get w.sent m) (desk_at w k).now)
done w (elect k) = put w k (with_folded_elect (rule_behind (desk_at w k).kept) (desk_at w k).now)
done w (fold k) = put w k (with_fold (length w.desks) k (desk_at w k).now)
done w idle = w

unfoldable pub step : World → Call → World
step w c = cond (names w c && eqb (number w c) 0) (done w c) w

-- the world after the calls
abbrev pub run : World → List Call → World
run w [] = w
run w (c ∷ cs) = run (step w c) cs

-- ── whole logs ──
-- the state with p before its log: the paths are whole paths then, since a path is the log followed by a tail
abbrev pub whole : List ℕ → Office → Office
whole p o = record { log = p ++ o.log; tails = o.tails }

abbrev pub whole_desk : Desk → Office
whole_desk d = whole d.former d.now.held

-- office k's settled log: it begins with what the office has dropped by now
abbrev pub log_at : World → ℕ → List ℕ
log_at w k = (whole_desk (desk_at w k)).log

abbrev pub whole_message : Posted → Message
whole_message m = record { sender = m.message.sender; state = whole m.former m.message.state }

-- document 01's world behind this one
abbrev pub view : World → P.World
view w = record { offices = map whole_desk w.desks; sent = map whole_message w.sent }

-- document 01's call behind this one: a refused issue or take, and a fold, change no whole log and no tail
abbrev pub call_of : World → Call → P.Call
call_of w (issue k line code) = cond (eqb (number w (issue k line code)) 0) (P.issue k line code) P.idle
call_of w (send k room) = P.send k room
call_of w (take k m) = cond (eqb (number w (take k m)) 0) (P.take k m) P.idle
call_of w (elect k) = P.elect k
call_of w (fold k) = P.idle
call_of w idle = P.idle
