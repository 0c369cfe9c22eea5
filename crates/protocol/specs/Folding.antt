-- Request (xiv): an office that has dropped the first part of its log, its message, and what each call does there. A count stands in for the
-- entries that were dropped, and document 01's definitions are applied to what is still held. Assumes nothing.
use Rattle.std.specs.Prelude.{List, Bool, ℕ, zero, suc, ◌+◌, ◌-◌, min, max, eqb, ltb, length, get_or, set, drop, replicate}
use Rattle.lists.specs.Tests.{pick}
use Rattle.protocol.specs.Vote.{Rule}
use Rattle.protocol.specs.Office.{Office, Message, fresh, tail}
use Rattle.protocol.specs.Counts.{count_in}
use Rattle.protocol.specs.Issue.{with_issue, refusal_at}
use Rattle.protocol.specs.Take.{with_take, refuse_take}
use Rattle.protocol.specs.Elect.{with_elect}

pub record FoldedOffice : Type 0 where
  -- how many entries of its log it has dropped
  pub dropped : ℕ
  -- the undropped part of the log, and the tails
  pub held : Office
  -- "records note the longest settled length in accepted messages of each other office"
  pub noted : List ℕ

-- "the head gains the dropped count after the settled length .. and only undropped entries follow"
pub record Packet : Type 0 where
  pub sender : ℕ
  pub dropped : ℕ
  pub state : Office

abbrev pub unfolded : FoldedOffice
unfolded = record { dropped = 0; held = fresh; noted = replicate 8 0 }

-- the settled length, dropped entries included
abbrev pub settled_length : ℕ → Office → ℕ
settled_length dropped o = dropped + length o.log

-- a state without the first k entries of its log; the tails stand behind the log, and stay
abbrev pub shorn : ℕ → Office → Office
shorn k o = record { log = drop k o.log; tails = o.tails }

-- ── fold ──
-- the smallest of the office's own length and of the noted lengths of the offices below j other than k; "an office never heard of counts 0"
unfoldable pub least_known : ℕ → ℕ → List ℕ → ℕ → ℕ
least_known k own noted zero = own
least_known k own noted (suc j) = pick (eqb j k) (least_known k own noted j) (min (least_known k own noted j) (get_or noted j 0))

-- "The whole first part of the log that every office is known to have is dropped by a call, which answers how many entries went": of n offices,
-- at office k
unfoldable pub fold_count : ℕ → ℕ → FoldedOffice → ℕ
fold_count n k f = least_known k (settled_length f.dropped f.held) f.noted n - f.dropped

unfoldable pub with_fold : ℕ → ℕ → FoldedOffice → FoldedOffice
with_fold n k f = record { dropped = f.dropped + fold_count n k f; held = shorn (fold_count n k f) f.held; noted = f.noted }

-- ── issue and elect: on what is held; `rule` is the election rule for held parts of logs ──
unfoldable pub with_folded_issue : ℕ → ℕ → FoldedOffice → FoldedOffice
with_folded_issue k e f = record { dropped = f.dropped; held = with_issue k e f.held; noted = f.noted }

-- office k's number, with n offices
unfoldable pub refuse_folded_issue : ℕ → ℕ → ℕ → ℕ → FoldedOffice → ℕ
refuse_folded_issue n k line code f =
    refusal_at n line code (settled_length f.dropped f.held) (length f.held.log) (length (tail f.held k)) (count_in k (tail f.held k))

unfoldable pub with_folded_elect : Rule → FoldedOffice → FoldedOffice
with_folded_elect rule f = record { dropped = f.dropped; held = with_elect rule f.held; noted = f.noted }

-- ── send and take ──
abbrev pub packet : ℕ → FoldedOffice → Packet
packet k f = record { sender = k; dropped = f.dropped; state = f.held }

-- "Take first drops what the message's sender had dropped"
abbrev pub caught_up : Packet → FoldedOffice → Office
caught_up m f = shorn (m.dropped - f.dropped) f.held

-- the message from where the receiver's log begins
abbrev pub from_there : Packet → FoldedOffice → Message
from_there m f = record { sender = m.sender; state = shorn (f.dropped - m.dropped) m.state }

-- the longest settled length noted for office j
abbrev pub note : ℕ → ℕ → List ℕ → List ℕ
note j len noted = set noted j (max (get_or noted j 0) len)

unfoldable pub with_folded_take : ℕ → Packet → FoldedOffice → FoldedOffice
with_folded_take k m f = record {
  dropped = f.dropped + (m.dropped - f.dropped);
  held = with_take k (from_there m f) (caught_up m f);
  noted = note m.sender (settled_length m.dropped m.state) f.noted;
}

-- "the message's log begins past the receiver's length"
abbrev pub begins_past : Packet → FoldedOffice → Bool
begins_past m f = ltb (settled_length f.dropped f.held) m.dropped

-- "it ends inside the receiver's dropped part"
abbrev pub ends_inside : Packet → FoldedOffice → Bool
ends_inside m f = ltb (settled_length m.dropped m.state) f.dropped

-- 9; "16 .. and 17 .., both tested just before 10"; "Number 10 compares the part both still have"
unfoldable pub refuse_folded_take : ℕ → Packet → FoldedOffice → ℕ
refuse_folded_take k m f =
    pick (eqb m.sender k) 9
    (pick (begins_past m f) 16
    (pick (ends_inside m f) 17
    (refuse_take k (from_there m f) (caught_up m f))))
