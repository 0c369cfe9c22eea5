-- A record with its log, what the office has dropped and holds, and the record made of that. A record is made here and nowhere else in the
-- definitions. Assumes nothing.
use Rattle.std.specs.Prelude.{ℕ, ◌+◌, ◌-◌, List, [], map, length, get_or, take, replicate}
use Rattle.protocol.specs.Office.{Office}
use Rattle.protocol.specs.Folding as F
use Rattle.ballots.specs.Ballots as B
use Rattle.ballots.specs.Ballots.{ballot_of, no_ballot, office_in}
use Rattle.ballots.specs.declared.Ballot.{Ballot}
use Rattle.summary.specs.Summary.{start_with, summary_after}
use Rattle.summary.specs.declared.Summary.{Summary}
use Rattle.kept.specs.Kept.{kept_nothing, kept_after}
use Rattle.kept.specs.declared.Kept.{Kept}
use Rattle.soundness.specs.Soundness as S
use Rattle.elections.specs.declared.State.{State}
use Rattle.frame.specs.declared.Record.{Record}

-- how many entries the record's log still holds: its settled length, less what was dropped
abbrev pub held_length : Record → ℕ
held_length r = S.held_length r.settled r.kept.dropped

-- the undropped log and the tails that the record and its log hold
abbrev pub held_by : Record → List ℕ → Office
held_by r words = office_in words (held_length r) r.ballots

-- with the dropped count and the noted lengths
abbrev pub folded_by : Record → List ℕ → F.FoldedOffice
folded_by r words = record { dropped = r.kept.dropped; held = held_by r words; noted = r.noted }

-- the record r with everything but its offices, own office and founding weights
abbrev pub with_held : Record → Kept → List ℕ → Summary → ℕ → List Ballot → Record
with_held r kept noted summary settled ballots =
    record { n = r.n; own = r.own; weights = r.weights; kept = kept; noted = noted; summary = summary; settled = settled; ballots = ballots }

-- with another state, and the state that the record has: what elections change
abbrev pub with_state : Record → State → Record
with_state r s = with_held r r.kept r.noted s.summary (r.kept.dropped + s.held) s.ballots

abbrev pub state_in : Record → State
state_in r = record { summary = r.summary; held = held_length r; ballots = r.ballots }

-- with other kept values, with other noted lengths, with other ballots
abbrev pub with_kept : Record → Kept → Record
with_kept r kept = with_held r kept r.noted r.summary r.settled r.ballots

abbrev pub with_noted : Record → List ℕ → Record
with_noted r noted = with_held r r.kept noted r.summary r.settled r.ballots

abbrev pub with_ballots : Record → List Ballot → Record
with_ballots r ballots = with_held r r.kept r.noted r.summary r.settled ballots

-- the own ballot
abbrev pub own_ballot : Record → Ballot
own_ballot r = get_or r.ballots r.own B.off_end

-- the entries that a call drops which leaves the office as f: as many as the dropped count rises by, from the front of what was held
abbrev pub goes : Record → List ℕ → F.FoldedOffice → List ℕ
goes r words f = take (f.dropped - r.kept.dropped) (held_by r words).log

-- what is then kept
abbrev pub kept_by : Record → List ℕ → F.FoldedOffice → Kept
kept_by r words f = kept_after r.kept (goes r words f)

-- the record r with kept values, and an office that holds and has noted what f says behind them: what its log has done follows from both
abbrev pub holding_behind : Record → Kept → F.FoldedOffice → Record
holding_behind r kept f =
    with_held r kept f.noted (summary_after kept.summary f.held.log) (f.dropped + length f.held.log) (map ballot_of f.held.tails)

-- the record after a call that leaves the office as f
abbrev pub holding : Record → List ℕ → F.FoldedOffice → Record
holding r words f = holding_behind r (kept_by r words f) f

-- "a fresh record has an empty log and no ballots"; nothing is dropped, and no office was heard of
abbrev pub fresh_record : ℕ → ℕ → List ℕ → Record
fresh_record n own ws =
    record { n = n; own = own; weights = ws; kept = kept_nothing ws; noted = replicate 8 0; summary = start_with ws; settled = 0; ballots = replicate 8 no_ballot }

-- "all-zero record"
abbrev pub zero_record : Record
zero_record = fresh_record 0 0 (replicate 8 0)

-- what an array of records gives past its end
abbrev pub off_end : Record
off_end = record {
  n = 0;
  own = 0;
  weights = [];
  kept = record { dropped = 0; summary = record { present = []; codes = [] }; counts = [] };
  noted = [];
  summary = record { present = []; codes = [] };
  settled = 0;
  ballots = [];
}
