-- "Issue (line, code) appends the entry to the office's own ballot." Assumes nothing.
use Rattle.std.specs.Prelude.{ℕ, List, eqb, set}
use Rattle.lists.specs.Tests.{pick}
use Rattle.protocol.specs.Entry.{value}
use Rattle.protocol.specs.Folding.{with_folded_issue, refuse_folded_issue}
use Rattle.ballots.specs.declared.Ballot.{Ballot}
use Rattle.frame.specs.State.{folded_by, with_ballots, holding}
use Rattle.frame.specs.Soundness.{sound_b}
use Rattle.frame.specs.declared.Record.{Record}
use Rattle.issuing.specs.declared.Issued.{Issued}

-- the record with another own ballot
abbrev pub with_own : Record → Ballot → Record
with_own r b = with_ballots r (set r.ballots r.own b)

-- 1: "record unsound, or log below 1024 words"; 3, 5 and 11 are the protocol's
unfoldable pub issue_number : Record → List ℕ → ℕ → ℕ → ℕ
issue_number r words line code = pick (sound_b r words) (refuse_folded_issue r.n r.own line code (folded_by r words)) 1

-- the record with the entry issued
abbrev pub issued_record : Record → List ℕ → ℕ → ℕ → Record
issued_record r words line code = holding r words (with_folded_issue r.own (value r.own line code) (folded_by r words))

unfoldable pub issue_of : Record → List ℕ → ℕ → ℕ → Issued
issue_of r words line code = record {
  number = issue_number r words line code;
  «record» = pick (eqb (issue_number r words line code) 0) (issued_record r words line code) r;
}
