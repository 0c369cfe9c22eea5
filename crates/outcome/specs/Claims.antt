-- What is claimed of a report, at one office. The theorems are in proofs/Claims.antt:
--     three-parts     (before after : Record) (words rest : List ℕ) → (report_of before after words rest).number ≡ 0 → ThreeParts before after words rest
--     refusals        (before after : Record) (words rest : List ℕ) → Refusals before after words rest
--     after_call      (r : Record) (words : List ℕ) (r' : Record) (words' : List ℕ) → sound_b r words ≡ true → Called r words r' words'
--                         → (rest : List ℕ) → AfterCall r words r' words' rest
--     fold-loses-nothing    (r : Record) (words rest : List ℕ) → let a = report_of r (fold_of r words).«record» (fold_words r words) rest in
--                               (a.settled ≡ 0) × (a.lost ≡ 0)
-- That a lost entry is lost for good is a claim of the world of document 01. Assumes nothing.
use Rattle.std.specs.Prelude.{◌≡◌, true, false, List, ◌++◌, ◌⊎◌, ◌↔◌, ℕ, ◌+◌, ◌<◌, ◌≤◌, length, drop}
use Rattle.protocol.specs.Entry.{office_of}
use Rattle.protocol.specs.Beginning.{◌⊑◌}
use Rattle.protocol.specs.Office.{Office}
use Rattle.own_entries.specs.Parts.{settled_part, pending_part, entries_of, Loses, Stands}
use Rattle.frame.specs.State.{held_by, folded_by, goes}
use Rattle.taking.specs.Taking.{take_of, take_words}
use Rattle.frame.specs.Electing.{elect_of, elect_words}
use Rattle.folding.specs.Folding.{fold_of, fold_words}
use Rattle.frame.specs.declared.Record.{Record}
use Rattle.outcome.specs.Outcome.{tail_before, log_since, path_since, settled_entries, pending_entries, lost_entries, reportable, report_of, report_words}

-- ── a report that is done, of any two records ──
pub record ThreeParts (before after : Record) (words rest : List ℕ) : Type 0 where
  -- "each entry that was pending is exactly one of the three", in their order
  pub parts : entries_of before.own (tail_before before) ≡ settled_entries before after words ++ (pending_entries before after words ++ lost_entries before after words)
  -- how many there are of each, and together
  pub settled : (report_of before after words rest).settled ≡ length (settled_entries before after words)
  pub pending : (report_of before after words rest).pending ≡ length (pending_entries before after words)
  pub lost : (report_of before after words rest).lost ≡ length (lost_entries before after words)
  pub sum : (report_of before after words rest).settled + ((report_of before after words rest).pending + (report_of before after words rest).lost)
      ≡ length (entries_of before.own (tail_before before))
  -- "written to a lent buffer, in their order": those pending, behind them those lost; later words keep their contents
  pub written : report_words before after words rest
      ≡ pending_entries before after words ++ (lost_entries before after words ++ drop ((report_of before after words rest).pending + (report_of before after words rest).lost) rest)
  -- "An entry that is not lost is in the settled log or in the own path", at its place
  pub in-log : settled_part (tail_before before) (log_since before after words) ⊑ log_since before after words
  pub in_path : (settled_part (tail_before before) (log_since before after words) ++ pending_part (tail_before before) (log_since before after words) (path_since before after words))
      ⊑ path_since before after words

-- "Refusals: 1, then 6; what is refused answers zeros and no rows and leaves the buffer"
pub record Refusals (before after : Record) (words rest : List ℕ) : Type 0 where
  pub complete : ((report_of before after words rest).number ≡ 0) ⊎ (((report_of before after words rest).number ≡ 1) ⊎ ((report_of before after words rest).number ≡ 6))
  pub one : ((report_of before after words rest).number ≡ 1) ↔ (reportable before after words ≡ false)
  pub six : ((report_of before after words rest).number ≡ 6)
      ↔ ((reportable before after words ≡ true) × (length rest < length (pending_entries before after words) + length (lost_entries before after words)))
  pub zeros : ((report_of before after words rest).number ≡ 0 → ⊥)
      → ((report_of before after words rest).settled ≡ 0) × (((report_of before after words rest).pending ≡ 0) × ((report_of before after words rest).lost ≡ 0))
  pub leaves : ((report_of before after words rest).number ≡ 0 → ⊥) → report_words before after words rest ≡ rest

-- ── a report after a call ──
-- a take, elect or fold on the record r with its log, done or refused, left r' and its words
pub data Called (r : Record) (words : List ℕ) (r' : Record) (words' : List ℕ) : Type 0 where
  took : (message : List ℕ) → (take_of r words message).«record» ≡ r' → take_words r words message ≡ words' → Called r words r' words'
  elected : (elect_of r words).«record» ≡ r' → elect_words r words ≡ words' → Called r words r' words'
  folded : (fold_of r words).«record» ≡ r' → fold_words r words ≡ words' → Called r words r' words'

-- the office that a record and its log hold, with the entries before them that it had dropped
abbrev pub whole_of : List ℕ → Record → List ℕ → Office
whole_of former r words = record { log = former ++ (held_by r words).log; tails = (held_by r words).tails }

-- those that it has dropped after the call
abbrev pub former_after : List ℕ → Record → List ℕ → Record → List ℕ → List ℕ
former_after former r words r' words' = former ++ goes r words (folded_by r' words')

-- the call lost e at some place: it stood in the own path, and stands there no more
abbrev pub LostAt : List ℕ → Record → List ℕ → Record → List ℕ → ℕ → Type 0
LostAt former r words r' words' e = (p : List ℕ) × Loses r.own (whole_of former r words) (whole_of (former_after former r words r' words') r' words') p e

pub record AfterCall (r : Record) (words : List ℕ) (r' : Record) (words' rest : List ℕ) : Type 0 where
  -- it is never refused with 1, and with a buffer of 32 words it is done
  pub accepted : reportable r r' words' ≡ true
  pub done : 32 ≤ length rest → (report_of r r' words' rest).number ≡ 0
  -- "No call leaves some entries pending and loses others"
  pub all-or-none : ((report_of r r' words' rest).pending ≡ 0) ⊎ ((report_of r r' words' rest).lost ≡ 0)
  -- an entry is told as lost exactly if it is the office's own and the call lost it, whatever was dropped before
  pub told-lost : (former : List ℕ) (e : ℕ) → Stands (lost_entries r r' words') e ↔ ((office_of e ≡ r.own) × LostAt former r words r' words' e)
