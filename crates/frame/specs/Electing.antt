-- "Elect repeats this step until no entry wins, and answers how many entries it settled, 0 included." Assumes nothing.
use Rattle.std.specs.Prelude.{ℕ, Bool, List}
use Rattle.std.specs.Prelude.{Option}
use Rattle.lists.specs.Tests.{pick}
use Rattle.protocol.specs.Counts.{quieter}
use Rattle.protocol.specs.Vote.{Rule}
use Rattle.protocol.specs.Office.{votes}
use Rattle.protocol.specs.Elect.{elect_count}
use Rattle.protocol.specs.Folding as F
use Rattle.kept.specs.Kept.{rule_behind}
use Rattle.frame.specs.State.{held_by, folded_by, holding}
use Rattle.ballots.specs.Ballots.{words_with}
use Rattle.frame.specs.Soundness.{sound_b}
use Rattle.frame.specs.declared.Record.{Record}
use Rattle.frame.specs.declared.electing.Elected.{Elected}

-- the rule for the held part of the record's log, by the weights and counts that are kept of the dropped part
abbrev pub rule_of : Record → Rule
rule_of r = rule_behind r.kept

-- the order in which ties go at the record's settled log: by its counts, (xiv) the dropped entries' being the kept ones
abbrev pub tie_order : Record → List ℕ → ℕ → ℕ → Bool
tie_order r words = quieter r.kept.counts (held_by r words).log

-- the office after elect
abbrev pub elected_of : Record → List ℕ → F.FoldedOffice
elected_of r words = F.with_folded_elect (rule_of r) (folded_by r words)

-- 1: "record unsound, or log below 1024 words", with "count .. 0" and the record as it was
unfoldable pub elect_of : Record → List ℕ → Elected
elect_of r words =
    pick (sound_b r words)
    (record { «record» = holding r words (elected_of r words); number = 0; count = elect_count (rule_of r) (held_by r words) })
    (record { «record» = r; number = 1; count = 0 })

-- the log's words after elect
unfoldable pub elect_words : Record → List ℕ → List ℕ
elect_words r words = pick (sound_b r words) (words_with (elected_of r words).held.log words) words

-- the entry that wins, if any
abbrev pub winner_of : Record → List ℕ → Option ℕ
winner_of r words = rule_of r (held_by r words).log (votes (held_by r words))
