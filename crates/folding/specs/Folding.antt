-- Request (xiv): "The whole first part of the log that every office is known to have is dropped by a call, which answers how many entries went; its
-- effect .. is kept, and the rest moves to the front of the buffer." Assumes nothing.
use Rattle.std.specs.Prelude.{ℕ, List}
use Rattle.lists.specs.Tests.{pick}
use Rattle.protocol.specs.Folding as F
use Rattle.ballots.specs.Ballots.{words_with}
use Rattle.frame.specs.State.{folded_by, holding}
use Rattle.frame.specs.Soundness.{sound_b}
use Rattle.frame.specs.declared.Record.{Record}
use Rattle.folding.specs.declared.Folded.{Folded}

-- the office after fold
abbrev pub shortened_of : Record → List ℕ → F.FoldedOffice
shortened_of r words = F.with_fold r.n r.own (folded_by r words)

-- 1: "record unsound, or log below 1024 words", with count 0 and the record as it was
unfoldable pub fold_of : Record → List ℕ → Folded
fold_of r words =
    pick (sound_b r words)
    (record { «record» = holding r words (shortened_of r words); number = 0; count = F.fold_count r.n r.own (folded_by r words) })
    (record { «record» = r; number = 1; count = 0 })

-- the log's words after fold: the rest in front, and those past it as they were
unfoldable pub fold_words : Record → List ℕ → List ℕ
fold_words r words = pick (sound_b r words) (words_with (shortened_of r words).held.log words) words
