-- "A record with its log is sound when all this holds, entries included." Assumes nothing.
use Rattle.std.specs.Prelude.{ℕ, Bool, List}
use Rattle.soundness.specs.Soundness.{sound_fields, SoundFields}
use Rattle.frame.specs.declared.Record.{Record}

unfoldable pub sound_b : Record → List ℕ → Bool
sound_b r words = sound_fields r.n r.own r.weights r.kept r.noted r.summary r.settled r.ballots words

-- the same as facts by name
abbrev pub Sound : Record → List ℕ → Type 0
Sound r words = SoundFields r.n r.own r.weights r.kept r.noted r.summary r.settled r.ballots words
