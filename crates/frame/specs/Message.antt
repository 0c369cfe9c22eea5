-- What the message of a record says, and its bytes. Assumes nothing.
use Rattle.std.specs.Prelude.{ℕ, List}
use Rattle.spelling.specs.Content.{Content}
use Rattle.spelling.specs.Spelling.{spelling}
use Rattle.writer.specs.Written as written
use Rattle.frame.specs.State.{held_length}
use Rattle.frame.specs.declared.Record.{Record}

-- what the record's message says: the own office as sender, n, n weights, the dropped count, the undropped log, the tails of the n offices
abbrev pub content_of : Record → List ℕ → Content
content_of r words = written.content_of r.own r.n r.weights r.kept.dropped words (held_length r) r.ballots

-- the message's bytes
abbrev pub message_of : Record → List ℕ → List ℕ
message_of r words = spelling (content_of r words)
