-- Document 01, "The world of demand 3", on records, log words and message bytes, with (xiv) folding among the calls. A call's number and its effect are
-- those of the definitions that the contracts of the calls cite, so what is proved of this world is proved of what the code was proved to do. Beside
-- each office, and each message, stand the entries that the office had dropped by then: no call looks at them, they are there for what is claimed
-- of whole logs. Assumes nothing.
use Rattle.std.specs.Prelude.{List, [], ◌∷◌, ◌++◌, ℕ, eqb, set}
use Rattle.std.specs.Prelude.{Option, None, Some}
use Rattle.std.proofs.Math.ListN as L
use Rattle.std.specs.Prelude.{slice_get}
use Rattle.lists.specs.Tests.{pick}
use Rattle.frame.specs.declared.Record.{Record}
use Rattle.frame.specs.State.{goes, folded_by}
use Rattle.issuing.specs.Issuing.{issue_of}
use Rattle.sending.specs.Sending.{send_of, send_bytes}
use Rattle.taking.specs.Taking.{take_of, take_words}
use Rattle.frame.specs.Electing.{elect_of, elect_words}
use Rattle.folding.specs.Folding.{fold_of, fold_words}

-- one office: its record, the words of "a log of its own", and the entries that it has dropped by now, the oldest first
pub record Replica : Type 0 where
  pub held : Record
  pub words : List ℕ
  pub former : List ℕ

-- a message that was sent: its bytes, and the entries that its sender had dropped by then
pub record Posted : Type 0 where
  pub bytes : List ℕ
  pub former : List ℕ

-- the offices, number 0 first, and the messages sent by now, the newest first
pub record World : Type 0 where
  pub replicas : List Replica
  pub sent : List Posted

-- "issue at one of the offices, any line and code; send at one of them, output of any length; take at one of them, of any message sent by
-- then; elect at one of them"; (xiv) "with this call too among the calls": fold. k is the office's number, `out` what the output holds before the
-- call, m the message's place in `sent`.
pub data Call : Type 0 where
  issue : (k line code : ℕ) → Call
  send : (k : ℕ) (out : List ℕ) → Call
  take : (k m : ℕ) → Call
  elect : (k : ℕ) → Call
  fold : (k : ℕ) → Call

-- the office that a call names, and the message that a take names; none where there is no such one
abbrev pub replica_at : World → ℕ → Option Replica
replica_at w k = slice_get w.replicas k

abbrev pub message_at : World → ℕ → Option Posted
message_at w m = slice_get w.sent m

-- `f a` of a thing a that is there; b where there is none
abbrev pub on_some : {A B : Type 0} → Option A → B → (A → B) → B
on_some None b f = b
on_some (Some a) b f = f a

-- the call's number. "Each call gets its office's record and log as the last call at that office left them"; "a take is handed exactly the
-- bytes of one sent message". A call that names no office that is there, or no message sent, is none of the paper's: 0, and nothing changes.
unfoldable pub number : World → Call → ℕ
number w (issue k line code) = on_some (replica_at w k) 0 (λ d. (issue_of d.held d.words line code).number)
number w (send k out) = on_some (replica_at w k) 0 (λ d. (send_of d.held d.words out).number)
number w (take k m) = on_some (replica_at w k) 0 (λ d. on_some (message_at w m) 0 (λ s. (take_of d.held d.words s.bytes).number))
number w (elect k) = on_some (replica_at w k) 0 (λ d. (elect_of d.held d.words).number)
number w (fold k) = on_some (replica_at w k) 0 (λ d. (fold_of d.held d.words).number)

-- the office after a call that answered this record and left these words: what it dropped, as many entries as the dropped count rose by, from the
-- front of the log that the call was handed, is behind what it had dropped before
abbrev pub leaving : Replica → Record → List ℕ → Replica
leaving d r words = record { held = r; words = words; former = d.former ++ goes d.held d.words (folded_by r words) }

-- what each call leaves at its office; a send leaves it as it was
abbrev pub issued : Replica → ℕ → ℕ → Replica
issued d line code = leaving d (issue_of d.held d.words line code).«record» d.words

abbrev pub taken : Replica → List ℕ → Replica
taken d s = leaving d (take_of d.held d.words s).«record» (take_words d.held d.words s)

abbrev pub elected : Replica → Replica
elected d = leaving d (elect_of d.held d.words).«record» (elect_words d.held d.words)

abbrev pub folded : Replica → Replica
folded d = leaving d (fold_of d.held d.words).«record» (fold_words d.held d.words)

-- "Issue, take and elect change their office only", and so does fold
abbrev pub put : World → ℕ → Replica → World
put w k d = record { replicas = set w.replicas k d; sent = w.sent }

-- "A done send adds its message to the sent ones": "the first bytes of its output, as many as it answers"
abbrev pub posted : Replica → List ℕ → Posted
posted d out = record { bytes = L.take (send_of d.held d.words out).length (send_bytes d.held d.words out); former = d.former }

abbrev pub post : World → Posted → World
post w s = record { replicas = w.replicas; sent = s ∷ w.sent }

-- the world after the call. A refused call changes nothing because its answers say so (Calls.antt, `refused`).
unfoldable pub step : World → Call → World
step w (issue k line code) = on_some (replica_at w k) w (λ d. put w k (issued d line code))
step w (send k out) = on_some (replica_at w k) w (λ d. pick (eqb (send_of d.held d.words out).number 0) (post w (posted d out)) w)
step w (take k m) = on_some (replica_at w k) w (λ d. on_some (message_at w m) w (λ s. put w k (taken d s.bytes)))
step w (elect k) = on_some (replica_at w k) w (λ d. put w k (elected d))
step w (fold k) = on_some (replica_at w k) w (λ d. put w k (folded d))

-- the world after a list of calls, the oldest first
unfoldable pub after : World → List Call → World
after w [] = w
after w (c ∷ cs) = after (step w c) cs
