-- "Send writes the message below and answers its length. Later bytes of the buffer keep their contents." Assumes nothing.
use Rattle.std.specs.Prelude.{ℕ, List, eqb, ltb, length}
use Rattle.lists.specs.Tests.{pick}
use Rattle.lists.specs.Padded.{in_front}
use Rattle.frame.specs.Message.{message_of}
use Rattle.frame.specs.Soundness.{sound_b}
use Rattle.frame.specs.declared.Record.{Record}
use Rattle.sending.specs.declared.Sent.{Sent}

-- nothing is sent, and the call has this number
abbrev pub no_message : ℕ → Sent
no_message number = record { number = number; length = 0 }

-- 1: "record unsound, or log below 1024 words"; 6: "output shorter than the message"
unfoldable pub send_number : Record → List ℕ → List ℕ → ℕ
send_number r words out = pick (sound_b r words) (pick (ltb (length out) (length (message_of r words))) 6 0) 1

-- "length 0" where it is refused
unfoldable pub send_of : Record → List ℕ → List ℕ → Sent
send_of r words out = record {
  number = send_number r words out;
  length = pick (eqb (send_number r words out) 0) (length (message_of r words)) 0;
}

-- the output after send: "later bytes of the buffer keep their contents", and all of them where it is refused
unfoldable pub send_bytes : Record → List ℕ → List ℕ → List ℕ
send_bytes r words out = pick (eqb (send_number r words out) 0) (in_front (message_of r words) out) out
