-- Send: each way out of the call, and what a done one wrote.
--     send-unsound                            refused with 1
--     writable, send-short, send-done         refused with 6 or done, by what was written
--     content-valid, content-packet           what the message of a sound record says is valid, and is the own office's state
--     send-wrote, send-read                   the bytes of a done send are the message, and it is read back
-- Assumes nothing.
use mathlib.Core.Path.{◌≡◌, refl, ap, ◌∙◌}
use mathlib.Core.Bool.{Bool, true, false}
use mathlib.Core.List.{List}
use Rattle.std.specs.Prelude.{Option, None, Some}
use Prim.Native.Nat.{ℕ}
use native.Mathlib.Omega.{arith}
use lib.Dec.{ltb}
use lib.ListN.{length, take, drop}
use lib.Seq.{take-append_seam, take_all}
use Rattle.lists.specs.Tests.{pick}
use Rattle.lists.proofs.Tests.{all-mono}
use Rattle.ballots.specs.Ballots.{ballot_fine, ballot_shape}
use Rattle.eight_ballots.proofs.Eight.{shape_of}
use Rattle.protocol.specs.Folding.{packet}
use Rattle.protocol_laws.proofs.FoldedLimits.{folded-test}
use Rattle.spelling.specs.Content.{as_packet, valid_content}
use Rattle.spelling.specs.Reading.{reading}
use Rattle.spelling.specs.Spelling.{spelling}
use Rattle.spelling.proofs.Laws.{reading-spelling}
use Rattle.writer.specs.Written as written
use Rattle.writer.specs.Written.{Writable, written_bytes, written_length}
use Rattle.writer.proofs.Whole.{answer-fits, answer-short}
use Rattle.writer.proofs.Contents as contents
use Rattle.frame.specs.State.{held_length, folded_by}
use Rattle.frame.specs.Soundness.{sound_b, Sound}
use Rattle.frame.specs.Message.{content_of, message_of}
use Rattle.sending.specs.Sending.{no_message, send_number, send_of, send_bytes}
use Rattle.frame.specs.declared.Record.{Record}
use Rattle.sending.specs.declared.Sent.{Sent}
use Rattle.frame.proofs.Sound.{sound, sound-true}
use Rattle.frame.proofs.State.{log-length, within-limit, folded-fine}

-- what an answer and the output after it are to be
abbrev pub Sends : Record → List ℕ → List ℕ → Sent → List ℕ → Type 0
Sends r words out answer out' = (answer ≡ send_of r words out) × (out' ≡ send_bytes r words out)

pub send-unsound : (r : Record) (words out : List ℕ) → sound_b r words ≡ false → Sends r words out (no_message 1) out
unfolding send_of send_bytes send_number pick
send-unsound r words out e = (simp e, simp e)

-- the message of a log that is cut to what is held
pub message_with : (r : Record) (words : List ℕ) → length (take (held_length r) words) ≡ held_length r
    → written.message_of r.own r.n r.weights r.kept.dropped (take (held_length r) words) (length (take (held_length r) words)) r.ballots ≡ message_of r words
unfolding written.content_of
message_with r words l =
    ap (λ (log : List ℕ). spelling (record { sender = r.own; n = r.n; weights = take r.n r.weights; dropped = r.kept.dropped; log = log; tails = written.tails_of r.n r.ballots }))
    (take_all _ _ (omega arith))

module _ (r : Record) (words : List ℕ) (S : Sound r words) where
  -- what the writer requires
  pub writable : Writable r.own r.n r.kept.dropped (take (held_length r) words) r.ballots
  writable = let l = log-length r words S in record {
    few-offices = S.head.most;
    sender-below = S.head.member;
    held-few = omega (arith, l, S.most);
    settled-few = omega (arith, l, within-limit r words S, S.within);
    shapes = all-mono (ballot_fine r.n (held_length r)) ballot_shape (shape_of r.n (held_length r)) r.ballots S.fine;
  }

  pub content-valid : valid_content (content_of r words) ≡ true
  content-valid =
      contents.content-valid r.own r.n r.weights r.kept.dropped words (held_length r) r.ballots S.head.most
      (folded-test r.n r.own (folded_by r words) (folded-fine r words S)) S.head.member S.head.eight S.head.weights

  -- the message that is sent is the own office's state, with its dropped count
  pub content-packet : as_packet (content_of r words) ≡ packet r.own (folded_by r words)
  content-packet =
      contents.content-packet r.own r.n r.weights r.kept.dropped words (held_length r) r.ballots S.head.most
      (folded-test r.n r.own (folded_by r words) (folded-fine r words S))

  -- the message that is written, the writer's answer, and the output after it
  module _ {message : List ℕ} (out : List ℕ) {out' : List ℕ} {k : Option ℕ} (is : message ≡ message_of r words) (told : k ≡ written_length message out) (left : out' ≡ written_bytes message out) where
    answer : k ≡ written_length (message_of r words) out
    answer = told ∙ ap (λ (m : List ℕ). written_length m out) is

    after : out' ≡ written_bytes (message_of r words) out
    after = left ∙ ap (λ (m : List ℕ). written_bytes m out) is

    pub send-short : None ≡ k → Sends r words out (no_message 6) out'
    unfolding send_of send_bytes send_number written_bytes pick
    send-short h =
        let s = sound-true r words S in
        let l = answer-short (message_of r words) out (h ∙ answer) in
        (simp (s, l), simp (s, l) (after ∙ simp l))

    pub send-done : (length : ℕ) → Some length ≡ k → Sends r words out (record { number = 0; length = length }) out'
    unfolding send_of send_bytes send_number written_bytes pick
    send-done length h =
        let s = sound-true r words S in
        let fits = answer-fits (message_of r words) out length (h ∙ answer) in
        let l = fits.0 in
        (simp (s, l) (ap (λ (x : ℕ). record { number = 0; length = x }) fits.1), simp (s, l) (after ∙ simp l))

-- what a done send found and left
pub send-sound : (r : Record) (words out : List ℕ) → send_number r words out ≡ 0 → sound_b r words ≡ true
unfolding send_number pick
send-sound r words out h = go (sound_b r words) refl h
  where
    go : (b : Bool) → sound_b r words ≡ b → ◌≡◌ {A = ℕ} (pick b (pick (ltb (length out) (length (message_of r words))) 6 0) 1) 0 → sound_b r words ≡ true
    go true e h = e
    go false e h = absurd (omega arith)

pub send-wrote : (r : Record) (words out : List ℕ) → send_number r words out ≡ 0 → take (send_of r words out).length (send_bytes r words out) ≡ message_of r words
unfolding send_of send_bytes pick
send-wrote r words out h = rw h (take-append_seam (message_of r words) (drop (length (message_of r words)) out))

-- "take reads back all that send writes"
pub send-read : (r : Record) (words out : List ℕ) → send_number r words out ≡ 0 → reading (take (send_of r words out).length (send_bytes r words out)) ≡ Some (content_of r words)
send-read r words out h =
    ap reading (send-wrote r words out h)
    ∙ reading-spelling (content_of r words) (content-valid r words (sound r words (send-sound r words out h)))
