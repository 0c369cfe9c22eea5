-- A done send at a replica posts bytes that read as what the replica holds, and a send at a replica is refused with 6 alone. Assumes nothing.
use mathlib.Core.Path.{◌≡◌, refl, ap, ap₂, ◌∙◌}
use mathlib.Core.Bool.{Bool, true, false}
use mathlib.Core.List.{List}
use mathlib.Core.Logic.{◌⊎◌, inl, inr}
use Prim.Native.Nat.{ℕ}
use lib.Dec.{ltb}
use lib.ListN as L
use lib.ListN.{length}
use Rattle.lists.specs.Tests.{pick}
use Rattle.protocol.specs.Folding.{packet}
use Rattle.writer.specs.Written.{content_of as content_by}
use Rattle.frame.specs.State.{folded_by}
use Rattle.frame.specs.Message.{content_of, message_of}
use Rattle.sending.specs.Sending.{send_number, send_of}
use Rattle.frame.proofs.Sound.{sound-true}
use Rattle.sending.proofs.Sends.{content-packet, send-read}
use Rattle.agreement.specs.World.{Replica, posted}
use Rattle.agreement.proofs.View.{means, SoundReplica, Readable, means-content}

module _ (n : ℕ) (ws : List ℕ) (k : ℕ) (d : Replica) (m : SoundReplica n ws k d) (out : List ℕ) where
  pub send-number : ((send_of d.held d.words out).number ≡ 0) ⊎ ((send_of d.held d.words out).number ≡ 6)
  unfolding send_of send_number pick
  send-number = rw (sound-true d.held d.words m.sound) (go (ltb (length out) (length (message_of d.held d.words))))
    where
      go : (t : Bool) → (◌≡◌ {A = ℕ} (pick t 6 0) 0) ⊎ (◌≡◌ {A = ℕ} (pick t 6 0) 6)
      go true = inr refl
      go false = inl refl

  module _ (done : (send_of d.held d.words out).number ≡ 0) where
    pub send-readable : Readable n ws (posted d out).bytes
    unfolding send_of content_by
    send-readable = record {
      content = content_of d.held d.words;
      reads = send-read d.held d.words out done;
      count = m.count;
      weights = ap₂ L.take m.count m.weights;
    }

    pub send-means : means (posted d out).bytes ≡ packet k (folded_by d.held d.words)
    unfolding send-readable
    send-means =
        means-content n ws (posted d out).bytes send-readable ∙ content-packet d.held d.words m.sound
        ∙ ap (λ (j : ℕ). packet j (folded_by d.held d.words)) m.own
