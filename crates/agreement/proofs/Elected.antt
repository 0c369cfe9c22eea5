-- Elect at a replica is the protocol's elect at what the replica holds, by what it keeps, and is never refused. Assumes nothing.
use mathlib.Core.Path.{◌≡◌, refl}
use mathlib.Core.List.{List}
use Prim.Native.Nat.{ℕ}
use Rattle.frame.specs.Electing.{elected_of, elect_of, elect_words}
use Rattle.frame.proofs.Sound.{sound-true}
use Rattle.frame.proofs.Elect.{elect-zero, elect-done, elect-sound, elect-state}
use Rattle.agreement.specs.World.{Replica, elected}
use Rattle.agreement.proofs.View.{SoundReplica}
use Rattle.agreement.proofs.Held.{Leaves, Moves, moves}

module _ (n : ℕ) (ws : List ℕ) (k : ℕ) (d : Replica) (m : SoundReplica n ws k d) where
  pub elect-number : (elect_of d.held d.words).number ≡ 0
  elect-number = elect-zero d.held d.words (sound-true d.held d.words m.sound)

  pub elect-leaves : Leaves d (elected_of d.held d.words) (elect_of d.held d.words).«record» (elect_words d.held d.words)
  elect-leaves = let D = elect-done d.held d.words elect-number in record {
    made = D.made;
    written = D.written;
    state = elect-state d.held d.words elect-number;
    sound = elect-sound d.held d.words elect-number;
  }

  pub elect-moves : Moves n ws k d (elected d) 0 (elected_of d.held d.words)
  elect-moves = moves n ws k d m 0 (elected_of d.held d.words) (elect_of d.held d.words).«record» (elect_words d.held d.words) (λ _. elect-leaves) (λ h. absurd (h refl))
