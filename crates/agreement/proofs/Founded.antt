-- A done founding at office k leaves a sound record of an office that has settled and dropped nothing. Assumes nothing.
use mathlib.Core.Path.{◌≡◌, ap}
use mathlib.Core.List.{List, []}
use Prim.Native.Nat.{ℕ}
use Rattle.protocol.proofs.FoldedWorld as F
use Rattle.frame.specs.declared.Record.{Record}
use Rattle.frame.specs.Founding.{found_of}
use Rattle.frame.proofs.Found.{found-done, found-sound, found-fresh, found-kept}
use Rattle.agreement.specs.World.{Replica}
use Rattle.agreement.proofs.View.{effect_in, desk_of, SoundReplica}

-- the replica that a founding makes
abbrev pub found_replica : ℕ → List ℕ → ℕ → List ℕ → Replica
found_replica n ws k words = record { held = (found_of n k ws words).«record»; words = words; former = [] }

module _ (n : ℕ) (ws : List ℕ) (k : ℕ) (words : List ℕ) (done : (found_of n k ws words).number ≡ 0) where
  pub founding-sound : SoundReplica n ws k (found_replica n ws k words)
  founding-sound =
      let made = (found-done n k ws words done).made in
      record {
        count = ap (λ (r : Record). r.n) made;
        own = ap (λ (r : Record). r.own) made;
        weights = ap (λ (r : Record). r.weights) made;
        sound = found-sound n k ws words done;
      }

  pub founding-desk : desk_of (found_replica n ws k words) ≡ F.new_desk ws
  founding-desk = λ i. record { now = found-fresh n k ws words done i; kept = effect_in (found-kept n k ws words done i); former = [] }
