-- Fold at a replica is the protocol's fold at what the replica holds, and is never refused. Assumes nothing.
use mathlib.Core.Path.{◌≡◌, refl, ap, ap₂, ◌∙◌}
use mathlib.Core.List.{List}
use Prim.Native.Nat.{ℕ}
use Rattle.protocol.specs.Folding as P
use Rattle.protocol.specs.Folding.{fold_count, with_fold}
use Rattle.ballots.specs.Ballots.{words_with}
use Rattle.frame.specs.State.{folded_by, holding}
use Rattle.folding.specs.Folding.{shortened_of, fold_of, fold_words}
use Rattle.frame.proofs.Sound.{sound-true}
use Rattle.folding.proofs.Folds.{fold-zero, fold_done, fold-sound, fold-state}
use Rattle.agreement.specs.World.{Replica, folded}
use Rattle.agreement.proofs.View.{SoundReplica}
use Rattle.agreement.proofs.Held.{Leaves, Moves, moves}

module _ (n : ℕ) (ws : List ℕ) (k : ℕ) (d : Replica) (m : SoundReplica n ws k d) where
  abbrev office : P.FoldedOffice
  office = with_fold n k (folded_by d.held d.words)

  pub fold-number : (fold_of d.held d.words).number ≡ 0
  fold-number = fold-zero d.held d.words (sound-true d.held d.words m.sound)

  pub fold-count : (fold_of d.held d.words).count ≡ fold_count n k (folded_by d.held d.words)
  fold-count = (fold_done d.held d.words fold-number).counted ∙ ap₂ (λ (c j : ℕ). fold_count c j (folded_by d.held d.words)) m.count m.own

  office-is : shortened_of d.held d.words ≡ office
  office-is = ap₂ (λ (c j : ℕ). with_fold c j (folded_by d.held d.words)) m.count m.own

  fold-leaves : Leaves d office (fold_of d.held d.words).«record» (fold_words d.held d.words)
  fold-leaves = let D = fold_done d.held d.words fold-number in record {
    made = D.made ∙ ap (holding d.held d.words) office-is;
    written = D.written ∙ ap (λ (f : P.FoldedOffice). words_with f.held.log d.words) office-is;
    state = fold-state d.held d.words fold-number ∙ office-is;
    sound = fold-sound d.held d.words fold-number;
  }

  pub fold-moves : Moves n ws k d (folded d) 0 office
  fold-moves = moves n ws k d m 0 office (fold_of d.held d.words).«record» (fold_words d.held d.words) (λ _. fold-leaves) (λ h. absurd (h refl))
