-- Issue at a replica is the protocol's issue at what the replica holds, refused ones included. Assumes nothing.
use mathlib.Core.Path.{◌≡◌, refl, sym, ap, ap₂, ◌∙◌}
use mathlib.Core.List.{List}
use Prim.Native.Nat.{ℕ}
use Rattle.lists.proofs.Tests.{pick_true}
use Rattle.protocol.specs.Entry.{value}
use Rattle.protocol.specs.Issue.{with_issue}
use Rattle.protocol.specs.Folding.{FoldedOffice, with_folded_issue, refuse_folded_issue}
use Rattle.frame.specs.State.{folded_by, holding}
use Rattle.frame.specs.Soundness.{sound_b}
use Rattle.issuing.specs.Issuing.{issue_number, issue_of}
use Rattle.frame.proofs.Sound.{sound-true}
use Rattle.frame.proofs.State.{words-kept}
use Rattle.issuing.proofs.Issues.{issued_office, issue-made, issue-sound, issue-state, issue-keeps}
use Rattle.agreement.specs.World.{Replica, issued}
use Rattle.agreement.proofs.View.{SoundReplica}
use Rattle.agreement.proofs.Held.{Leaves, Moves, moves}

module _ (n : ℕ) (ws : List ℕ) (k : ℕ) (d : Replica) (m : SoundReplica n ws k d) (line code : ℕ) where
  abbrev refused : ℕ
  refused = refuse_folded_issue n k line code (folded_by d.held d.words)

  abbrev office : FoldedOffice
  office = with_folded_issue k (value k line code) (folded_by d.held d.words)

  pub issue-number : (issue_of d.held d.words line code).number ≡ refused
  unfolding issue_of issue_number
  issue-number =
      pick_true (sound_b d.held d.words) _ 1 (sound-true d.held d.words m.sound)
      ∙ ap₂ (λ (c j : ℕ). refuse_folded_issue c j line code (folded_by d.held d.words)) m.count m.own

  office-is : issued_office d.held d.words line code ≡ office
  office-is = ap (λ (j : ℕ). with_folded_issue j (value j line code) (folded_by d.held d.words)) m.own

  -- the log's words are not written
  issue-leaves : (issue_of d.held d.words line code).number ≡ 0 → Leaves d office (issue_of d.held d.words line code).«record» d.words
  unfolding with_folded_issue with_issue
  issue-leaves q = record {
    made = (issue-made d.held d.words line code q).made ∙ ap (holding d.held d.words) office-is;
    written = sym (words-kept d.held d.words m.sound);
    state = issue-state d.held d.words line code q ∙ office-is;
    sound = issue-sound d.held d.words line code q;
  }

  pub issue-moves : Moves n ws k d (issued d line code) refused office
  issue-moves = moves n ws k d m refused office (issue_of d.held d.words line code).«record» d.words
      (λ z. issue-leaves (issue-number ∙ z)) (λ h. (issue-keeps d.held d.words line code (λ z. h (sym issue-number ∙ z)), refl))
