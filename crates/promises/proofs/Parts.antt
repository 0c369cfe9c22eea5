-- Request (v): the claims of specs/Parts. A sound record holds tails within their limits, and those have their parts (`protocol`, Limits and Fair).
-- Assumes nothing.
use mathlib.Core.Path.{◌≡◌, ap₂, ◌∙◌}
use mathlib.Core.Bool.{Bool, true, false}
use mathlib.Core.List.{List}
use Prim.Native.Nat.{ℕ, ◌+◌}
use native.Mathlib.Omega.{arith}
use lib.Dec.{eqb}
use lib.ListN.{length}
use Rattle.lists.specs.Tests.{pick}
use Rattle.lists.proofs.Tests.{pick_true}
use Rattle.protocol.specs.Limits.{length_limit}
use Rattle.protocol.specs.Office.{tail}
use Rattle.protocol.specs.Folding.{refuse_folded_issue}
use Rattle.protocol_laws.proofs.Fair.{fair-at}
use Rattle.protocol_laws.proofs.Limits.{tail_at}
use Rattle.protocol_laws.proofs.Issue as Issue
use Rattle.frame.specs.State.{held_by, folded_by}
use Rattle.frame.specs.Soundness.{sound_b}
use Rattle.issuing.specs.Issuing.{issue_number}
use Rattle.frame.specs.declared.Record.{Record}
use Rattle.frame.proofs.Sound.{sound}
use Rattle.frame.proofs.State.{log-length, whole_length, folded-fine}
use Rattle.promises.specs.Parts.{WithinParts, FullHasPart, StoppedBy5}

module _ (r : Record) (words : List ℕ) (q : sound_b r words ≡ true) where
  pub within-parts : WithinParts r words
  within-parts k j h = fair-at r.n (tail (held_by r words) k) (tail_at r.n (held_by r words) (folded-fine r words (sound r words q)).held k).parts j h

  pub full-has-part : FullHasPart r words
  full-has-part e =
      let S = sound r words q in
      omega (arith, within-parts r.own r.own S.head.member, Issue.never-4 r.n r.own (held_by r words) (folded-fine r words S).held S.head.member e)

  pub stopped-by-5 : StoppedBy5 r words
  unfolding issue_number
  stopped-by-5 line code p h =
      let own : ℕ = length (tail (held_by r words) r.own) in
      pick_true (sound_b r words) (refuse_folded_issue r.n r.own line code (folded_by r words)) 1 q ∙
      Issue.below-stopped r.n r.own line code (folded_by r words) p h ∙
      ap₂ (λ (held settled : ℕ). pick (eqb (held + own) 1024) 5 (pick (eqb (settled + own) length_limit) 5 0)) (log-length r words (sound r words q)) (whole_length r words (sound r words q))

pub never-4 : (r : Record) (words : List ℕ) (line code : ℕ) → issue_number r words line code ≡ 4 → ⊥
unfolding issue_number pick
never-4 r words line code e = go (sound_b r words) e
  where
    go : (b : Bool) → pick b (refuse_folded_issue r.n r.own line code (folded_by r words)) 1 ≡ 4 → ⊥
    go true d = (Issue.issue-never r.n r.own line code (folded_by r words)).no-4 d
    go false d = omega arith
