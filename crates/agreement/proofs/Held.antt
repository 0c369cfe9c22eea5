-- What a call leaves of a replica. A done call makes an office of the one that the replica held (`Leaves`): the replica that it leaves is a
-- replica of the world, and the protocol's desk with that office. A refused call leaves the replica as it was. Assumes nothing.
use mathlib.Core.Path.{◌≡◌, refl, sym, ap, subst, subst₂, ◌∙◌}
use mathlib.Core.Bool.{Bool, true, false}
use mathlib.Core.List.{List, ◌++◌, append-nil}
use Prim.Native.Nat.{ℕ, ◌<◌, ◌≤◌}
use native.Mathlib.Nat.{sub_self}
use lib.Dec.{eqb}
use lib.ListN as L
use borrow.Author.Tests.{eqb-true, eqb-false}
use Rattle.lists.specs.Tests.{pick}
use Rattle.lists.proofs.Tests.{pick_true, pick-false}
use Rattle.protocol.specs.Folding.{FoldedOffice}
use Rattle.protocol_laws.proofs.FoldedLimits.{FoldedFine}
use Rattle.protocol.proofs.FoldedWorld as F
use Rattle.ballots.specs.Ballots.{words_with}
use Rattle.frame.specs.declared.Record.{Record}
use Rattle.frame.specs.State.{held_by, folded_by, goes, holding}
use Rattle.frame.specs.Soundness.{Sound}
use Rattle.frame.proofs.State.{folded-fine, held, words-kept}
use Rattle.agreement.specs.World.{Replica, leaving}
use Rattle.agreement.proofs.View.{effect_in, desk_of, SoundReplica}

-- a done call at d that leaves the office as f, with the record and the words after it
pub record Leaves (d : Replica) (f : FoldedOffice) (r : Record) (words : List ℕ) : Type 0 where
  pub made : r ≡ holding d.held d.words f
  pub written : words ≡ words_with f.held.log d.words
  pub state : folded_by r words ≡ f
  pub sound : Sound r words

-- a call at office k's replica d, by its number: it leaves `next`, with the office f where it is done
pub record Moves (n : ℕ) (ws : List ℕ) (k : ℕ) (d next : Replica) (number : ℕ) (f : FoldedOffice) : Type 0 where
  pub desk : desk_of next ≡ pick (eqb number 0) (F.leaving (desk_of d) f) (desk_of d)
  pub done : number ≡ 0 → desk_of next ≡ F.leaving (desk_of d) f
  pub sound : SoundReplica n ws k next
  pub still : (number ≡ 0 → ⊥) → next ≡ d

-- nothing goes where the office is what it was
none-goes : (d : Replica) → d.former ++ goes d.held d.words (folded_by d.held d.words) ≡ d.former
none-goes d = ap (λ (j : ℕ). d.former ++ L.take j (held_by d.held d.words).log) (sub_self d.held.kept.dropped) ∙ append-nil d.former

-- a refused call, whatever the replica
pub left-still : (d : Replica) (r : Record) (words : List ℕ) → r ≡ d.held → words ≡ d.words → leaving d r words ≡ d
left-still d r words e q =
    let former-same = (λ i. d.former ++ goes d.held d.words (folded_by (e i) (q i))) ∙ none-goes d in
    λ i. record { held = e i; words = q i; former = former-same i }

module _ (n : ℕ) (ws : List ℕ) (k : ℕ) (d : Replica) (m : SoundReplica n ws k d) where
  pub replica-fine : FoldedFine n k (folded_by d.held d.words)
  replica-fine = subst₂ (λ (i j : ℕ). FoldedFine i j (folded_by d.held d.words)) m.count m.own (folded-fine d.held d.words m.sound)

  pub own_below : k < n
  own_below = rw (m.own, m.count) at m.sound.head.member

  pub few-offices : n ≤ 8
  few-offices = rw m.count at m.sound.head.most

  -- ── a done call ──
  module _ (f : FoldedOffice) (r : Record) (words : List ℕ) (x : Leaves d f r words) where
    pub left-desk : desk_of (leaving d r words) ≡ F.leaving (desk_of d) f
    left-desk = λ i. record { now = x.state i; kept = effect_in (x.made i).kept; former = d.former ++ goes d.held d.words (x.state i) }

    pub left-sound : SoundReplica n ws k (leaving d r words)
    left-sound = record {
      count = ap (λ (y : Record). y.n) x.made ∙ m.count;
      own = ap (λ (y : Record). y.own) x.made ∙ m.own;
      weights = ap (λ (y : Record). y.weights) x.made ∙ m.weights;
      sound = x.sound;
    }

    -- one that leaves the office as it was leaves all of the replica
    pub left-same : f ≡ folded_by d.held d.words → leaving d r words ≡ d
    left-same e =
        let r-same : r ≡ d.held = x.made ∙ ap (holding d.held d.words) e ∙ held d.held d.words m.sound in
        let words_same : words ≡ d.words = x.written ∙ ap (λ (g : FoldedOffice). words_with g.held.log d.words) e ∙ words-kept d.held d.words m.sound in
        let former-same = ap (λ (g : FoldedOffice). d.former ++ goes d.held d.words g) (x.state ∙ e) ∙ none-goes d in
        λ i. record { held = r-same i; words = words_same i; former = former-same i }

  -- ── any call, by its number ──
  pub moves : (number : ℕ) (f : FoldedOffice) (r : Record) (words : List ℕ) → (number ≡ 0 → Leaves d f r words) → ((number ≡ 0 → ⊥) → (r ≡ d.held) × (words ≡ d.words))
      → Moves n ws k d (leaving d r words) number f
  moves number f r words left same = go (eqb number 0) refl
    where
      go : (t : Bool) → eqb number 0 ≡ t → Moves n ws k d (leaving d r words) number f
      go true e =
          let z : number ≡ 0 = eqb-true number 0 e in
          record {
            desk = left-desk f r words (left z) ∙ sym (pick_true (eqb number 0) _ _ e);
            done = λ _. left-desk f r words (left z);
            sound = left-sound f r words (left z);
            still = λ h. absurd (h z);
          }
      go false e =
          let q = same (eqb-false number 0 e) in
          let back : leaving d r words ≡ d = left-still d r words q.0 q.1 in
          record {
            desk = ap desk_of back ∙ sym (pick-false (eqb number 0) _ _ e);
            done = λ z. absurd (eqb-false number 0 e z);
            sound = subst (SoundReplica n ws k) (sym back) m;
            still = λ _. back;
          }
