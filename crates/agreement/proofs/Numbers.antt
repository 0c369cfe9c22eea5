-- A call's number is the protocol's number of the call that it is viewed as; elect and fold are never refused, send with 6 alone, and take, of a sent
-- message, with 9 and 17 alone. Assumes nothing.
use mathlib.Core.Path.{◌≡◌, refl, sym, ap₂, subst, ◌∙◌}
use mathlib.Core.Bool.{true, cond}
use mathlib.Core.List.{List, map}
use Rattle.std.specs.Prelude.{Option, None, Some}
use mathlib.Core.Logic.{◌⊎◌, inl, inr}
use Prim.Native.Nat.{ℕ, ◌<◌}
use native.Mathlib.Omega.{arith}
use lib.Dec.{eqb}
use lib.ListN.{length, length-map}
use borrow.Author.Tests.{lt-ltb}
use Rattle.lists.proofs.Tests.{and-of}
use Rattle.protocol.specs.Folding.{refuse_folded_issue}
use Rattle.protocol.proofs.FoldedWorld as F
use Rattle.protocol.proofs.FoldedWorld.{names, number as number_f}
use Rattle.one_order.proofs.FoldedSound as S
use Rattle.one_order.proofs.FoldedOrder as O
use Rattle.spelling.specs.Reading.{sender_at}
use Rattle.issuing.specs.Issuing.{issue_of}
use Rattle.sending.specs.Sending.{send_of}
use Rattle.taking.specs.Taking.{take_of}
use Rattle.frame.specs.Electing.{elect_of}
use Rattle.folding.specs.Folding.{fold_of}
use Rattle.agreement.specs.World.{Replica, Posted, World, Call, issue, send, take, elect, fold, replica_at, message_at, on_some, number}
use Rattle.agreement.proofs.Places.{there}
use Rattle.agreement.proofs.View.{sent_of, shape, send_done, call_of, SoundWorld, means-sender, shape-length, shape-sent, shape-there, shape_at}
use Rattle.agreement.proofs.Issued.{issue-number}
use Rattle.agreement.proofs.Sent.{send-number}
use Rattle.agreement.proofs.Taken.{take-number}
use Rattle.agreement.proofs.Elected.{elect-number}
use Rattle.agreement.proofs.Folded.{fold-number}

module _ (n : ℕ) (ws : List ℕ) (w : World) (s : SoundWorld n ws w) where
  pub elects : (k : ℕ) → number w (elect k) ≡ 0
  unfolding number
  elects k = go (replica_at w k) refl
    where
      go : (x : Option Replica) → replica_at w k ≡ x → on_some x 0 (λ d. (elect_of d.held d.words).number) ≡ 0
      go None e = refl
      go (Some d) e = elect-number n ws k d (s.each k d e)

  pub folds : (k : ℕ) → number w (fold k) ≡ 0
  unfolding number
  folds k = go (replica_at w k) refl
    where
      go : (x : Option Replica) → replica_at w k ≡ x → on_some x 0 (λ d. (fold_of d.held d.words).number) ≡ 0
      go None e = refl
      go (Some d) e = fold-number n ws k d (s.each k d e)

  pub sends : (k : ℕ) (out : List ℕ) → (number w (send k out) ≡ 0) ⊎ (number w (send k out) ≡ 6)
  unfolding number
  sends k out = go (replica_at w k) refl
    where
      N : Option Replica → ℕ
      N x = on_some x 0 (λ d. (send_of d.held d.words out).number)

      go : (x : Option Replica) → replica_at w k ≡ x → (N x ≡ 0) ⊎ (N x ≡ 6)
      go None e = inl refl
      go (Some d) e = send-number n ws k d (s.each k d e) out

  -- of a message that was sent, at an office that is there
  take-is : (k m : ℕ) (d : Replica) (b : Posted) → replica_at w k ≡ Some d → message_at w m ≡ Some b → (take_of d.held d.words b.bytes).number ≡ number_f (shape w) (F.take k m)
  unfolding number_f
  take-is k m d b e f =
      take-number n ws k d (s.each k d e) b.bytes (s.readable m b f)
      ∙ ap₂ (λ (x : Option F.Posted) (y : F.Desk). F.refuse_taking k x y.now) (sym (shape-sent w m b f)) (sym (shape_at w k d e))

  pub numbers : (c : Call) → number w c ≡ number_f (shape w) (call_of w c)
  unfolding number number_f
  numbers (issue k line code) = go (replica_at w k) refl
    where
      go : (x : Option Replica) → replica_at w k ≡ x
          → on_some x 0 (λ d. (issue_of d.held d.words line code).number) ≡ number_f (shape w) (on_some x F.idle (λ _. F.issue k line code))
      go None e = refl
      go (Some d) e =
          issue-number n ws k d (s.each k d e) line code
          ∙ ap₂ (λ (c : ℕ) (x : F.Desk). refuse_folded_issue c k line code x.now) (sym (shape-length n ws w s)) (sym (shape_at w k d e))
  numbers (send k out) = go (replica_at w k) refl
    where
      by : (a : ℕ) → (a ≡ 0) ⊎ (a ≡ 6) → a ≡ cond (eqb a 0) 0 6
      by a (inl q) = rw q
      by a (inr q) = rw q

      go : (x : Option Replica) → replica_at w k ≡ x
          → on_some x 0 (λ d. (send_of d.held d.words out).number) ≡ number_f (shape w) (on_some x F.idle (λ d. F.send k (send_done d out)))
      go None e = refl
      go (Some d) e = by (send_of d.held d.words out).number (send-number n ws k d (s.each k d e) out)
  numbers (take k m) = go (replica_at w k) refl (message_at w m) refl
    where
      go : (x : Option Replica) → replica_at w k ≡ x → (y : Option Posted) → message_at w m ≡ y
          → on_some x 0 (λ d. on_some y 0 (λ b. (take_of d.held d.words b.bytes).number)) ≡ number_f (shape w) (on_some x F.idle (λ _. on_some y F.idle (λ _. F.take k m)))
      go None e y f = refl
      go (Some d) e None f = refl
      go (Some d) e (Some b) f = take-is k m d b e f
  numbers (elect k) = go (replica_at w k) refl
    where
      go : (x : Option Replica) → replica_at w k ≡ x → on_some x 0 (λ d. (elect_of d.held d.words).number) ≡ number_f (shape w) (on_some x F.idle (λ _. F.elect k))
      go None e = refl
      go (Some d) e = elect-number n ws k d (s.each k d e)
  numbers (fold k) = go (replica_at w k) refl
    where
      go : (x : Option Replica) → replica_at w k ≡ x → on_some x 0 (λ d. (fold_of d.held d.words).number) ≡ number_f (shape w) (on_some x F.idle (λ _. F.fold k))
      go None e = refl
      go (Some d) e = fold-number n ws k d (s.each k d e)

-- a take in a world that is shaped like one that the protocol's calls reach
module _ (n : ℕ) (ws : List ℕ) (pos : 0 < n) (w : World) (s : SoundWorld n ws w) (t : S.Sound ws n (shape w)) where
  -- by whether the office and the message are there
  abbrev take_at : Option Replica → Option Posted → ℕ
  take_at x y = on_some x 0 (λ d. on_some y 0 (λ b. (take_of d.held d.words b.bytes).number))

  named : (k m : ℕ) (d : Replica) (b : Posted) → replica_at w k ≡ Some d → message_at w m ≡ Some b → names (shape w) (F.take k m) ≡ true
  unfolding names
  named k m d b e f = and-of _ _ (shape-there w k d e) (lt-ltb m (length (map sent_of w.sent)) (rw length-map (there w.sent m b f)))

  pub takes : (k m : ℕ) → (number w (take k m) ≡ 0) ⊎ ((number w (take k m) ≡ 9) ⊎ (number w (take k m) ≡ 17))
  unfolding number
  takes k m = go (replica_at w k) refl (message_at w m) refl
    where
      go : (x : Option Replica) → replica_at w k ≡ x → (y : Option Posted) → message_at w m ≡ y → (take_at x y ≡ 0) ⊎ ((take_at x y ≡ 9) ⊎ (take_at x y ≡ 17))
      go None e y f = inl refl
      go (Some d) e None f = inl refl
      go (Some d) e (Some b) f =
          subst (λ (z : ℕ). (z ≡ 0) ⊎ ((z ≡ 9) ⊎ (z ≡ 17))) (sym (take-is n ws w s k m d b e f)) (O.takes ws n pos (shape w) t k m (named k m d b e f))

  -- of another office's message
  pub takes-other : (k m : ℕ) (b : Posted) → message_at w m ≡ Some b → (sender_at b.bytes ≡ k → ⊥) → (number w (take k m) ≡ 0) ⊎ (number w (take k m) ≡ 17)
  unfolding number
  takes-other k m b f other = subst (λ (y : Option Posted). (take_at (replica_at w k) y ≡ 0) ⊎ (take_at (replica_at w k) y ≡ 17)) (sym f) (go (replica_at w k) refl)
    where
      go : (x : Option Replica) → replica_at w k ≡ x → (take_at x (Some b) ≡ 0) ⊎ (take_at x (Some b) ≡ 17)
      go None e = inl refl
      go (Some d) e =
          subst (λ (z : ℕ). (z ≡ 0) ⊎ (z ≡ 17)) (sym (take-is n ws w s k m d b e f))
          (O.takes-other ws n pos (shape w) t k m (sent_of b) (omega (arith, there w.replicas k d e, s.offices)) (shape-sent w m b f) (λ q. other (sym (means-sender b.bytes) ∙ q)))
