-- What is known of any entry that an office holds, settled or not, after every list of calls.
--     held-issued      it was issued by its own office, under a log that is a beginning of the holder's
--     issued-once      one path in view, one entry: no office issues two entries with the same path in view
--     never-again      after its issue the office never has that path in view again
-- Assumes nothing.
use mathlib.Core.Path.{◌≡◌, subst}
use mathlib.Core.List.{List, ◌∷◌}
use Prim.Native.Nat.{ℕ, ◌<◌, ◌≤◌}
use lib.ListN.{length}
use Rattle.protocol.specs.Entry.{office_of}
use Rattle.protocol.specs.Beginning.{◌⊑◌, ◌⊏◌}
use Rattle.protocol.specs.Vote.{Rule}
use Rattle.protocol.specs.Office.{tail, path}
use Rattle.protocol.proofs.World.{Call, issue, refusal}
use Rattle.protocol_laws.proofs.Beginning.{⊑-append, ⊑-⊏-trans, ⊏-irrefl, snoc-⊏}
use Rattle.one_order.proofs.Lawful.{Lawful}
use Rattle.one_order.proofs.History.{Past, past-refl, past-trans, after, after-length, office_at, log_at, own_at}
use Rattle.one_order.proofs.Steady.{past-moves, Voted, voted-unique, voted-later}
use Rattle.one_order.proofs.Issued.{Issued, EachIssued}
use Rattle.one_order.proofs.Settled.{order-issued, ballot-issued}
use Rattle.one_order.proofs.EveryCall.{invariant}
use Rattle.one_order.proofs.OneOrder.{parts-of}

module _ (rule : Rule) (n : ℕ) where
  -- an entry's office is the one that issued it
  pub issued-office : n ≤ 8 → (cs : List Call) (l p : List ℕ) (e : ℕ) (i : Issued rule n cs l p e) → office_of e ≡ i.k
  unfolding refusal
  issued-office most cs l p e i =
      let few : length (after rule n i.moment).offices ≤ 8 = rw (after-length rule n i.moment) most in
      (parts-of (length (after rule n i.moment).offices) i.k i.line i.code few i.done e i.entry).office

  -- right after its issue the entry is its office's vote
  pub issued-voted : (cs : List Call) (l p : List ℕ) (e : ℕ) (i : Issued rule n cs l p e) → Voted rule n cs i.k p e
  issued-voted cs l p e i = voted-later rule n i.call i.cast

  pub issued-once : (cs : List Call) (l m p : List ℕ) (e f : ℕ) (i : Issued rule n cs l p e) (j : Issued rule n cs m p f) → i.k ≡ j.k → e ≡ f
  issued-once cs l m p e f i j h =
      voted-unique rule n cs j.k p e f (subst (λ (k : ℕ). Voted rule n cs k p e) h (issued-voted cs l p e i)) (issued-voted cs m p f j)

  pub never-again : (cs : List Call) (l p : List ℕ) (e : ℕ) (i : Issued rule n cs l p e) (g : List Call) → Past (issue i.k i.line i.code ∷ i.moment) g → own_at rule n i.k g ≡ p → ⊥
  never-again cs l p e i g h same =
      let k : ℕ = i.k in
      let v = i.cast in
      let own : List ℕ = own_at rule n k v.moment in
      let log : List ℕ = log_at rule n k g in
      let low : log ⊑ p = subst (λ (z : List ℕ). log ⊑ z) same (⊑-append log (tail (office_at rule n k g) k)) in
      let past : p ⊏ own = snoc-⊏ p own e v.for in
      let kept : own ⊑ p = subst (λ (z : List ℕ). own ⊑ z) same ((past-moves rule n (past-trans v.past h) k).1 (⊑-⊏-trans log p own low past)) in
      ⊏-irrefl own (⊑-⊏-trans own p own kept past)

  -- after every list of calls, in any office of the world, for its log and each of its ballots' paths
  pub held-issued : Lawful rule → 0 < n → (cs : List Call) (k j : ℕ) → EachIssued rule n cs (log_at rule n k cs) (path (office_at rule n k cs) j)
  held-issued law pos cs k j =
      let inv = invariant rule n law pos cs in
      let order = order-issued rule n law cs inv.order inv.elected inv.issued in
      ballot-issued rule n law cs inv.order (office_at rule n k cs) order (inv.logs k) (inv.known cs (past-refl cs) k) inv.issued j
