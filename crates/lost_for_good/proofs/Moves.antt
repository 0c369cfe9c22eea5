-- What calls do to one office of the world, on whole logs: the log grows, and an own path that still extends it stays.
--     one-moves, list-moves      one call, and a list of them
--     issue-view                 a done issue puts its entry behind the own path
-- Assumes nothing.
use mathlib.Core.Path.{◌≡◌, refl, sym, ap, subst, subst₂, ◌∙◌}
use mathlib.Core.List.{List, [], ◌∷◌, ◌++◌, map, append-nil, append_assoc}
use Rattle.std.specs.Prelude.{Option, None, Some}
use Prim.Native.Nat.{ℕ, zero, suc, ◌<◌}
use native.Mathlib.Omega.{arith}
use lib.ListN.{length, set, get_or-eq_default, length-map}
use Rattle.std.specs.Prelude.{slice_get}
use lib.Seq.{get_or-set_same}
use Rattle.protocol.specs.Entry.{value}
use Rattle.protocol.specs.Issue.{with_issue}
use Rattle.protocol.specs.Office.{Office, fresh, tail, path}
use Rattle.protocol.specs.SettledRule.{by_settled}
use Rattle.protocol_laws.proofs.Office.{OfficeMoves, moves-refl, moves-trans, fresh-path}
use Rattle.protocol.proofs.World as P
use Rattle.one_order.proofs.Steady.{step-moves}
use Rattle.protocol.proofs.FoldedWorld as F
use Rattle.one_order.proofs.FoldedSound as S
use Rattle.one_order.proofs.FoldedMoves.{moves}
use Rattle.agreement.specs.World.{Replica, World, Call, issue, replica_at, on_some, number, issued, put, step, after}
use Rattle.agreement.specs.Demand.{Founded, says, log_at, view_at}
use Rattle.agreement.proofs.Places.{there, not_there, find}
use Rattle.agreement.proofs.View.{desk_of, shape, view, call_of, SoundWorld, view-at}
use Rattle.agreement.proofs.Held.{own_below, few-offices, replica-fine}
use Rattle.agreement.proofs.Follows.{follows, both-after}
use Rattle.agreement.proofs.Calls.{always}

-- ── lists of calls ──
pub after-append : (w : World) (a b : List Call) → after w (a ++ b) ≡ after (after w a) b
unfolding after
after-append w [] b = refl
after-append w (c ∷ a) b = after-append (step w c) a b

pub after_one : (w : World) (a : List Call) (c : Call) → after w (a ++ (c ∷ [])) ≡ step (after w a) c
unfolding after
after_one w a c = after-append w a (c ∷ [])

-- an element that was set
pub set_at : {A : Type 0} (l : List A) (i : ℕ) (x : A) → i < length l → slice_get (set l i x) i ≡ Some x
set_at [] i x h = absurd (omega arith)
set_at (y ∷ l) zero x h = refl
set_at (y ∷ l) (suc i) x h = set_at l i x (omega arith)

-- ── one office ──
-- as the protocol's world has it
abbrev pub office_at : World → ℕ → Office
office_at w k = on_some (replica_at w k) fresh says

office-at : (w : World) (k : ℕ) → P.at (view w) k ≡ office_at w k
office-at w k = go (replica_at w k) refl
  where
    go : (x : Option Replica) → replica_at w k ≡ x → P.at (view w) k ≡ on_some x fresh says
    go None e =
        S.view-at (shape w) k
        ∙ ap F.whole_desk (get_or-eq_default (map desk_of w.replicas) (F.new_desk []) (rw length-map (not_there w.replicas k e)))
    go (Some d) e = view-at w k d e

pub log_is : (w : World) (k : ℕ) → (office_at w k).log ≡ log_at w k
log_is w k = go (replica_at w k)
  where
    go : (x : Option Replica) → (on_some x fresh says).log ≡ on_some x [] (λ d. (says d).log)
    go None = refl
    go (Some d) = refl

pub path-is : (n : ℕ) (ws : List ℕ) (w : World) → SoundWorld n ws w → (k : ℕ) → path (office_at w k) k ≡ view_at w k
path-is n ws w s k = go (replica_at w k) refl
  where
    go : (x : Option Replica) → replica_at w k ≡ x → path (on_some x fresh says) k ≡ on_some x [] (λ d. path (says d) d.held.own)
    go None e = fresh-path k
    go (Some d) e = ap (path (says d)) (sym (s.each k d e).own)

-- ── every list of calls ──
module _ (n : ℕ) (ws : List ℕ) (start : World) (f : Founded n ws start) where
  pub sound : (cs : List Call) → SoundWorld n ws (after start cs)
  sound cs = (both-after n ws start f cs).here

  pub one-moves : (cs : List Call) (c : Call) (k : ℕ) → OfficeMoves k (office_at (after start cs) k) (office_at (after start (cs ++ (c ∷ []))) k)
  one-moves cs c k =
      let w : World = after start cs in
      let w' : World = after start (cs ++ (c ∷ [])) in
      let b = both-after n ws start f cs in
      let seen : view w' ≡ P.step (by_settled ws) (view w) (F.call_of (shape w) (call_of w c)) =
      ap view (after_one start cs c) ∙ ap F.view (follows n ws w b.here c) ∙ moves ws n f.any (shape w) b.there (call_of w c) in
      subst₂ (OfficeMoves k) (office-at w k) (ap (λ (x : P.World). P.at x k) (sym seen) ∙ office-at w' k)
      (step-moves (by_settled ws) (view w) (F.call_of (shape w) (call_of w c)) k)

  pub list-moves : (a b : List Call) (k : ℕ) → OfficeMoves k (office_at (after start a) k) (office_at (after start (a ++ b)) k)
  list-moves a [] k = rw append-nil (moves-refl (office_at (after start a) k).log (path (office_at (after start a) k) k))
  list-moves a (c ∷ b) k =
      let o : Office = office_at (after start a) k in
      let x : Office = office_at (after start (a ++ (c ∷ []))) k in
      let y : Office = office_at (after start (a ++ (c ∷ b))) k in
      moves-trans o.log (path o k) x.log (path x k) y.log (path y k) (one-moves a c k)
      (subst (λ (l : List Call). OfficeMoves k x (office_at (after start l) k)) (append_assoc a (c ∷ []) b) (list-moves (a ++ (c ∷ [])) b k))

  -- ── a done issue ──
  issue-office : (cs : List Call) (k line code : ℕ) → k < length start.replicas → number (after start cs) (issue k line code) ≡ 0
      → (office_at (after start (cs ++ (issue k line code ∷ []))) k ≡ with_issue k (value k line code) (office_at (after start cs) k))
      × (k < length (office_at (after start cs) k).tails)
  unfolding step
  issue-office cs k line code known done =
      let w : World = after start cs in
      let replica = find w.replicas k (omega (arith, f.offices, (sound cs).offices)) in
      let d : Replica = replica.0 in
      let here : replica_at w k ≡ Some d = replica.1 in
      let m = (sound cs).each k d here in
      let is : office_at w k ≡ says d = ap (λ (x : Option Replica). on_some x fresh says) here in
      let moved : after start (cs ++ (issue k line code ∷ [])) ≡ put w k (issued d line code) =
      after_one start cs (issue k line code) ∙ ap (λ (x : Option Replica). on_some x w (λ r. put w k (issued r line code))) here in (
        ap (λ (x : World). office_at x k) moved
            ∙ ap (λ (x : Option Replica). on_some x fresh says) (set_at w.replicas k (issued d line code) (there w.replicas k d here))
            ∙ (always n ws start f cs).issue-says k line code d here done ∙ ap (with_issue k (value k line code)) (sym is),
        omega (arith, own_below n ws k d m, few-offices n ws k d m, ap (λ (o : Office). length o.tails) is, (replica-fine n ws k d m).held.eight),
      )

  pub issue-view : (cs : List Call) (k line code : ℕ) → k < length start.replicas → number (after start cs) (issue k line code) ≡ 0
      → (log_at (after start (cs ++ (issue k line code ∷ []))) k ≡ log_at (after start cs) k)
      × (view_at (after start (cs ++ (issue k line code ∷ []))) k ≡ view_at (after start cs) k ++ (value k line code ∷ []))
  unfolding with_issue
  issue-view cs k line code known done =
      let w : World = after start cs in
      let w' : World = after start (cs ++ (issue k line code ∷ [])) in
      let e : ℕ = value k line code in
      let o : Office = office_at w k in
      let now = issue-office cs k line code known done in (
        sym (log_is w' k) ∙ ap (λ (x : Office). x.log) now.0 ∙ log_is w k,
        sym (path-is n ws w' (sound (cs ++ (issue k line code ∷ []))) k) ∙ ap (λ (x : Office). path x k) now.0
            ∙ ap (λ (t : List ℕ). o.log ++ t) (get_or-set_same o.tails k (tail o k ++ (e ∷ [])) [] now.1) ∙ sym (append_assoc o.log (tail o k) (e ∷ []))
            ∙ ap (λ (l : List ℕ). l ++ (e ∷ [])) (path-is n ws w (sound cs) k),
      )
