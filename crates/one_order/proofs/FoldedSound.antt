-- What holds of the world with folding after any list of calls: it is viewed as a world that document 01's calls reach, what is
-- kept, and each dropped count, is that of the entries dropped, and nobody has dropped, or noted of an office, more than that office has settled.
--     Fit, FitSent, Sound                 the facts
--     desk-in, message-in                 every whole log is a beginning of the order
--     message-heard                       a message's length is at most its sender's
-- Assumes nothing.
use mathlib.Core.Path.{◌≡◌, sym, ap, subst, ◌∙◌}
use mathlib.Core.List.{List, [], ◌∷◌, map}
use Rattle.std.specs.Prelude.{Some}
use Prim.Native.Nat.{ℕ, zero, suc, ◌≤◌, ◌<◌}
use native.Mathlib.Omega.{arith}
use lib.ListN.{length, get_or, length-append, length-map}
use Rattle.std.specs.Prelude.{slice_get}
use Rattle.protocol.specs.Beginning.{◌⊑◌}
use Rattle.protocol.specs.Vote.{Rule}
use Rattle.protocol.specs.SettledRule.{by_settled}
use Rattle.protocol.specs.Office.{Office}
use Rattle.protocol.proofs.World as P
use Rattle.protocol.proofs.Effects.{effect_of}
use Rattle.protocol.specs.Folding.{settled_length}
use Rattle.protocol.proofs.FoldedWorld.{Desk, Posted, World, new_desk, desk_at, whole_desk, whole_message, view}
use Rattle.lists.proofs.Tests.{get_d_map}
use Rattle.protocol_laws.proofs.Beginning.{⊑-length}
use Rattle.one_order.proofs.Lawful.{Lawful, settled-lawful}
use Rattle.one_order.proofs.History as H
use Rattle.one_order.proofs.Steady.{past-moves}
use Rattle.one_order.proofs.Invariant.{Invariant}
use Rattle.one_order.proofs.TakeKeeps.{known-message}
use Rattle.one_order.proofs.EveryCall.{invariant}

-- ── the view ──
pub view-at : (w : World) (k : ℕ) → P.at (view w) k ≡ whole_desk (desk_at w k)
view-at w k = get_d_map whole_desk (new_desk []) w.desks k

-- the same place of a mapped list
map-there : {A B : Type 0} (f : A → B) (l : List A) (i : ℕ) (x : A) → slice_get l i ≡ Some x → slice_get (map f l) i ≡ Some (f x)
map-there f [] i x e = let z : ◌≡◌ {A = ℕ} 0 1 = cc in absurd (omega arith)
map-there f (y ∷ l) zero x e = let q : y ≡ x = cc in ap (λ z. Some (f z)) q
map-there f (y ∷ l) (suc i) x e = map-there f l i x e

pub view-sent : (w : World) (i : ℕ) (m : Posted) → slice_get w.sent i ≡ Some m → slice_get (view w).sent i ≡ Some (whole_message m)
view-sent w i m e = map-there whole_message w.sent i m e

-- how much each office has settled
abbrev pub lengths : World → ℕ → ℕ
lengths w j = length (P.at (view w) j).log

-- ── the facts ──
-- a desk in a world of n offices whose logs have these lengths
pub record Fit (n : ℕ) (len : ℕ → ℕ) (d : Desk) : Type 0 where
  pub counted : d.now.dropped ≡ length d.former
  pub noted : (j : ℕ) → get_or d.now.noted j 0 ≤ len j
  pub low : (j : ℕ) → j < n → d.now.dropped ≤ len j

pub record FitSent (n : ℕ) (len : ℕ → ℕ) (m : Posted) : Type 0 where
  pub counted : m.message.dropped ≡ length m.former
  pub low : (j : ℕ) → j < n → m.message.dropped ≤ len j

pub record Sound (founding : List ℕ) (n : ℕ) (w : World) : Type 0 where
  -- document 01's calls behind those so far, newest first
  pub history : List P.Call
  pub reached : view w ≡ H.after (by_settled founding) n history
  pub kept : (k : ℕ) → k < n → (desk_at w k).kept ≡ effect_of founding (desk_at w k).former
  pub desks : (k : ℕ) → Fit n (lengths w) (desk_at w k)
  pub sent : (i : ℕ) (m : Posted) → slice_get w.sent i ≡ Some m → FitSent n (lengths w) m

-- logs grow
pub fit-grows : {n : ℕ} {len : ℕ → ℕ} {d : Desk} (more : ℕ → ℕ) → ((j : ℕ) → len j ≤ more j) → Fit n len d → Fit n more d
fit-grows more g f = record { counted = f.counted; noted = λ j. omega (arith, f.noted j, g j); low = λ j h. omega (arith, f.low j h, g j) }

pub fit-sent-grows : {n : ℕ} {len : ℕ → ℕ} {m : Posted} (more : ℕ → ℕ) → ((j : ℕ) → len j ≤ more j) → FitSent n len m → FitSent n more m
fit-sent-grows more g f = record { counted = f.counted; low = λ j h. omega (arith, f.low j h, g j) }

-- ── what follows ──
module _ (founding : List ℕ) (n : ℕ) (pos : 0 < n) (w : World) (s : Sound founding n w) where
  abbrev rule : Rule
  rule = by_settled founding

  abbrev law : Lawful rule
  law = settled-lawful founding

  abbrev pub known : Invariant rule n law s.history
  known = invariant rule n law pos s.history

  pub there : length w.desks ≡ n
  there = sym (length-map w.desks whole_desk) ∙ ap (λ (v : P.World). length v.offices) s.reached ∙ H.after-length rule n s.history

  pub desk-in : (k : ℕ) → (whole_desk (desk_at w k)).log ⊑ known.order
  desk-in k = subst (λ (o : Office). o.log ⊑ known.order) (ap (λ (v : P.World). P.at v k) (sym s.reached) ∙ view-at w k) (known.logs k)

  sent-there : (i : ℕ) (m : Posted) → slice_get w.sent i ≡ Some m → slice_get (H.after rule n s.history).sent i ≡ Some (whole_message m)
  sent-there i m e = subst (λ (v : P.World). slice_get v.sent i ≡ Some (whole_message m)) s.reached (view-sent w i m e)

  pub message-in : (i : ℕ) (m : Posted) → slice_get w.sent i ≡ Some m → (whole_message m).state.log ⊑ known.order
  message-in i m e = (known-message rule n law s.history known i (whole_message m) (sent-there i m e)).settled

  -- a message's length is at most its sender's
  pub message-heard : (i : ℕ) (m : Posted) → slice_get w.sent i ≡ Some m → settled_length m.message.dropped m.message.state ≤ lengths w m.message.sender
  message-heard i m e =
      let k : ℕ = m.message.sender in
      let b = known.sent i (whole_message m) (sent-there i m e) in
      let grown : length (H.log_at rule n k b.0) ≤ length (H.log_at rule n k s.history) = ⊑-length (H.log_at rule n k b.0) (H.log_at rule n k s.history) (past-moves rule n b.1 k).0 in
      omega (
        arith,
        grown,
        ap (λ (o : Office). length o.log) b.2,
        ap (λ (v : P.World). length (P.at v k).log) s.reached,
        (s.sent i m e).counted,
        length-append m.former m.message.state.log,
      )

  -- an office's length
  pub own-length : (k : ℕ) → settled_length (desk_at w k).now.dropped (desk_at w k).now.held ≡ lengths w k
  own-length k =
      let d : Desk = desk_at w k in
      omega (arith, (s.desks k).counted, length-append d.former d.now.held.log, ap (λ (o : Office). length o.log) (view-at w k))
