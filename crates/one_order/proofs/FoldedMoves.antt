-- Each call of the world with folding, seen on whole logs, is document 01's call, or no call. Assumes nothing.
use mathlib.Core.Path.{◌≡◌, refl, sym, ap, ap₂, ◌∙◌}
use mathlib.Core.Bool.{Bool, true, false, ◌&&◌, cond, true≢false}
use mathlib.Core.List.{List, [], ◌∷◌, map}
use Rattle.std.specs.Prelude.{Option, None, Some}
use Prim.Native.Nat.{ℕ, zero, suc, ◌<◌, ◌≤◌}
use native.Mathlib.Omega.{arith}
use lib.Dec.{eqb, ltb}
use lib.ListN.{length, length-map}
use Rattle.std.specs.Prelude.{slice_get}
use lib.Seq.{set-get_or}
use borrow.Author.Tests.{lt-ltb, le-ltb, ltb-true, eqb-true}
use Rattle.protocol.specs.Entry.{value}
use Rattle.protocol.specs.Beginning.{◌⊑◌}
use Rattle.protocol.specs.Vote.{Rule}
use Rattle.protocol.specs.SettledRule.{by_settled}
use Rattle.protocol.specs.Office.{Office, fresh}
use Rattle.protocol.specs.Issue.{with_issue, refuse_entry}
use Rattle.protocol.specs.Elect.{with_elect}
use Rattle.protocol.proofs.World as P
use Rattle.protocol.proofs.World.{names as names_p, refusal, done as done_p, step as step_p}
use Rattle.protocol.proofs.Effects.{rule_behind}
use Rattle.protocol.specs.Folding.{FoldedOffice, packet, with_fold, with_folded_issue, refuse_folded_issue, with_folded_elect, with_folded_take, refuse_folded_take}
use Rattle.protocol.proofs.FoldedWorld.{
  Desk,
  Posted,
  World,
  Call,
  issue,
  send,
  take,
  elect,
  fold,
  idle,
  desk_at,
  leaving,
  put,
  is_there,
  names,
  refuse_taking,
  taking,
  number,
  done,
  step,
  whole_desk,
  whole_message,
  view,
  call_of,
}
use Rattle.lists.proofs.Tests.{map-set}
use Rattle.one_order.proofs.History.{step-done}
use Rattle.protocol_laws.proofs.Folding.{TakeFound, fold-desk, issue-desk, elect-desk, folded-issue-found, take_found, refuse-desk, take-desk}
use Rattle.one_order.proofs.FoldedSound.{Sound, view-at, view-sent, known, there, desk-in, message-in}

-- ── document 01's step ──
step-unnamed : (rule : Rule) (v : P.World) (c : P.Call) → names_p v c ≡ false → v ≡ step_p rule v c
unfolding step_p
step-unnamed rule v c h = ap (λ (t : Bool). cond (t && eqb (refusal v c) 0) (done_p rule v c) v) (sym h)

step-idle : (rule : Rule) (v : P.World) → v ≡ step_p rule v P.idle
unfolding names_p
step-idle rule v = step-unnamed rule v P.idle refl

-- ── the view ──
view-there : (w : World) (k : ℕ) → P.is_there (view w) k ≡ is_there w k
view-there w k = ap (ltb k) (length-map w.desks whole_desk)

put_view : (w : World) (k : ℕ) (f : FoldedOffice) (o : Office) → whole_desk (leaving (desk_at w k) f) ≡ o → view (put w k f) ≡ P.put (view w) k o
put_view w k f o e =
    ap (λ (l : List Office). record { offices = l; sent = map whole_message w.sent }) (map-set whole_desk w.desks k (leaving (desk_at w k) f))
    ∙ ap (λ (x : Office). P.put (view w) k x) e

-- an office that is as it was
put_same : (v : P.World) (k : ℕ) → P.put v k (P.at v k) ≡ v
put_same v k = ap (λ (l : List Office). record { offices = l; sent = v.sent }) (set-get_or v.offices k fresh)

not-sent : (l : List Posted) (i : ℕ) → slice_get l i ≡ None → length l ≤ i
not-sent [] i e = omega arith
not-sent (y ∷ l) zero e = let z : ◌≡◌ {A = ℕ} 0 1 = cc in absurd (omega arith)
not-sent (y ∷ l) (suc i) e = let h = not-sent l i e in omega arith

is-sent : (l : List Posted) (i : ℕ) (m : Posted) → slice_get l i ≡ Some m → i < length l
is-sent [] i m e = let z : ◌≡◌ {A = ℕ} 0 1 = cc in absurd (omega arith)
is-sent (y ∷ l) zero m e = omega arith
is-sent (y ∷ l) (suc i) m e = let h = is-sent l i m e in omega arith

and-false-1 : (a b : Bool) → b ≡ false → (a && b) ≡ false
and-false-1 true b e = e
and-false-1 false b e = refl

-- ── the calls ──
module _ (founding : List ℕ) (n : ℕ) (pos : 0 < n) (w : World) (s : Sound founding n w) where
  abbrev rule : Rule
  rule = by_settled founding

  issue-moves : (k line code : ℕ) → view (step w (issue k line code)) ≡ step_p rule (view w) (call_of w (issue k line code))
  unfolding step names number done names_p refusal done_p
  issue-moves k line code = go (is_there w k) refl (eqb (refuse_folded_issue (length w.desks) k line code (desk_at w k).now) 0) refl
    where
      next : World
      next = put w k (with_folded_issue k (value k line code) (desk_at w k).now)

      go : (a : Bool) → is_there w k ≡ a → (b : Bool) → eqb (refuse_folded_issue (length w.desks) k line code (desk_at w k).now) 0 ≡ b
          → view (cond (a && b) next w) ≡ step_p rule (view w) (cond b (P.issue k line code) P.idle)
      go true p false q = step-idle rule (view w)
      go false p false q = step-idle rule (view w)
      go false p true q = step-unnamed rule (view w) (P.issue k line code) (view-there w k ∙ p)
      go true p true q =
          put_view w k (with_folded_issue k (value k line code) (desk_at w k).now) (with_issue k (value k line code) (P.at (view w) k))
          (issue-desk k (value k line code) (desk_at w k) ∙ ap (with_issue k (value k line code)) (sym (view-at w k)))
          ∙ sym (step-done rule (view w) (P.issue k line code) (view-there w k ∙ p)
          (ap (λ (x : ℕ). refuse_entry x line code) (length-map w.desks whole_desk) ∙ folded-issue-found (length w.desks) k line code (desk_at w k).now (eqb-true _ 0 q)))

  send-moves : (k : ℕ) (room : Bool) → view (step w (send k room)) ≡ step_p rule (view w) (P.send k room)
  unfolding step names number done step_p names_p refusal done_p
  send-moves k room =
      go (is_there w k && eqb (cond room 0 6) 0)
      ∙ ap₂ (λ (t : Bool) (o : Office). cond (t && eqb (cond room 0 6) 0) (record { offices = (view w).offices; sent = record { sender = k; state = o } ∷ (view w).sent }) (view w))
      (sym (view-there w k)) (sym (view-at w k))
    where
      next : World
      next = record { desks = w.desks; sent = record { message = packet k (desk_at w k).now; former = (desk_at w k).former } ∷ w.sent }

      go : (t : Bool) → view (cond t next w) ≡ cond t (view next) (view w)
      go true = refl
      go false = refl

  -- an accepted message that was sent
  taken : (k i : ℕ) (m : Posted) → slice_get w.sent i ≡ Some m → is_there w k ≡ true → refuse_folded_take k m.message (desk_at w k).now ≡ 0
      → view (put w k (with_folded_take k m.message (desk_at w k).now)) ≡ step_p rule (view w) (P.take k i)
  unfolding names_p refusal done_p
  taken k i m e p h =
      let d : Desk = desk_at w k in
      let q : List ℕ = (known founding n pos w s).order in
      let f : TakeFound k m.message d.now = take_found k m.message d.now h in
      let mine : (whole_desk d).log ⊑ q = desk-in founding n pos w s k in
      let theirs : (whole_message m).state.log ⊑ q = message-in founding n pos w s i m e in
      let was : slice_get (view w).sent i ≡ Some (whole_message m) = view-sent w i m e in
      put_view w k (with_folded_take k m.message d.now) (P.taking k (slice_get (view w).sent i) (P.at (view w) k))
      (take-desk d m q (s.desks k).counted (s.sent i m e).counted mine theirs f.reaches f.lasts k ∙ ap₂ (P.taking k) (sym was) (sym (view-at w k)))
      ∙ sym (step-done rule (view w) (P.take k i)
      (ap₂ ◌&&◌ (view-there w k ∙ p) (lt-ltb i (length (view w).sent) (rw length-map (is-sent w.sent i m e))))
      (ap₂ (P.refuse_taking k) was (view-at w k) ∙ sym (refuse-desk d m q (s.desks k).counted (s.sent i m e).counted mine theirs f.reaches f.lasts k) ∙ f.agrees))

  take-moves : (k i : ℕ) → view (step w (take k i)) ≡ step_p rule (view w) (call_of w (take k i))
  unfolding step names number done names_p
  take-moves k i = go (slice_get w.sent i) refl
    where
      Goal : Option Posted → Type 0
      Goal x = view (cond ((is_there w k && ltb i (length w.sent)) && eqb (refuse_taking k x (desk_at w k).now) 0) (put w k (taking k x (desk_at w k).now)) w)
          ≡ step_p rule (view w) (cond (eqb (refuse_taking k x (desk_at w k).now) 0) (P.take k i) P.idle)

      unnamed : (a b : Bool) (x : World) → b ≡ false → view (cond ((a && b) && true) x w) ≡ view w
      unnamed true true x e = absurd (true≢false e)
      unnamed true false x e = refl
      unnamed false b x e = refl

      sent : (m : Posted) → slice_get w.sent i ≡ Some m → (a : Bool) → is_there w k ≡ a → (t : Bool) → t ≡ true → (b : Bool) → eqb (refuse_folded_take k m.message (desk_at w k).now) 0 ≡ b
          → view (cond ((a && t) && b) (put w k (with_folded_take k m.message (desk_at w k).now)) w) ≡ step_p rule (view w) (cond b (P.take k i) P.idle)
      sent m e a p false r b q = absurd (true≢false (sym r))
      sent m e false p true r false q = step-idle rule (view w)
      sent m e true p true r false q = step-idle rule (view w)
      sent m e false p true r true q = step-unnamed rule (view w) (P.take k i) (ap (λ (b : Bool). b && ltb i (length (view w).sent)) (view-there w k ∙ p))
      sent m e true p true r true q = taken k i m e p (eqb-true _ 0 q)

      go : (x : Option Posted) → slice_get w.sent i ≡ x → Goal x
      go None e =
          unnamed (is_there w k) (ltb i (length w.sent)) (put w k (desk_at w k).now) (le-ltb i (length w.sent) (not-sent w.sent i e))
          ∙ step-unnamed rule (view w) (P.take k i) (and-false-1 (P.is_there (view w) k) (ltb i (length (view w).sent)) (le-ltb i (length (view w).sent) (rw length-map (not-sent w.sent i e))))
      go (Some m) e =
          sent m e (is_there w k) refl (ltb i (length w.sent)) (lt-ltb i (length w.sent) (is-sent w.sent i m e)) (eqb (refuse_folded_take k m.message (desk_at w k).now) 0) refl

  -- an office that is there
  here : (k : ℕ) → is_there w k ≡ true → k < n
  here k p = omega (arith, ltb-true k (length w.desks) p, there founding n pos w s)

  elect-moves : (k : ℕ) → view (step w (elect k)) ≡ step_p rule (view w) (P.elect k)
  unfolding step names number done names_p refusal done_p
  elect-moves k = go (is_there w k) refl
    where
      f : FoldedOffice
      f = with_folded_elect (rule_behind (desk_at w k).kept) (desk_at w k).now

      go : (a : Bool) → is_there w k ≡ a → view (cond (a && true) (put w k f) w) ≡ step_p rule (view w) (P.elect k)
      go false p = step-unnamed rule (view w) (P.elect k) (view-there w k ∙ p)
      go true p =
          put_view w k f (with_elect rule (P.at (view w) k)) (elect-desk founding (desk_at w k) (s.kept k (here k p)) ∙ ap (with_elect rule) (sym (view-at w k)))
          ∙ sym (step-done rule (view w) (P.elect k) (view-there w k ∙ p) refl)

  fold-moves : (k : ℕ) → view (step w (fold k)) ≡ step_p rule (view w) P.idle
  unfolding step names number done
  fold-moves k = go (is_there w k) ∙ step-idle rule (view w)
    where
      f : FoldedOffice
      f = with_fold (length w.desks) k (desk_at w k).now

      go : (a : Bool) → view (cond (a && true) (put w k f) w) ≡ view w
      go false = refl
      go true = put_view w k f (P.at (view w) k) (fold-desk (length w.desks) k (desk_at w k) ∙ sym (view-at w k)) ∙ put_same (view w) k

  idle-moves : view (step w idle) ≡ step_p rule (view w) P.idle
  unfolding step names
  idle-moves = step-idle rule (view w)

  pub moves : (c : Call) → view (step w c) ≡ step_p rule (view w) (call_of w c)
  moves (issue k line code) = issue-moves k line code
  moves (send k room) = send-moves k room
  moves (take k i) = take-moves k i
  moves (elect k) = elect-moves k
  moves (fold k) = fold-moves k
  moves idle = idle-moves
