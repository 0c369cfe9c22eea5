-- Every call keeps the invariant, so it holds after any list of calls; and no call of such a list is refused with 10. Assumes nothing.
use mathlib.Core.Path.{◌≡◌, refl, sym, ap, ◌∙◌}
use mathlib.Core.List.{List, [], ◌∷◌}
use Rattle.std.specs.Prelude.{Option, None, Some}
use Rattle.std.proofs.lemmas.Option.{same_Some}
use mathlib.Core.Bool.{Bool, true, false, ◌&&◌, ◌||◌, not, cond, true≢false}
use mathlib.Core.Logic.{◌⊎◌, inl, inr}
use Prim.Native.Nat.{ℕ, zero, suc, ◌<◌}
use native.Mathlib.Omega.{arith}
use lib.Dec.{eqb, ltb}
use lib.ListN.{length}
use Rattle.std.specs.Prelude.{slice_get}
use borrow.Author.Tests.{eqb-true, ltb-true}
use Rattle.lists.specs.Tests.{pick}
use Rattle.protocol.specs.Entry.{value, proper}
use Rattle.protocol.specs.Beginning.{◌⊑◌, ◌⊏◌, begins}
use Rattle.protocol.specs.Vote.{Rule}
use Rattle.protocol.specs.Office.{Message}
use Rattle.protocol.specs.Issue.{with_issue, refuse_entry}
use Rattle.protocol.specs.Take.{refuse_take}
use Rattle.protocol.specs.Elect.{with_elect}
use Rattle.protocol.proofs.World.{World, Call, issue, send, take, elect, idle, names, taking, refuse_taking, refusal, done, step}
use Rattle.lists.proofs.Tests.{and-true, or_right, if-cases}
use Rattle.protocol_laws.proofs.Beginning.{⊑_refl, ⊏-⊑, ⊑-comparable, begins-of}
use Rattle.one_order.proofs.Lawful.{Lawful}
use Rattle.one_order.proofs.History.{past-refl, after, after-length, office_at, log_at}
use Rattle.one_order.proofs.Known.{Sent}
use Rattle.one_order.proofs.Invariant.{Invariant, NextWorld, advance, same_left, same_next, put_next, invariant-start}
use Rattle.one_order.proofs.IssueKeeps.{issue-change}
use Rattle.one_order.proofs.TakeKeeps.{known-message, taking-change}
use Rattle.one_order.proofs.ElectKeeps.{elect-change}

-- the refusals' numbers that are not 10
ten-not : (t : Bool) → t ≡ true → ◌≡◌ {A = ℕ} (cond t 0 10) 10 → ⊥
ten-not true e h = omega arith
ten-not false e h = true≢false (sym e)

issue-not : (a : Bool) → ◌≡◌ {A = ℕ} (pick a 3 0) 10 → ⊥
unfolding pick
issue-not true h = omega arith
issue-not false h = omega arith

send-not : (a : Bool) → ◌≡◌ {A = ℕ} (cond a 0 6) 10 → ⊥
send-not true h = omega arith
send-not false h = omega arith

module _ (rule : Rule) (n : ℕ) (law : Lawful rule) where
  -- an office that is named is there
  there : (cs : List Call) (k : ℕ) → ltb k (length (after rule n cs).offices) ≡ true → k < n
  there cs k h = omega (arith, ltb-true k (length (after rule n cs).offices) h, after-length rule n cs)

  -- the world with a message of office k, which holds what the office is now
  abbrev with_sent : List Call → ℕ → World
  with_sent cs k = record { offices = (after rule n cs).offices; sent = record { sender = k; state = office_at rule n k cs } ∷ (after rule n cs).sent }

  send-next : (c : Call) (cs : List Call) (inv : Invariant rule n law cs) (k : ℕ) → NextWorld rule n law c cs inv.order (with_sent cs k)
  send-next c cs inv k = record {
    order = inv.order;
    grows = ⊑_refl inv.order;
    elected = inv.elected;
    longest = inl refl;
    left = same_left rule n law c cs inv inv.order (⊑_refl inv.order);
    sent = new;
  }
    where
      new : (i : ℕ) (m : Message) → slice_get (with_sent cs k).sent i ≡ Some m → Sent rule n cs m
      new zero m e =
          let same = same_Some _ m e in
          (cs, past-refl cs, ap (λ (x : Message). office_at rule n x.sender cs) (sym same) ∙ ap (λ (x : Message). x.state) same)
      new (suc i) m e = inv.sent i m e

  done_next : (c : Call) (cs : List Call) (inv : Invariant rule n law cs) → names (after rule n cs) c ≡ true → refusal (after rule n cs) c ≡ 0
      → NextWorld rule n law c cs inv.order (done rule (after rule n cs) c)
  unfolding done names
  done_next (issue k line code) cs inv h r =
      put_next rule n law (issue k line code) cs inv k (with_issue k (value k line code) (office_at rule n k cs)) (there cs k h) (issue-change rule n law cs inv k line code r (there cs k h))
  done_next (send k room) cs inv h r = send-next (send k room) cs inv k
  done_next (take k i) cs inv h r =
      put_next rule n law (take k i) cs inv k (taking k (slice_get (after rule n cs).sent i) (office_at rule n k cs)) (there cs k (and-true _ _ h).0)
      (taking-change rule n law (take k i) cs inv k i (slice_get (after rule n cs).sent i) refl)
  done_next (elect k) cs inv h r = put_next rule n law (elect k) cs inv k (with_elect rule (office_at rule n k cs)) (there cs k h) (elect-change rule n law (elect k) cs inv k)
  done_next idle cs inv h r = same_next rule n law idle cs inv

  step-next : (c : Call) (cs : List Call) (inv : Invariant rule n law cs) → NextWorld rule n law c cs inv.order (after rule n (c ∷ cs))
  unfolding after step
  step-next c cs inv =
      if-cases (λ w. NextWorld rule n law c cs inv.order w) (names (after rule n cs) c && eqb (refusal (after rule n cs) c) 0) (done rule (after rule n cs) c) (after rule n cs)
      (λ e. let t = and-true _ _ e in done_next c cs inv t.0 (eqb-true (refusal (after rule n cs) c) 0 t.1))
      (λ _. same_next rule n law c cs inv)

  pub invariant : 0 < n → (cs : List Call) → Invariant rule n law cs
  invariant pos [] = invariant-start rule n law pos
  invariant pos (c ∷ cs) = advance rule n law c cs (invariant pos cs) (step-next c cs (invariant pos cs))

  -- no call is refused with 10
  take-never : (cs : List Call) → Invariant rule n law cs → (k : ℕ) (m : Option Message) (i : ℕ) → slice_get (after rule n cs).sent i ≡ m → refuse_taking k m (office_at rule n k cs) ≡ 10 → ⊥
  unfolding refuse_take
  take-never cs inv k None i e h = omega arith
  take-never cs inv k (Some m) i e h = go (eqb m.sender k) (⊑-comparable l m.state.log inv.order (inv.logs k) (known-message rule n law cs inv i m e).settled) h
    where
      l : List ℕ
      l = log_at rule n k cs

      go : (t : Bool) → (l ⊑ m.state.log) ⊎ (m.state.log ⊏ l) → ◌≡◌ {A = ℕ} (cond t 9 (cond (begins l m.state.log || begins m.state.log l) 0 10)) 10 → ⊥
      go true z h = omega arith
      go false (inl z) h = ten-not _ (ap (λ (b : Bool). b || begins m.state.log l) (begins-of l m.state.log z)) h
      go false (inr z) h = ten-not _ (ap (λ (b : Bool). begins l m.state.log || b) (begins-of m.state.log l (⊏-⊑ m.state.log l z)) ∙ or_right (begins l m.state.log)) h

  pub never-10 : (cs : List Call) → Invariant rule n law cs → (c : Call) → refusal (after rule n cs) c ≡ 10 → ⊥
  unfolding refusal refuse_entry
  never-10 cs inv (issue k line code) h = issue-not (not (proper (length (after rule n cs).offices) line code)) h
  never-10 cs inv (send k room) h = send-not room h
  never-10 cs inv (take k i) h = take-never cs inv k (slice_get (after rule n cs).sent i) i refl h
  never-10 cs inv (elect k) h = omega arith
  never-10 cs inv idle h = omega arith
