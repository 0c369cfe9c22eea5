-- Inside a call an office passes through states that the invariant allows: its log grows, and the paths that still extend it stay.
-- Assumes nothing.
use mathlib.Core.Path.{sym, subst, ◌∙◌}
use mathlib.Core.List.{List}
use mathlib.Core.Logic.{inl, inr}
use Prim.Native.Nat.{ℕ}
use Rattle.protocol.specs.Beginning.{◌⊑◌, ◌⊏◌}
use Rattle.protocol.specs.Vote.{Rule}
use Rattle.protocol.specs.Office.{Office, path}
use Rattle.protocol.proofs.World.{Call}
use Rattle.protocol_laws.proofs.Beginning.{⊑_trans, ⊑-⊏-trans, ⊏-irrefl}
use Rattle.one_order.proofs.Lawful.{Lawful}
use Rattle.protocol_laws.proofs.Office.{PathUnder}
use Rattle.one_order.proofs.History.{before, past-refl, office_at, log_at}
use Rattle.one_order.proofs.Known.{Snapshot, BallotsKnown}
use Rattle.one_order.proofs.Issued.{EachIssued, issued-later, each-issued-wider, each-issued-self}
use Rattle.one_order.proofs.Invariant.{Invariant, Left}

module _ (rule : Rule) (n : ℕ) (law : Lawful rule) where
  -- a state that office k may pass through, under the order q
  pub record Passing (cs : List Call) (q : List ℕ) (k : ℕ) (o : Office) : Type 0 where
    pub settled : o.log ⊑ q
    pub known : BallotsKnown rule n cs o
    pub issued : EachIssued rule n cs o.log (path o k)

  pub now-passing : (cs : List Call) (inv : Invariant rule n law cs) (k : ℕ) → Passing cs inv.order k (office_at rule n k cs)
  now-passing cs inv k = record { settled = inv.logs k; known = inv.known cs (past-refl cs) k; issued = inv.issued cs (past-refl cs) k }

  pub passing-left : (c : Call) (cs : List Call) (q : List ℕ) (k : ℕ) (o : Office) → Passing cs q k o → Left rule n law c cs q k o
  passing-left c cs q k o m = record { settled = m.settled; known = λ j _ x. m.known j x; issued = λ p e i. issued-later rule n (before (past-refl cs)) (m.issued p e i) }

  -- the log grows, and the paths that extend it stay
  pub kept-passing : (cs : List Call) (q q' : List ℕ) (k : ℕ) (o o' : Office)
      → o.log ⊑ o'.log → ((j : ℕ) → PathUnder o'.log (path o j) (path o' j)) → o'.log ⊑ q'
      → EachIssued rule n cs q' q' → Passing cs q k o → Passing cs q' k o'
  kept-passing cs q q' k o o' low kept top pr m = record { settled = top; known = λ j x. back j x (kept j); issued = own (kept k) }
    where
      back : (j : ℕ) → o'.log ⊏ path o' j → PathUnder o'.log (path o j) (path o' j) → Snapshot rule n cs j o'.log (path o' j)
      back j x (inl e) =
          let s = m.known j (⊑-⊏-trans o.log o'.log (path o j) low (rw e at x)) in
          record { moment = s.moment; past = s.past; within = ⊑_trans (log_at rule n j s.moment) o.log o'.log s.within low; own = s.own ∙ sym e }
      back j x (inr e) = absurd (⊏-irrefl o'.log (subst (λ (z : List ℕ). o'.log ⊏ z) e.0 x))

      own : PathUnder o'.log (path o k) (path o' k) → EachIssued rule n cs o'.log (path o' k)
      own (inl e) = rw e (each-issued-wider rule n cs o.log o'.log (path o k) low m.issued)
      own (inr e) = subst (λ (z : List ℕ). EachIssued rule n cs o'.log z) (sym e.0) (each-issued-self rule n cs q' o'.log q' top pr)
