-- Elect keeps the invariant: each step settles an elected entry, which the order has there already or gets at its end. Assumes nothing.
use mathlib.Core.Path.{◌≡◌, refl, sym, subst, ◌∙◌}
use mathlib.Core.List.{List, [], ◌∷◌, ◌++◌}
use mathlib.Core.Logic.{◌⊎◌, inl, inr}
use Prim.Native.Nat.{ℕ, zero, suc}
use Rattle.protocol.specs.Beginning.{◌⊑◌}
use Rattle.protocol.specs.Vote.{Rule}
use Rattle.protocol.specs.Office.{Office, votes}
use Rattle.protocol.specs.Elect.{settle, electing, with_elect}
use Rattle.protocol.proofs.World.{Call}
use Rattle.protocol_laws.proofs.Beginning.{⊑_refl, ⊑_trans, ⊑-antisym, ⊑-append}
use Rattle.one_order.proofs.Lawful.{Lawful}
use Rattle.protocol_laws.proofs.Office.{settle-path, next-cases}
use Rattle.one_order.proofs.History.{office_at}
use Rattle.one_order.proofs.Issued.{OwnIssued}
use Rattle.one_order.proofs.Settled.{EachElected, Extended, extend, rule-elects, order-issued}
use Rattle.one_order.proofs.Invariant.{Invariant, NextOffice}
use Rattle.one_order.proofs.Passing.{Passing, now-passing, passing-left, kept-passing}

module _ (rule : Rule) (n : ℕ) (law : Lawful rule) where
  -- steps that take office k from o to r, under the order q
  pub record Elects (cs : List Call) (q : List ℕ) (k : ℕ) (o r : Office) : Type 0 where
    pub order : List ℕ
    pub grows : q ⊑ order
    pub elected : EachElected rule n law cs order
    pub low : o.log ⊑ r.log
    pub same : (order ≡ q) ⊎ (r.log ≡ order)
    pub passing : Passing rule n law cs order k r

  no_more : (cs : List Call) (q : List ℕ) (k : ℕ) (o : Office) → EachElected rule n law cs q → Passing rule n law cs q k o → Elects cs q k o o
  no_more cs q k o ok m = record { order = q; grows = ⊑_refl q; elected = ok; low = ⊑_refl o.log; same = inl refl; passing = m }

  one_more : (cs : List Call) (q : List ℕ) (k : ℕ) (o : Office) (e : ℕ) (r : Office) → (x : Extended rule n law cs q o.log e) → Elects cs x.order k (settle e o) r → Elects cs q k o r
  unfolding settle
  one_more cs q k o e r x t = record {
    order = t.order;
    grows = ⊑_trans q x.order t.order x.grows t.grows;
    elected = t.elected;
    low = ⊑_trans o.log (o.log ++ (e ∷ [])) r.log (⊑-append o.log (e ∷ [])) t.low;
    same = go t.same x.same;
    passing = t.passing;
  }
    where
      go : (t.order ≡ x.order) ⊎ (r.log ≡ t.order) → (x.order ≡ q) ⊎ (o.log ++ (e ∷ []) ≡ x.order) → (t.order ≡ q) ⊎ (r.log ≡ t.order)
      go (inr a) b = inr a
      go (inl a) (inl b) = inl (a ∙ b)
      go (inl a) (inr b) = inr (⊑-antisym r.log t.order t.passing.settled (subst (λ (z : List ℕ). z ⊑ r.log) (b ∙ sym a) t.low))

  electing-passing : (cs : List Call) (k : ℕ) → OwnIssued rule n cs → (fuel : ℕ) (q : List ℕ) (o : Office)
      → EachElected rule n law cs q → Passing rule n law cs q k o → Elects cs q k o (electing rule fuel o)
  unfolding electing settle
  electing-passing cs k pr zero q o ok m = no_more cs q k o ok m
  electing-passing cs k pr (suc fuel) q o ok m =
      next-cases (λ r. Elects cs q k o r) (rule o.log (votes o)) o (λ e. electing rule fuel (settle e o))
      (no_more cs q k o ok m)
      (λ e w.
      let x = extend rule n law cs q o.log e ok m.settled (rule-elects rule n law cs o e m.known w) in
      one_more cs q k o e (electing rule fuel (settle e o)) x
      (electing-passing cs k pr fuel x.order (settle e o) x.elected
      (kept-passing rule n law cs q x.order k o (settle e o) (⊑-append o.log (e ∷ [])) (settle-path e o) x.has (order-issued rule n law cs x.order x.elected pr) m)))

  pub elect-change : (c : Call) (cs : List Call) (inv : Invariant rule n law cs) (k : ℕ) → NextOffice rule n law c cs inv.order k (with_elect rule (office_at rule n k cs))
  unfolding with_elect
  elect-change c cs inv k =
      let o : Office = office_at rule n k cs in
      let t = electing-passing cs k inv.issued _ inv.order o inv.elected (now-passing rule n law cs inv k) in
      record { order = t.order; grows = t.grows; elected = t.elected; longest = t.same; left = passing-left rule n law c cs t.order k _ t.passing }
