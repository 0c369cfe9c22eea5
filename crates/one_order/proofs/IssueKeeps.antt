-- Issue keeps the invariant: its office's own path grows by the entry, and the call itself is that entry's issue. Assumes nothing.
use mathlib.Core.Path.{◌≡◌, refl, sym, subst}
use mathlib.Core.List.{List, [], ◌∷◌, ◌++◌}
use mathlib.Core.Logic.{◌⊎◌, inl, inr}
use Prim.Native.Nat.{ℕ, ◌<◌}
use Rattle.protocol.specs.Entry.{value}
use Rattle.protocol.specs.Beginning.{◌⊑◌, ◌⊏◌}
use Rattle.protocol.specs.Vote.{Rule}
use Rattle.protocol.specs.Office.{Office, tail, path}
use Rattle.protocol.specs.Issue.{with_issue}
use Rattle.protocol.proofs.World.{Call, issue, refusal}
use Rattle.protocol_laws.proofs.Beginning.{⊑_refl, ⊑-append, snoc-cases}
use Rattle.one_order.proofs.Lawful.{Lawful}
use Rattle.protocol_laws.proofs.Office.{issue-path}
use Rattle.one_order.proofs.History.{before, past-refl, after, office_at, issue-office}
use Rattle.one_order.proofs.Steady.{Voted}
use Rattle.one_order.proofs.Known.{Snapshot}
use Rattle.one_order.proofs.Issued.{Issued, EachIssued, issued-later}
use Rattle.one_order.proofs.Invariant.{Invariant, NextOffice}

module _ (rule : Rule) (n : ℕ) (law : Lawful rule) where
  -- Known: the other offices' ballots stay
  issue-known : (cs : List Call) (inv : Invariant rule n law cs) (k e j : ℕ) → (j ≡ k → ⊥) → (office_at rule n k cs).log ⊏ path (with_issue k e (office_at rule n k cs)) j
      → Snapshot rule n cs j (office_at rule n k cs).log (path (with_issue k e (office_at rule n k cs)) j)
  issue-known cs inv k e j d x = go (issue-path k e o j)
    where
      o : Office
      o = office_at rule n k cs

      go : (path (with_issue k e o) j ≡ path o j) ⊎ ((j ≡ k) × (path (with_issue k e o) j ≡ path o j ++ (e ∷ []))) → Snapshot rule n cs j o.log (path (with_issue k e o) j)
      go (inl q) = rw q (inv.known cs (past-refl cs) k j (rw q at x))
      go (inr q) = absurd (d q.0)

  -- Issued: this very call
  issue-issued : (cs : List Call) (inv : Invariant rule n law cs) (k line code : ℕ) → refusal (after rule n cs) (issue k line code) ≡ 0 → k < n
      → EachIssued rule n (issue k line code ∷ cs) (office_at rule n k cs).log (path (with_issue k (value k line code) (office_at rule n k cs)) k)
  unfolding with_issue
  issue-issued cs inv k line code r b = own (issue-path k e o k)
    where
      e : ℕ
      e = value k line code

      c : Call
      c = issue k line code

      o : Office
      o = office_at rule n k cs

      o' : Office
      o' = with_issue k e o

      old : EachIssued rule n (c ∷ cs) o.log (path o k)
      old p x i = issued-later rule n (before (past-refl cs)) (inv.issued cs (past-refl cs) k p x i)

      vote : path o' k ≡ path o k ++ (e ∷ []) → Voted rule n (c ∷ cs) k (path o k) e
      vote q = record {
        moment = c ∷ cs;
        past = past-refl (c ∷ cs);
        within = subst (λ (x : Office). x.log ⊑ path o k) (sym (issue-office rule n cs k line code r b)) (⊑-append o.log (tail o k));
        for = subst (λ (x : Office). (path o k ++ (e ∷ [])) ⊑ path x k) (sym (issue-office rule n cs k line code r b)) (rw q (⊑_refl (path o k ++ (e ∷ []))));
      }

      new : path o' k ≡ path o k ++ (e ∷ []) → (p : List ℕ) (x : ℕ) → ((p ++ (x ∷ [])) ⊑ path o k) ⊎ ((p ≡ path o k) × (x ≡ e)) → Issued rule n (c ∷ cs) o.log p x
      new q p x (inl i) = old p x i
      new q p x (inr i) = record {
        k = k;
        line = line;
        code = code;
        moment = cs;
        call = past-refl (c ∷ cs);
        known = b;
        done = r;
        entry = sym i.1;
        view = sym i.0;
        heard = ⊑_refl o.log;
        cast = rw (i.0, i.1) (vote q);
      }

      own : (path o' k ≡ path o k) ⊎ ((k ≡ k) × (path o' k ≡ path o k ++ (e ∷ []))) → EachIssued rule n (c ∷ cs) o.log (path o' k)
      own (inl q) = rw q old
      own (inr q) = rw q.1 (λ p x i. new q.1 p x (snoc-cases p (path o k) x e i))

  pub issue-change : (cs : List Call) (inv : Invariant rule n law cs) (k line code : ℕ) → refusal (after rule n cs) (issue k line code) ≡ 0 → k < n
      → NextOffice rule n law (issue k line code) cs inv.order k (with_issue k (value k line code) (office_at rule n k cs))
  unfolding with_issue
  issue-change cs inv k line code r b = record {
    order = inv.order;
    grows = ⊑_refl inv.order;
    elected = inv.elected;
    longest = inl refl;
    left = record {
      settled = inv.logs k;
      known = issue-known cs inv k (value k line code);
      issued = issue-issued cs inv k line code r b;
    };
  }
