-- The invariant of the world, and what a call must leave for it to hold afterwards. Assumes nothing.
use mathlib.Core.Path.{◌≡◌, refl, sym, ap, subst, ◌∙◌}
use mathlib.Core.List.{List, [], ◌∷◌}
use mathlib.Core.Logic.{◌⊎◌, inl, inr}
use Rattle.std.specs.Prelude.{Some}
use Rattle.std.proofs.lemmas.Option.{none-some}
use Prim.Native.Nat.{ℕ, ◌<◌}
use native.Mathlib.Decide.{ℕ_discrete}
use native.Mathlib.Omega.{arith}
use Rattle.std.specs.Prelude.{slice_get}
use lib.Seq.{get_or-set_same, get_or-set_other}
use Rattle.protocol.specs.Beginning.{◌⊑◌, ◌⊏◌}
use Rattle.protocol.specs.Vote.{Rule}
use Rattle.protocol.specs.Office.{Office, Message, fresh, path}
use Rattle.protocol.proofs.World.{World, Call, at, put}
use Rattle.protocol_laws.proofs.Beginning.{⊑_refl, ⊑_trans, ⊑-antisym, ⊏-nil, snoc-⊏}
use Rattle.one_order.proofs.Lawful.{Lawful}
use Rattle.protocol_laws.proofs.Office.{fresh-path}
use Rattle.one_order.proofs.History.{Past, before, past-refl, past-trans, past_cases, past-nil, after, after-length, office_at, log_at, own_at, start}
use Rattle.one_order.proofs.Steady.{past-moves}
use Rattle.one_order.proofs.Known.{Sent, Snapshot, BallotsKnown, snapshot-later}
use Rattle.one_order.proofs.Issued.{OwnIssued, EachIssued, issued-later, empty-issued}
use Rattle.one_order.proofs.Settled.{EachElected, elected-later}

module _ (rule : Rule) (n : ℕ) (law : Lawful rule) where
  -- after the calls cs, newest first; Steady holds of every call from every state, and needs no part here
  pub record Invariant (cs : List Call) : Type 0 where
    -- Settled: the order's entries were elected, it is some office's log, and every log is a beginning of it
    pub order : List ℕ
    pub elected : EachElected rule n law cs order
    pub longest : (k : ℕ) × (k < n) × (log_at rule n k cs ≡ order)
    pub logs : (k : ℕ) → log_at rule n k cs ⊑ order
    -- Known: the ballots of every office at every moment, and every message
    pub known : (h : List Call) → Past h cs → (k : ℕ) → BallotsKnown rule n cs (office_at rule n k h)
    pub sent : (i : ℕ) (m : Message) → slice_get (after rule n cs).sent i ≡ Some m → Sent rule n cs m
    -- Issued: every own path of every moment
    pub issued : OwnIssued rule n cs

  -- ── one office changes ──
  -- office k may be left by call c as o
  pub record Left (c : Call) (cs : List Call) (q : List ℕ) (k : ℕ) (o : Office) : Type 0 where
    pub settled : o.log ⊑ q
    pub known : (j : ℕ) → (j ≡ k → ⊥) → o.log ⊏ path o j → Snapshot rule n cs j o.log (path o j)
    pub issued : EachIssued rule n (c ∷ cs) o.log (path o k)

  -- call c may leave the world as w
  pub record NextWorld (c : Call) (cs : List Call) (q : List ℕ) (w : World) : Type 0 where
    pub order : List ℕ
    pub grows : q ⊑ order
    pub elected : EachElected rule n law cs order
    pub longest : (order ≡ q) ⊎ ((k : ℕ) × (k < n) × ((at w k).log ≡ order))
    pub left : (k : ℕ) → Left c cs order k (at w k)
    pub sent : (i : ℕ) (m : Message) → slice_get w.sent i ≡ Some m → Sent rule n cs m

  pub advance : (c : Call) (cs : List Call) (inv : Invariant cs) → NextWorld c cs inv.order (after rule n (c ∷ cs)) → Invariant (c ∷ cs)
  advance c cs inv nx = record {
    order = nx.order;
    elected = λ p e i. elected-later rule n law one (nx.elected p e i);
    longest = long nx.longest;
    logs = λ k. (nx.left k).settled;
    known = λ h p k. knows h (past_cases p) k;
    issued = λ h p k. issues h (past_cases p) k;
    sent = λ i m e. let r = nx.sent i m e in (r.0, past-trans r.1 one, r.2);
  }
    where
      one : Past cs (c ∷ cs)
      one = before (past-refl cs)

      long : (nx.order ≡ inv.order) ⊎ ((k : ℕ) × (k < n) × (log_at rule n k (c ∷ cs) ≡ nx.order)) → (k : ℕ) × (k < n) × (log_at rule n k (c ∷ cs) ≡ nx.order)
      long (inr h) = h
      long (inl e) =
          let k : ℕ = inv.longest.0 in (
            k,
            inv.longest.1,
            ⊑-antisym (log_at rule n k (c ∷ cs)) nx.order (nx.left k).settled
                (rw (e, ← inv.longest.2) (past-moves rule n one k).0),
          )

      new-known : (k j : ℕ) → Dec (j ≡ k) → log_at rule n k (c ∷ cs) ⊏ path (office_at rule n k (c ∷ cs)) j → Snapshot rule n (c ∷ cs) j (log_at rule n k (c ∷ cs)) (path (office_at rule n k (c ∷ cs)) j)
      new-known k j (no d) x = snapshot-later rule n one ((nx.left k).known j d x)
      new-known k j (yes d) x = rw d (record { moment = c ∷ cs; past = past-refl (c ∷ cs); within = ⊑_refl (log_at rule n k (c ∷ cs)); own = refl })

      knows : (h : List Call) → (c ∷ cs ≡ h) ⊎ Past h cs → (k : ℕ) → BallotsKnown rule n (c ∷ cs) (office_at rule n k h)
      knows h (inl e) k = subst (λ (g : List Call). BallotsKnown rule n (c ∷ cs) (office_at rule n k g)) e (λ j. new-known k j (ℕ_discrete j k))
      knows h (inr p) k = λ j x. snapshot-later rule n one (inv.known h p k j x)

      issues : (h : List Call) → (c ∷ cs ≡ h) ⊎ Past h cs → (k : ℕ) → EachIssued rule n (c ∷ cs) (log_at rule n k h) (own_at rule n k h)
      issues h (inl e) k = subst (λ (g : List Call). EachIssued rule n (c ∷ cs) (log_at rule n k g) (own_at rule n k g)) e (nx.left k).issued
      issues h (inr p) k = λ q e i. issued-later rule n one (inv.issued h p k q e i)

  -- an office that the call leaves alone
  pub same_left : (c : Call) (cs : List Call) (inv : Invariant cs) (q : List ℕ) → inv.order ⊑ q → (k : ℕ) → Left c cs q k (office_at rule n k cs)
  same_left c cs inv q h k = record {
    settled = ⊑_trans (log_at rule n k cs) inv.order q (inv.logs k) h;
    known = λ j _ x. inv.known cs (past-refl cs) k j x;
    issued = λ p e i. issued-later rule n (before (past-refl cs)) (inv.issued cs (past-refl cs) k p e i);
  }

  pub same_next : (c : Call) (cs : List Call) (inv : Invariant cs) → NextWorld c cs inv.order (after rule n cs)
  same_next c cs inv = record {
    order = inv.order;
    grows = ⊑_refl inv.order;
    elected = inv.elected;
    longest = inl refl;
    left = same_left c cs inv inv.order (⊑_refl inv.order);
    sent = inv.sent;
  }

  -- call c may leave its office k as o
  pub record NextOffice (c : Call) (cs : List Call) (q : List ℕ) (k : ℕ) (o : Office) : Type 0 where
    pub order : List ℕ
    pub grows : q ⊑ order
    pub elected : EachElected rule n law cs order
    pub longest : (order ≡ q) ⊎ (o.log ≡ order)
    pub left : Left c cs order k o

  pub put_next : (c : Call) (cs : List Call) (inv : Invariant cs) (k : ℕ) (o : Office) → k < n → NextOffice c cs inv.order k o → NextWorld c cs inv.order (put (after rule n cs) k o)
  put_next c cs inv k o known ch = record {
    order = ch.order;
    grows = ch.grows;
    elected = ch.elected;
    longest = long ch.longest;
    left = λ j. each j (ℕ_discrete j k);
    sent = inv.sent;
  }
    where
      w : World
      w = after rule n cs

      here : at (put w k o) k ≡ o
      here = get_or-set_same w.offices k o fresh (omega (arith, after-length rule n cs))

      long : (ch.order ≡ inv.order) ⊎ (o.log ≡ ch.order) → (ch.order ≡ inv.order) ⊎ ((j : ℕ) × (j < n) × ((at (put w k o) j).log ≡ ch.order))
      long (inl e) = inl e
      long (inr e) = inr (k, known, ap (λ (x : Office). x.log) here ∙ e)

      each : (j : ℕ) → Dec (j ≡ k) → Left c cs ch.order j (at (put w k o) j)
      each j (yes e) = rw (e, here) ch.left
      each j (no e) = rw (get_or-set_other w.offices k j o fresh e) (same_left c cs inv ch.order ch.grows j)

  pub invariant-start : 0 < n → Invariant []
  unfolding after
  invariant-start pos = record {
    order = [];
    elected = λ p e i. absurd (⊏-nil p (snoc-⊏ p [] e i));
    longest = (0, pos, ap (λ (o : Office). o.log) (sym (start rule n 0)));
    logs = λ k. subst (λ (o : Office). o.log ⊑ []) (start rule n k) tt;
    known = λ h p k. subst (λ (g : List Call). BallotsKnown rule n [] (office_at rule n k g)) (past-nil p)
        (subst (λ (o : Office). BallotsKnown rule n [] o) (start rule n k) none-known);
    issued = λ h p k. subst (λ (g : List Call). EachIssued rule n [] (log_at rule n k g) (own_at rule n k g)) (past-nil p) (none-issued k);
    sent = λ i m e. absurd (none-some m e);
  }
    where
      none-issued : (k : ℕ) → EachIssued rule n [] (log_at rule n k []) (own_at rule n k [])
      none-issued k = subst (λ (o : Office). EachIssued rule n [] o.log (path o k)) (start rule n k) (rw (fresh-path k) (empty-issued rule n))

      none-known : BallotsKnown rule n [] fresh
      none-known j x = absurd (⊏-nil [] (subst (λ (z : List ℕ). [] ⊏ z) (fresh-path j) x))
