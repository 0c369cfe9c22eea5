-- Take keeps the invariant: the message's log is a beginning of the order, and its ballots are own paths that their offices had. Assumes nothing.
use mathlib.Core.Path.{◌≡◌, refl, sym, ap, subst, ◌∙◌}
use mathlib.Core.List.{List, [], ◌++◌}
use Rattle.std.specs.Prelude.{Option, None, Some}
use mathlib.Core.Logic.{◌⊎◌, inl, inr}
use Prim.Native.Nat.{ℕ}
use lib.ListN.{get_or}
use Rattle.std.specs.Prelude.{slice_get}
use Rattle.protocol.specs.Beginning.{◌⊑◌, ◌⊏◌, extends}
use Rattle.protocol.specs.Vote.{Rule}
use Rattle.protocol.specs.Office.{Office, Message, tail, path}
use Rattle.protocol.specs.Take.{rebase, catch_up, adopting, offers, with_take}
use Rattle.protocol.proofs.World.{Call, taking}
use Rattle.lists.proofs.Tests.{if-cases}
use Rattle.protocol_laws.proofs.Beginning.{⊑_refl, ⊑_trans, ⊏-⊑, ⊑-⊏-trans, ⊑-comparable, extends-true, extends-false}
use Rattle.one_order.proofs.Lawful.{Lawful}
use Rattle.protocol_laws.proofs.Office.{Offered, SetCases, set_cases, rebase-path, adopting-path}
use Rattle.one_order.proofs.History.{before, past-refl, after, office_at, log_at}
use Rattle.one_order.proofs.Steady.{past-moves}
use Rattle.one_order.proofs.Known.{Sent, Snapshot, BallotsKnown}
use Rattle.one_order.proofs.Issued.{EachIssued, issued-later, each-issued-wider}
use Rattle.one_order.proofs.Settled.{order-issued, ballot-issued}
use Rattle.one_order.proofs.Invariant.{Invariant, Left, NextOffice, same_left}
use Rattle.one_order.proofs.Passing.{Passing, now-passing, kept-passing}

module _ (rule : Rule) (n : ℕ) (law : Lawful rule) where
  -- step 1
  catch_up-passing : (cs : List Call) (q : List ℕ) (k : ℕ) (o : Office) (l : List ℕ) → l ⊑ q → EachIssued rule n cs q q → Passing rule n law cs q k o
      → Passing rule n law cs q k (catch_up l o) × (l ⊑ (catch_up l o).log)
  unfolding catch_up rebase
  catch_up-passing cs q k o l h pr m =
      if-cases (λ r. Passing rule n law cs q k r × (l ⊑ r.log)) (extends l o.log) (rebase l o) o
      (λ e. let low : o.log ⊑ l = ⊏-⊑ o.log l (extends-true l o.log e) in
      (kept-passing rule n law cs q q k o (rebase l o) low (λ j. rebase-path l o j low) h pr m, ⊑_refl l))
      (λ e. (m, le (⊑-comparable l o.log q h m.settled) (extends-false l o.log e)))
    where
      le : (l ⊑ o.log) ⊎ (o.log ⊏ l) → (o.log ⊏ l → ⊥) → l ⊑ o.log
      le (inl a) f = a
      le (inr a) f = absurd (f a)

  -- which path a message offers for office j's ballot
  abbrev Which : ℕ → Message → ℕ → Type 0
  Which k m j = SetCases m.state.tails k (tail m.state m.sender) [] j

  which : (k : ℕ) (m : Message) (j : ℕ) → Which k m j
  which k m j = set_cases m.state.tails k (tail m.state m.sender) [] j

  -- every entry of the message's paths was issued, under a log within the message's
  abbrev PathsIssued : List Call → Message → Type 0
  PathsIssued cs m = (j : ℕ) → EachIssued rule n cs m.state.log (path m.state j)

  -- Known, steps 2 and 3: an adopted ballot is one of the message's
  adopting-known : (cs : List Call) (q : List ℕ) (k : ℕ) (o : Office) (m : Message) → Passing rule n law cs q k o → m.state.log ⊑ o.log → BallotsKnown rule n cs m.state
      → (j : ℕ) → (j ≡ k → ⊥) → o.log ⊏ path (adopting m.state.log (offers k m) o) j → Snapshot rule n cs j o.log (path (adopting m.state.log (offers k m) o) j)
  adopting-known cs q k o m mid le mb j d x = back (adopting-path l (offers k m) o j) (which k m j)
    where
      l : List ℕ
      l = m.state.log

      o' : Office
      o' = adopting l (offers k m) o

      back : Offered (l ++ get_or (offers k m) j []) (path o j) (path o' j) → Which k m j → Snapshot rule n cs j o.log (path o' j)
      back (inl e) z = rw e (mid.known j (rw e at x))
      back (inr e) (inr z) = absurd (d z.0)
      back (inr e) (inl z) =
          let same : path o' j ≡ path m.state j = e.1 ∙ ap (λ (t : List ℕ). l ++ t) z in
          let s = mb j (⊑-⊏-trans l o.log (path m.state j) le (rw same at x)) in
          record { moment = s.moment; past = s.past; within = ⊑_trans (log_at rule n j s.moment) l o.log s.within le; own = s.own ∙ sym same }

  -- Issued, step 2: an adopted own path is the sender's
  adopting-issued : (cs : List Call) (q : List ℕ) (k : ℕ) (o : Office) (m : Message) → Passing rule n law cs q k o → m.state.log ⊑ o.log → PathsIssued cs m
      → EachIssued rule n cs o.log (path (adopting m.state.log (offers k m) o) k)
  adopting-issued cs q k o m mid le mp = own (adopting-path l (offers k m) o k) (which k m k)
    where
      l : List ℕ
      l = m.state.log

      own : Offered (l ++ get_or (offers k m) k []) (path o k) (path (adopting l (offers k m) o) k) → Which k m k → EachIssued rule n cs o.log (path (adopting l (offers k m) o) k)
      own (inl e) z = rw e mid.issued
      own (inr e) (inl z) = rw (e.1 ∙ ap (λ (t : List ℕ). l ++ t) z) (each-issued-wider rule n cs l o.log (path m.state k) le (mp k))
      own (inr e) (inr z) = rw (e.1 ∙ ap (λ (t : List ℕ). l ++ t) z.2) (each-issued-wider rule n cs l o.log (path m.state m.sender) le (mp m.sender))

  adopting-left : (c : Call) (cs : List Call) (q : List ℕ) (k : ℕ) (o : Office) (m : Message) → Passing rule n law cs q k o → m.state.log ⊑ o.log
      → BallotsKnown rule n cs m.state → PathsIssued cs m → Left rule n law c cs q k (adopting m.state.log (offers k m) o)
  adopting-left c cs q k o m mid le mb mp = record {
    settled = mid.settled;
    known = adopting-known cs q k o m mid le mb;
    issued = λ p e i. issued-later rule n (before (past-refl cs)) (adopting-issued cs q k o m mid le mp p e i);
  }

  -- what is known of a sent message
  pub record KnownMessage (cs : List Call) (inv : Invariant rule n law cs) (m : Message) : Type 0 where
    pub settled : m.state.log ⊑ inv.order
    pub known : BallotsKnown rule n cs m.state
    pub issued : PathsIssued cs m

  pub known-message : (cs : List Call) (inv : Invariant rule n law cs) (i : ℕ) (m : Message) → slice_get (after rule n cs).sent i ≡ Some m → KnownMessage cs inv m
  known-message cs inv i m e = record {
    settled = top;
    known = back;
    issued = ballot-issued rule n law cs inv.order m.state (order-issued rule n law cs inv.order inv.elected inv.issued) top back inv.issued;
  }
    where
      s : Sent rule n cs m
      s = inv.sent i m e

      top : m.state.log ⊑ inv.order
      top = subst (λ (o : Office). o.log ⊑ inv.order) s.2
          (⊑_trans (log_at rule n m.sender s.0) (log_at rule n m.sender cs) inv.order (past-moves rule n s.1 m.sender).0 (inv.logs m.sender))

      back : BallotsKnown rule n cs m.state
      back = subst (λ (o : Office). BallotsKnown rule n cs o) s.2 (inv.known s.0 s.1 m.sender)

  take-change : (c : Call) (cs : List Call) (inv : Invariant rule n law cs) (k : ℕ) (m : Message) → KnownMessage cs inv m
      → NextOffice rule n law c cs inv.order k (with_take k m (office_at rule n k cs))
  unfolding with_take
  take-change c cs inv k m kn = record {
    order = inv.order;
    grows = ⊑_refl inv.order;
    elected = inv.elected;
    longest = inl refl;
    left = adopting-left c cs inv.order k caught m up.0 up.1 kn.known kn.issued;
  }
    where
      -- the office behind step 1
      caught : Office
      caught = catch_up m.state.log (office_at rule n k cs)

      up : Passing rule n law cs inv.order k caught × (m.state.log ⊑ caught.log)
      up = catch_up-passing cs inv.order k (office_at rule n k cs) m.state.log kn.settled
          (order-issued rule n law cs inv.order inv.elected inv.issued) (now-passing rule n law cs inv k)

  pub taking-change : (c : Call) (cs : List Call) (inv : Invariant rule n law cs) (k i : ℕ) (m : Option Message) → slice_get (after rule n cs).sent i ≡ m
      → NextOffice rule n law c cs inv.order k (taking k m (office_at rule n k cs))
  taking-change c cs inv k i None e = record {
    order = inv.order;
    grows = ⊑_refl inv.order;
    elected = inv.elected;
    longest = inl refl;
    left = same_left rule n law c cs inv inv.order (⊑_refl inv.order) k;
  }
  taking-change c cs inv k i (Some m) e = take-change c cs inv k m (known-message cs inv i m e)
