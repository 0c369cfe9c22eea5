-- Known: every ballot that an office or a message has is an own path that the ballot's office had at some moment, when its log was a beginning of
-- this one's. Assumes nothing.
use mathlib.Core.Path.{◌≡◌, sym, subst}
use mathlib.Core.List.{List}
use mathlib.Core.Logic.{◌⊎◌, inl, inr}
use Prim.Native.Nat.{ℕ}
use Rattle.protocol.specs.Beginning.{◌⊑◌, ◌⊏◌}
use Rattle.protocol.specs.Vote.{Rule}
use Rattle.protocol.specs.Office.{Office, Message, path}
use Rattle.protocol.proofs.World.{Call}
use Rattle.protocol_laws.proofs.Beginning.{⊑-⊏-trans}
use Rattle.one_order.proofs.History.{Past, past-trans, past-comparable, office_at, log_at, own_at}
use Rattle.one_order.proofs.Steady.{past-moves}

module _ (rule : Rule) (n : ℕ) where
  -- at some moment up to cs, office k had a log within l, and the own path q
  pub record Snapshot (cs : List Call) (k : ℕ) (l q : List ℕ) : Type 0 where
    pub moment : List Call
    pub past : Past moment cs
    pub within : log_at rule n k moment ⊑ l
    pub own : own_at rule n k moment ≡ q

  -- every ballot of o is the own path that its office had at some moment, with a log within o's
  abbrev pub BallotsKnown : List Call → Office → Type 0
  BallotsKnown cs o = (j : ℕ) → o.log ⊏ path o j → Snapshot cs j o.log (path o j)

  -- message m holds the state that its sender had at some moment
  abbrev pub Sent : List Call → Message → Type 0
  Sent cs m = (h : List Call) × Past h cs × (office_at rule n m.sender h ≡ m.state)

  pub snapshot-later : {h cs : List Call} {k : ℕ} {l q : List ℕ} → Past h cs → Snapshot h k l q → Snapshot cs k l q
  snapshot-later p s = record { moment = s.moment; past = past-trans s.past p; within = s.within; own = s.own }

  -- two paths of one office that extend a log are beginnings of one another, whoever has them
  pub snapshots-comparable : {cs : List Call} {k : ℕ} {l p q : List ℕ} → Snapshot cs k l p → Snapshot cs k l q → l ⊏ p → l ⊏ q → (p ⊑ q) ⊎ (q ⊑ p)
  snapshots-comparable {cs} {k} {l} {p} {q} a b hp hq = go (past-comparable a.past b.past)
    where
      later : (p q : List ℕ) (a : Snapshot cs k l p) (b : Snapshot cs k l q) → l ⊏ p → Past a.moment b.moment → p ⊑ q
      later p q a b h m =
          let log : List ℕ = log_at rule n k b.moment in
          let own : List ℕ = own_at rule n k a.moment in
          subst (λ (z : List ℕ). z ⊑ q) a.own (subst (λ (z : List ℕ). own ⊑ z) b.own
          ((past-moves rule n m k).1 (⊑-⊏-trans log l own b.within (subst (λ (z : List ℕ). l ⊏ z) (sym a.own) h))))

      go : Past a.moment b.moment ⊎ Past b.moment a.moment → (p ⊑ q) ⊎ (q ⊑ p)
      go (inl m) = inl (later p q a b hp m)
      go (inr m) = inr (later q p b a hq m)
