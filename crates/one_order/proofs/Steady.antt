-- Steady: of two moments of one office, the later log begins with the earlier one, and an own path of the earlier moment that still extends the
-- later log is a beginning of the later own path. A path that is still open was never abandoned, so an office votes once at each place.
-- It holds of every call from every state. Assumes nothing.
use mathlib.Core.Path.{◌≡◌, sym, subst}
use mathlib.Core.List.{List, [], ◌∷◌, ◌++◌}
use mathlib.Core.Logic.{◌⊎◌, inl, inr}
use Prim.Native.Nat.{ℕ}
use Rattle.protocol.specs.Beginning.{◌⊑◌}
use Rattle.protocol.specs.Vote.{Rule}
use Rattle.protocol.specs.Office.{path}
use Rattle.protocol.proofs.World.{World, Call, at, step}
use Rattle.protocol_laws.proofs.Beginning.{⊑_trans, ⊑-⊏-trans, snoc-⊏, snoc-same}
use Rattle.protocol_laws.proofs.Office.{Moves, moves-refl, moves-trans, OfficeMoves, issue-moves, take-moves, elect-moves}
use Rattle.one_order.proofs.OneCall.{step-relates}
use Rattle.one_order.proofs.History.{Past, now, before, past-trans, past-comparable, after, log_at, own_at}

-- ── one call ──
pub step-moves : (rule : Rule) (w : World) (c : Call) (j : ℕ) → OfficeMoves j (at w j) (at (step rule w c) j)
step-moves rule w c j = step-relates rule (OfficeMoves j) (record {
  alone = λ o. moves-refl o.log (path o j);
  issued = λ k e o. issue-moves k e o j;
  taken = λ k m o. take-moves k m o j;
  elected = λ o. elect-moves rule o j;
}) w c j

-- ── all calls ──
module _ (rule : Rule) (n : ℕ) where
  call-moves : (c : Call) (cs : List Call) (k : ℕ) → Moves (log_at rule n k cs) (own_at rule n k cs) (log_at rule n k (c ∷ cs)) (own_at rule n k (c ∷ cs))
  unfolding after
  call-moves c cs k = step-moves rule (after rule n cs) c k

  pub past-moves : {h g : List Call} → Past h g → (k : ℕ) → Moves (log_at rule n k h) (own_at rule n k h) (log_at rule n k g) (own_at rule n k g)
  past-moves {h} (now e) k = subst (λ (g : List Call). Moves (log_at rule n k h) (own_at rule n k h) (log_at rule n k g) (own_at rule n k g)) e (moves-refl (log_at rule n k h) (own_at rule n k h))
  past-moves {h} (before {c} {g} p) k =
      moves-trans (log_at rule n k h) (own_at rule n k h) (log_at rule n k g) (own_at rule n k g) (log_at rule n k (c ∷ g)) (own_at rule n k (c ∷ g))
      (past-moves p k) (call-moves c g k)

  -- office k has voted for e at p
  pub record Voted (cs : List Call) (k : ℕ) (p : List ℕ) (e : ℕ) : Type 0 where
    pub moment : List Call
    pub past : Past moment cs
    pub within : log_at rule n k moment ⊑ p
    pub for : (p ++ (e ∷ [])) ⊑ own_at rule n k moment

  -- an office votes once at each place
  pub voted-unique : (cs : List Call) (k : ℕ) (p : List ℕ) (e f : ℕ) → Voted cs k p e → Voted cs k p f → e ≡ f
  voted-unique cs k p e f a b = go (past-comparable a.past b.past)
    where
      later : (e f : ℕ) (a : Voted cs k p e) (b : Voted cs k p f) → Past a.moment b.moment → e ≡ f
      later e f a b h =
          let o₁ : List ℕ = own_at rule n k a.moment in
          let o₂ : List ℕ = own_at rule n k b.moment in
          let l : List ℕ = log_at rule n k b.moment in
          let grown : o₁ ⊑ o₂ = (past-moves h k).1 (⊑-⊏-trans l p o₁ b.within (snoc-⊏ p o₁ e a.for)) in
          snoc-same p o₂ e f (⊑_trans (p ++ (e ∷ [])) o₁ o₂ a.for grown) b.for

      go : Past a.moment b.moment ⊎ Past b.moment a.moment → e ≡ f
      go (inl h) = later e f a b h
      go (inr h) = sym (later f e b a h)

  pub voted-later : {h cs : List Call} {k : ℕ} {p : List ℕ} {e : ℕ} → Past h cs → Voted h k p e → Voted cs k p e
  voted-later p s = record { moment = s.moment; past = past-trans s.past p; within = s.within; for = s.for }
