-- Counts decide beginnings in any office of the protocol's world: where two paths part, the office of an entry there has a later entry in the
-- other path too, so it would have voted for both; but an office votes once at each place. Assumes nothing.
use mathlib.Core.Path.{◌≡◌, refl, sym, ap, subst, ◌∙◌}
use mathlib.Core.List.{List, [], ◌∷◌, ◌++◌}
use mathlib.Core.Bool.{Bool, true, false, cond}
use mathlib.Core.Logic.{◌⊎◌, ◌↔◌, inl, inr}
use Prim.Native.Nat.{ℕ, ◌+◌, ◌≤◌, ◌<◌}
use native.Mathlib.Decide.{ℕ_discrete}
use native.Mathlib.Omega.{arith}
use lib.Dec.{eqb}
use lib.ListN.{length, drop}
use borrow.Author.Tests.{eqb-true, eq-eqb}
use Rattle.protocol.specs.Entry.{office_of}
use Rattle.protocol.specs.Beginning.{◌⊑◌, ◌⊏◌}
use Rattle.protocol.specs.Counts.{count_in}
use Rattle.protocol.specs.Vote.{Rule}
use Rattle.protocol.specs.Office.{Office, tail, path}
use Rattle.protocol.proofs.World.{Call}
use Rattle.protocol_laws.proofs.Beginning.{⊑_trans, ⊏-⊑, ⊑_refl, ⊑-cases, ⊑-comparable, ⊑-append, ⊑-rest, ⊏-next, snoc-⊏, snoc-same}
use Rattle.protocol_laws.proofs.Counts.{count-append}
use Rattle.one_order.proofs.Lawful.{Lawful}
use Rattle.one_order.proofs.History.{before, past-refl, past-trans, office_at, log_at}
use Rattle.one_order.proofs.Steady.{Voted, voted-unique}
use Rattle.one_order.proofs.Issued.{Issued, EachIssued}
use Rattle.one_order.proofs.Held.{issued-office, issued-voted, held-issued}
use Rattle.counts_decide.specs.CountsDecide.{counts_leq, Holds}

abbrev pub CountsDecide : ℕ → Office → Type 0
CountsDecide n o = (p q : List ℕ) → Holds o p → Holds o q → (p ⊑ q) ↔ counts_leq n p q

-- ── counts ──
count-own : (k x : ℕ) → office_of x ≡ k → count_in k (x ∷ []) ≡ 1
unfolding count_in
count-own k x e = rw (eq-eqb (office_of x) k e)

count-⊑ : (k : ℕ) (a b : List ℕ) → a ⊑ b → count_in k a ≤ count_in k b
count-⊑ k a b h = omega (arith, ap (count_in k) (⊑-rest a b h), count-append k a (drop (length a) b))

-- one more entry of office k, after p
pub record More (k : ℕ) (p q : List ℕ) : Type 0 where
  pub view : List ℕ
  pub entry : ℕ
  pub after : p ⊑ view
  pub has : (view ++ (entry ∷ [])) ⊑ q
  pub of : office_of entry ≡ k

more : (k : ℕ) (p q : List ℕ) → p ⊑ q → count_in k p < count_in k q → More k p q
unfolding count_in
more k [] [] h c = absurd (omega arith)
more k [] (y ∷ q) h c = go (eqb (office_of y) k) refl c (more k [] q tt)
  where
    go : (t : Bool) → eqb (office_of y) k ≡ t → 0 < cond t 1 0 + count_in k q → (0 < count_in k q → More k [] q) → More k [] (y ∷ q)
    go true d c ih = record { view = []; entry = y; after = tt; has = (refl, tt); of = eqb-true (office_of y) k d }
    go false d c ih = let r = ih (omega arith) in record { view = y ∷ r.view; entry = r.entry; after = tt; has = (refl, r.has); of = r.of }
more k (x ∷ p) [] h c = absurd h
more k (x ∷ p) (y ∷ q) h c =
    let r = more k p q h.1 (omega (arith, ap (λ (z : ℕ). count_in k (z ∷ [])) h.0)) in
    record { view = y ∷ r.view; entry = r.entry; after = (h.0, r.after); has = (refl, r.has); of = r.of }

-- the place where a leaves b
pub record Leaves (a b : List ℕ) : Type 0 where
  pub base : List ℕ
  pub entry : ℕ
  pub has : (base ++ (entry ∷ [])) ⊑ a
  pub within : base ⊑ b
  pub off : (base ++ (entry ∷ [])) ⊑ b → ⊥

leaves : (a b : List ℕ) → (a ⊑ b) ⊎ Leaves a b
leaves [] b = inl tt
leaves (x ∷ a) [] = inr (record { base = []; entry = x; has = (refl, tt); within = tt; off = λ h. h })
leaves (x ∷ a) (y ∷ b) = go (ℕ_discrete x y) (leaves a b)
  where
    go : Dec (x ≡ y) → (a ⊑ b) ⊎ Leaves a b → ((x ∷ a) ⊑ (y ∷ b)) ⊎ Leaves (x ∷ a) (y ∷ b)
    go (no d) r = inr (record { base = []; entry = x; has = (refl, tt); within = tt; off = λ h. d h.0 })
    go (yes d) (inl h) = inl (d, h)
    go (yes d) (inr h) = inr (record { base = x ∷ h.base; entry = h.entry; has = (refl, h.has); within = (d, h.within); off = λ z. h.off z.1 })

-- ── one office ──
module _ (rule : Rule) (n : ℕ) (most : n ≤ 8) where
  -- who issued g with p and more in view, or just p, under a log within p, has voted for what b has after p
  voted-there : (cs : List Call) (l p b v : List ℕ) (g : ℕ) → l ⊑ p → (v ++ (g ∷ [])) ⊑ b → (i : Issued rule n cs l v g) → (p ≡ v) ⊎ (p ⊏ v)
      → (f : ℕ) × ((p ++ (f ∷ [])) ⊑ b) × Voted rule n cs i.k p f
  voted-there cs l p b v g low has i (inl e) = (g, rw e has, rw e (issued-voted rule n cs l v g i))
  voted-there cs l p b v g low has i (inr d) =
      let x = ⊏-next p v d in (
        x.0,
        ⊑_trans (p ++ (x.0 ∷ [])) v b x.1 (⊏-⊑ v b (snoc-⊏ v b g has)),
        record { moment = i.moment; past = past-trans (before (past-refl i.moment)) i.call; within = ⊑_trans (log_at rule n i.k i.moment) l p i.heard low; for = rw i.view x.1 },
      )

  -- two paths a and b over one log
  never-leaves : (cs : List Call) (l a b : List ℕ) → EachIssued rule n cs l a → EachIssued rule n cs l b → l ⊑ a → l ⊑ b → counts_leq n a b → Leaves a b → ⊥
  never-leaves cs l a b ia ib la lb c v = v.off (subst (λ (z : ℕ). (p ++ (z ∷ [])) ⊑ b) (sym once) there.1)
    where
      p : List ℕ
      p = v.base

      e : ℕ
      e = v.entry

      i : Issued rule n cs l p e
      i = ia p e v.has

      k : ℕ
      k = i.k

      -- they share the log
      low : (l ⊑ p) ⊎ (p ⊏ l) → l ⊑ p
      low (inl h) = h
      low (inr h) =
          let x = ⊏-next p l h in
          let same : x.0 ≡ e = snoc-same p a x.0 e (⊑_trans (p ++ (x.0 ∷ [])) l a x.1 la) v.has in
          absurd (v.off (subst (λ (z : ℕ). (p ++ (z ∷ [])) ⊑ b) same (⊑_trans (p ++ (x.0 ∷ [])) l b x.1 lb)))

      g : More k p b
      g = more k p b v.within
          (omega (arith, count-append k p (e ∷ []), count-own k e (issued-office rule n most cs l p e i), count-⊑ k (p ++ (e ∷ [])) a v.has, c k i.known))

      j : Issued rule n cs l g.view g.entry
      j = ib g.view g.entry g.has

      there : (f : ℕ) × ((p ++ (f ∷ [])) ⊑ b) × Voted rule n cs j.k p f
      there = voted-there cs l p b g.view g.entry (low (⊑-comparable l p a la (⊏-⊑ p a (snoc-⊏ p a e v.has)))) g.has j (⊑-cases p g.view g.after)

      once : e ≡ there.0
      once = voted-unique rule n cs k p e there.0 (issued-voted rule n cs l p e i)
          (subst (λ (z : ℕ). Voted rule n cs z p there.0) (sym (issued-office rule n most cs l g.view g.entry j) ∙ g.of) there.2)

  by-counts : (cs : List Call) (l a b : List ℕ) → EachIssued rule n cs l a → EachIssued rule n cs l b → l ⊑ a → l ⊑ b → counts_leq n a b → a ⊑ b
  by-counts cs l a b ia ib la lb c = go (leaves a b)
    where
      go : (a ⊑ b) ⊎ Leaves a b → a ⊑ b
      go (inl h) = h
      go (inr v) = absurd (never-leaves cs l a b ia ib la lb c v)

  -- in any office, after every list of calls, the newest first
  pub counts-decide : Lawful rule → 0 < n → (cs : List Call) (k : ℕ) → CountsDecide n (office_at rule n k cs)
  counts-decide law pos cs k p q x y =
      (λ h office _. count-⊑ office p q h, by-counts cs o.log p q (held x).0 (held y).0 (held x).1 (held y).1)
    where
      o : Office
      o = office_at rule n k cs

      issued : (j : ℕ) → EachIssued rule n cs o.log (path o j)
      issued = held-issued rule n law pos cs k

      held : {p : List ℕ} → Holds o p → EachIssued rule n cs o.log p × (o.log ⊑ p)
      held (inl e) = rw e (λ p x i. issued 0 p x (⊑_trans (p ++ (x ∷ [])) o.log (path o 0) i (⊑-append o.log (tail o 0))), ⊑_refl o.log)
      held (inr e) = rw e.1 (issued e.0, ⊑-append o.log (tail o e.0))
