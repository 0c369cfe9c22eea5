-- Counts decide in any office of the world on records, of its log and paths with the entries that it has dropped, and so does what the archive's calls
-- answer there. Assumes nothing.
use mathlib.Core.Path.{◌≡◌, refl, sym, ap, ap₂, subst, ◌∙◌}
use mathlib.Core.List.{List, [], ◌++◌, append_assoc, append-nil}
use mathlib.Core.Logic.{◌⊎◌, ◌↔◌, inl, inr}
use Rattle.std.specs.Prelude.{Some}
use Prim.Native.Nat.{ℕ, zero, suc, ◌≤◌, ◌<◌}
use native.Mathlib.Decide.{dec_lt}
use native.Mathlib.Omega.{arith}
use Rattle.protocol.specs.Beginning.{◌⊑◌, ◌⊏◌}
use Rattle.protocol.specs.Counts.{no_counts, count_of}
use Rattle.protocol.specs.Office.{Office, tail}
use Rattle.protocol.specs.SettledRule.{by_settled}
use Rattle.protocol_laws.proofs.Beginning.{⊑_refl, ⊑-cases, ⊑-antisym, ⊏-⊑, ⊏-⊑-trans, ⊏-irrefl}
use Rattle.protocol_laws.proofs.Counts.{count-of, no-count, none-length}
use Rattle.one_order.proofs.Lawful.{settled-lawful}
use Rattle.protocol.proofs.World as P
use Rattle.kept.specs.declared.Kept.{Kept}
use Rattle.frame.specs.State.{held_by}
use Rattle.vectors.specs.Vectors.{vector_of}
use Rattle.versions.specs.Versions.{compared_to}
use Rattle.archive.specs.Claims.{EachLeq, FourAnswers, vector_at}
use Rattle.archive.specs.Writing.{write_of}
use Rattle.archive.proofs.Claims.{four-answers, read_back, version-path, whole-vector}
use Rattle.agreement.specs.World.{Replica, World, Call, replica_at, after}
use Rattle.agreement.specs.Demand.{Founded, says}
use Rattle.agreement.proofs.View.{SoundReplica, view, view-at}
use Rattle.agreement.proofs.Held.{few-offices}
use Rattle.agreement.proofs.Follows.{viewed}
use Rattle.agreement.proofs.Demand.{one-order}
use Rattle.counts_decide.specs.CountsDecide.{counts_leq, Holds, HeldAt, Tells, Lossless, whole_at, answer_at}
use Rattle.counts_decide.proofs.CountsDecide.{CountsDecide, counts-decide}

-- ── counts and vectors ──
-- the vector of all entries of a log or path, the dropped ones included
abbrev whole_vector : ℕ → List ℕ → List ℕ
whole_vector n p = vector_of (no_counts n) p

leq-each : (n : ℕ) (p q : List ℕ) → counts_leq n p q → EachLeq (whole_vector n p) (whole_vector n q)
leq-each n p q h k = go (dec_lt k n)
  where
    go : Dec (k < n) → count_of (whole_vector n p) k ≤ count_of (whole_vector n q) k
    go (yes b) = omega (arith, count-of n p k b, count-of n q k b, h k b)
    go (no b) = omega (arith, no-count (whole_vector n p) k (omega (arith, none-length n p)))

each-leq : (n : ℕ) (p q : List ℕ) → EachLeq (whole_vector n p) (whole_vector n q) → counts_leq n p q
each-leq n p q h k b = omega (arith, count-of n p k b, count-of n q k b, h k)

strict : (p q : List ℕ) → p ⊑ q → (q ⊑ p → ⊥) → p ⊏ q
strict p q h f = go (⊑-cases p q h)
  where
    go : (p ≡ q) ⊎ (p ⊏ q) → p ⊏ q
    go (inl e) = absurd (f (subst (λ (z : List ℕ). z ⊑ p) e (⊑_refl p)))
    go (inr x) = x

not_back : (p q : List ℕ) → p ⊏ q → q ⊑ p → ⊥
not_back p q h g = ⊏-irrefl p (⊏-⊑-trans p q p h g)

-- two versions of which counts decide
module _ (n : ℕ) (p q : List ℕ) (pq : (p ⊑ q) ↔ counts_leq n p q) (qp : (q ⊑ p) ↔ counts_leq n q p) where
  up : p ⊑ q → EachLeq (whole_vector n p) (whole_vector n q)
  up h = leq-each n p q (pq.0 h)

  up-back : EachLeq (whole_vector n p) (whole_vector n q) → p ⊑ q
  up-back h = pq.1 (each-leq n p q h)

  down : q ⊑ p → EachLeq (whole_vector n q) (whole_vector n p)
  down h = leq-each n q p (qp.0 h)

  down-back : EachLeq (whole_vector n q) (whole_vector n p) → q ⊑ p
  down-back h = qp.1 (each-leq n q p h)

  four : FourAnswers (whole_vector n p) (whole_vector n q)
  four = four-answers (whole_vector n p) (whole_vector n q) (none-length n p ∙ sym (none-length n q))

  told : (x : ℕ) → x ≡ compared_to (whole_vector n p) (whole_vector n q) → Tells p q x
  told x e = record {
    comes-before = (
      λ y. let g = four.comes-before.0 (sym e ∙ y) in strict p q (up-back g.0) (λ h. g.1 (down h)),
      λ h. e ∙ four.comes-before.1 (up (⊏-⊑ p q h), λ g. not_back p q h (down-back g)),
    );
    equals = (
      λ y. let v = four.equals.0 (sym e ∙ y) in ⊑-antisym p q (up-back (λ k. omega (arith, ap (λ (c : List ℕ). count_of c k) v))) (down-back (λ k. omega (arith, ap (λ (c : List ℕ). count_of c k) v))),
      λ h. e ∙ four.equals.1 (ap (whole_vector n) h),
    );
    comes-after = (
      λ y. let g = four.comes-after.0 (sym e ∙ y) in strict q p (down-back g.0) (λ h. g.1 (up h)),
      λ h. e ∙ four.comes-after.1 (down (⊏-⊑ q p h), λ g. not_back q p h (up-back g)),
    );
    stands-beside = (
      λ y. let g = four.stands-beside.0 (sym e ∙ y) in (λ h. g.0 (up h), λ h. g.1 (down h)),
      λ h. e ∙ four.stands-beside.1 (λ g. h.0 (up-back g), λ g. h.1 (down-back g)),
    );
  }

-- ── one office of the world ──
-- its versions, behind the entries that it has dropped, are its log and its ballots' paths
version-held : (n : ℕ) (ws : List ℕ) (k : ℕ) (d : Replica) → SoundReplica n ws k d → (i : ℕ) → i ≤ d.held.n → Holds (says d) (whole_at d i)
version-held n ws k d m zero h = inl refl
version-held n ws k d m (suc i) h =
    let o = held_by d.held d.words in
    inr (i, ap (λ (p : List ℕ). d.former ++ p) (version-path d.held d.words m.sound i (omega arith)) ∙ sym (append_assoc d.former o.log (tail o i)))

module _ (n : ℕ) (ws : List ℕ) (start : World) (f : Founded n ws start) (cs : List Call) where
  sound-at : (k : ℕ) (d : Replica) → replica_at (after start cs) k ≡ Some d → SoundReplica n ws k d
  sound-at k d e = (viewed n ws start f cs).0.each k d e

  -- as an office of the protocol's world
  held : (k : ℕ) (p : List ℕ) → HeldAt (after start cs) k p → Holds (P.at (view (after start cs)) k) p
  held k p x = subst (λ (o : Office). Holds o p) (sym (view-at (after start cs) k x.office x.there)) x.holds

  decides : (k : ℕ) (p q : List ℕ) → HeldAt (after start cs) k p → HeldAt (after start cs) k q → (p ⊑ q) ↔ counts_leq n p q
  decides k p q x y =
      let v = (viewed n ws start f cs).1 in
      subst (CountsDecide n) (ap (λ (z : P.World). P.at z k) (sym v.1))
      (counts-decide (by_settled ws) n (few-offices n ws k x.office (sound-at k x.office x.there)) (settled-lawful ws) f.any v.0 k) p q (held k p x) (held k q y)

  -- a version's vector, from the counts that the office keeps on, is that of the entries that it has dropped and the version
  whole : (k : ℕ) (d : Replica) → replica_at (after start cs) k ≡ Some d → (i : ℕ) → vector_at d.held d.words i ≡ whole_vector d.held.n (whole_at d i)
  whole k d e = whole-vector d.held d.words (sound-at k d e).sound d.former (ap (λ (x : Kept). x.counts) ((one-order n ws start f cs).kept cs [] (append-nil cs) k d e))

  tells : (k : ℕ) (d : Replica) → replica_at (after start cs) k ≡ Some d → (out : List ℕ) → (write_of d.held d.words out).number ≡ 0 → (i j : ℕ) → i ≤ n → j ≤ n
      → Tells (whole_at d j) (whole_at d i) (answer_at d out i j)
  tells k d e out done i j hi hj =
      let m = sound-at k d e in
      let a : i ≤ d.held.n = omega (arith, m.count) in
      let b : j ≤ d.held.n = omega (arith, m.count) in
      let p = whole_at d j in
      let q = whole_at d i in
      let x : HeldAt (after start cs) k p = record { office = d; there = e; holds = version-held n ws k d m j b } in
      let y : HeldAt (after start cs) k q = record { office = d; there = e; holds = version-held n ws k d m i a } in
      told d.held.n p q (subst (λ (z : ℕ). (p ⊑ q) ↔ counts_leq z p q) (sym m.count) (decides k p q x y)) (subst (λ (z : ℕ). (q ⊑ p) ↔ counts_leq z q p) (sym m.count) (decides k q p y x))
      (answer_at d out i j) ((read_back d.held d.words out done).answers i j a b ∙ ap₂ compared_to (whole k d e j) (whole k d e i))

pub lossless : (n : ℕ) (weights : List ℕ) (start : World) → Founded n weights start → (cs : List Call) → Lossless n (after start cs)
lossless n ws start f cs = record { decides = decides n ws start f cs; tells = tells n ws start f cs }
