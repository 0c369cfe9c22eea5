-- What became of an office's own entries, at one office and for any call: the log grows, and a path that still extends it stays.
--     told-parts                     the own entries of the tail are those settled, those pending and those lost, in this order
--     settled_is, kept-is            which entries these are, by their places
--     kept-by-log, all-or-none       what did not settle is pending, all of it, or lost, all of it; the old state and the new log say which
--     lost-loses, loses-told         an entry is told as lost exactly if it is the office's own and was lost at its place
--     unchanged                      an office that is as it was has all pending
--     lost-nowhere                   a lost entry stands in no path that begins with the new log
-- Assumes nothing.
use mathlib.Core.Path.{◌≡◌, refl, sym, ap, subst, ◌∙◌}
use mathlib.Core.List.{List, [], ◌∷◌, ◌++◌, append_assoc, append_cancel_left}
use mathlib.Core.Bool.{Bool, true, false, cond}
use mathlib.Core.Logic.{◌⊎◌, inl, inr}
use Prim.Native.Nat.{ℕ, zero, suc}
use native.Mathlib.Omega.{arith}
use lib.ListN.{length, drop, length-append}
use lib.Seq.{drop-length, drop-append_seam}
use Rattle.protocol.specs.Entry.{office_of}
use Rattle.protocol.specs.Beginning.{◌⊑◌, ◌⊏◌, extends}
use Rattle.protocol.specs.Office.{Office, tail, path}
use Rattle.own_entries.specs.Parts.{common, kept_part, settled_of, pending_of, lost_of, entries_of, Loses, Stands}
use Rattle.lists.proofs.Tests.{if-cases}
use Rattle.protocol_laws.proofs.Beginning.{⊑_refl, ⊑_trans, ⊏-⊑-trans, ⊑-antisym, ⊑-comparable, ⊑-append, ⊑-rest, ⊑-length, snoc-⊑, extends-true, extends-false}
use Rattle.protocol_laws.proofs.Office.{OfficeMoves}
use Rattle.own_entries.proofs.Common.{common-left, common-right, common-most, common-is, common-grows, common-behind, common-none, common-same}
use Rattle.own_entries.proofs.Telling.{own-parts}
use Rattle.own_entries.proofs.Own.{stands-entries, entries-stand}

-- ── beginnings ──
pub drop-⊑ : (j : ℕ) (a b : List ℕ) → a ⊑ b → drop j a ⊑ drop j b
drop-⊑ zero a b h = h
drop-⊑ (suc j) [] b h = tt
drop-⊑ (suc j) (x ∷ a) [] h = absurd h
drop-⊑ (suc j) (x ∷ a) (y ∷ b) h = drop-⊑ j a b h.1

pub front-⊑ : (l a b : List ℕ) → a ⊑ b → (l ++ a) ⊑ (l ++ b)
front-⊑ [] a b h = h
front-⊑ (x ∷ l) a b h = (refl, front-⊑ l a b h)

behind : (l a b : List ℕ) → (l ++ a) ⊑ (l ++ b) → a ⊑ b
behind [] a b h = h
behind (x ∷ l) a b h = behind l a b h.1

⊏-snoc : (a p : List ℕ) (e : ℕ) → a ⊏ (p ++ (e ∷ [])) → a ⊑ p
⊏-snoc [] p e h = tt
⊏-snoc (x ∷ []) [] e h = absurd h.1
⊏-snoc (x ∷ y ∷ a) [] e h = absurd h.1
⊏-snoc (x ∷ a) (y ∷ p) e h = (h.0, ⊏-snoc a p e h.1)

-- ── one call at office k ──
-- what settled and what is pending of its tail
abbrev pub kept_of : ℕ → Office → Office → List ℕ
kept_of k o o' = kept_part (tail o k) (drop (length o.log) (path o' k))

module _ (k : ℕ) (o o' : Office) where
  low : drop (length o.log) o'.log ⊑ drop (length o.log) (path o' k)
  low = drop-⊑ (length o.log) o'.log (path o' k) (⊑-append o'.log (tail o' k))

  kept-tail : kept_of k o o' ⊑ tail o k
  kept-tail = common-left (tail o k) (drop (length o.log) (path o' k))

  path-parts : (o.log ++ kept_of k o o') ++ lost_of k o o' ≡ path o k
  path-parts = append_assoc o.log (kept_of k o o') (lost_of k o o') ∙ ap (λ (t : List ℕ). o.log ++ t) (⊑-rest (kept_of k o o') (tail o k) kept-tail)

  -- "each entry that was pending is exactly one of the three"
  pub told-parts : entries_of k (tail o k) ≡ entries_of k (settled_of k o o') ++ (entries_of k (pending_of k o o') ++ entries_of k (lost_of k o o'))
  told-parts = own-parts (tail o k) (drop (length o.log) o'.log) (drop (length o.log) (path o' k)) low k

  module _ (grown : o.log ⊑ o'.log) where
    grown-path : o.log ⊑ path o' k
    grown-path = ⊑_trans o.log o'.log (path o' k) grown (⊑-append o'.log (tail o' k))

    -- an entry of the old path settled exactly if the log has it at its place
    pub settled_is : o.log ++ settled_of k o o' ≡ common (path o k) o'.log
    settled_is = common-behind o.log (tail o k) o'.log grown

    -- and it is not lost exactly if the own path has it at its place
    pub kept-is : o.log ++ kept_of k o o' ≡ common (path o k) (path o' k)
    kept-is = common-behind o.log (tail o k) (path o' k) grown-path

    -- what is told as lost was lost at its place
    pub lost-loses : (e : ℕ) → Stands (entries_of k (lost_of k o o')) e → (office_of e ≡ k) × ((p : List ℕ) × (o.log ⊑ p) × Loses k o o' p e)
    lost-loses e told = let r = entries-stand k (lost_of k o o') e told in (r.0, at_place r.1)
      where
        c : List ℕ
        c = o.log ++ kept_of k o o'

        at_place : Stands (lost_of k o o') e → (p : List ℕ) × (o.log ⊑ p) × Loses k o o' p e
        at_place s = (p, rw append_assoc (⊑-append o.log (kept_of k o o' ++ s.front)), (was, gone))
          where
            p : List ℕ
            p = c ++ s.front

            was : (p ++ (e ∷ [])) ⊑ path o k
            was = rw (sym path-parts ∙ ap (λ (l : List ℕ). c ++ l) s.whole ∙ sym (append_assoc c s.front (e ∷ s.rest))) (snoc-⊑ p e s.rest)

            gone : (p ++ (e ∷ [])) ⊑ path o' k → ⊥
            gone h =
                let low : (p ++ (e ∷ [])) ⊑ c = subst (λ (z : List ℕ). (p ++ (e ∷ [])) ⊑ z) (sym kept-is) (common-most (p ++ (e ∷ [])) (path o k) (path o' k) was h) in
                omega (arith, simp length-append at (⊑-length (p ++ (e ∷ [])) c low))

    -- what was lost is told
    pub loses-told : (p : List ℕ) (e : ℕ) → office_of e ≡ k → Loses k o o' p e → Stands (entries_of k (lost_of k o o')) e
    loses-told p e own lost = stands-entries k (lost_of k o o') e own (place (⊑-comparable q c (path o k) lost.0 (subst (λ (z : List ℕ). c ⊑ z) path-parts (⊑-append c (lost_of k o o')))))
      where
        c : List ℕ
        c = o.log ++ kept_of k o o'

        q : List ℕ
        q = p ++ (e ∷ [])

        place : (q ⊑ c) ⊎ (c ⊏ q) → Stands (lost_of k o o') e
        place (inl h) = absurd (lost.1 ((common-is q (path o k) (path o' k)).0 (subst (λ (z : List ℕ). q ⊑ z) kept-is h)).1)
        place (inr h) = record { front = x; rest = y; whole = append_cancel_left c (lost_of k o o') (x ++ (e ∷ y)) (path-parts ∙ sym there) }
          where
            x : List ℕ
            x = drop (length c) p

            y : List ℕ
            y = drop (length q) (path o k)

            there : c ++ (x ++ (e ∷ y)) ≡ path o k
            there = sym (append_assoc c x (e ∷ y)) ∙ ap (λ (t : List ℕ). t ++ (e ∷ y)) (⊑-rest c p (⊏-snoc c p e h)) ∙ sym (append_assoc p (e ∷ []) y) ∙ ⊑-rest q (path o k) lost.0

  -- for every call, since every call moves on so
  module _ (moves : OfficeMoves k o o') where
    -- the call settled something else at that place or before it
    pub lost-nowhere : (p : List ℕ) (e : ℕ) → Loses k o o' p e → (r : List ℕ) → o'.log ⊑ r → (p ++ (e ∷ [])) ⊑ r → ⊥
    lost-nowhere p e lost r low has = go (⊑-comparable q o'.log r has low)
      where
        q : List ℕ
        q = p ++ (e ∷ [])

        go : (q ⊑ o'.log) ⊎ (o'.log ⊏ q) → ⊥
        go (inl h) = lost.1 (⊑_trans q o'.log (path o' k) h (⊑-append o'.log (tail o' k)))
        go (inr h) = lost.1 (⊑_trans q (path o k) (path o' k) lost.0 (moves.1 (⊏-⊑-trans o'.log q (path o k) h lost.0)))

    -- the old state and the new log decide it: all that did not settle is still there where the old own path extends the new log, and else nothing
    pub kept-by-log : kept_of k o o' ≡ cond (extends (path o k) o'.log) (tail o k) (settled_of k o o')
    kept-by-log = if-cases (λ r. c ≡ r) (extends (path o k) o'.log) (tail o k) s
        (λ h. ⊑-antisym c (tail o k) kept-tail (all h))
        (λ h. ⊑-antisym c s (none h) (common-grows (tail o k) (drop (length o.log) o'.log) (drop (length o.log) (path o' k)) low))
      where
        s : List ℕ
        s = settled_of k o o'

        c : List ℕ
        c = kept_of k o o'

        all : extends (path o k) o'.log ≡ true → tail o k ⊑ c
        all h = behind o.log (tail o k) c (rw (kept-is moves.0) (common-most (path o k) (path o k) (path o' k) (⊑_refl (path o k)) (moves.1 (extends-true (path o k) o'.log h))))

        b : List ℕ
        b = common (path o k) (path o' k)

        within : extends (path o k) o'.log ≡ false → (b ⊑ o'.log) ⊎ (o'.log ⊏ b) → b ⊑ o'.log
        within h (inl x) = x
        within h (inr x) = absurd (extends-false (path o k) o'.log h (⊏-⊑-trans o'.log b (path o k) x (common-left (path o k) (path o' k))))

        none : extends (path o k) o'.log ≡ false → c ⊑ s
        none h = behind o.log c s (rw (settled_is moves.0, kept-is moves.0) (common-most b (path o k) o'.log (common-left (path o k) (path o' k))
            (within h (⊑-comparable b o'.log (path o' k) (common-right (path o k) (path o' k)) (⊑-append o'.log (tail o' k))))))

    pub all-or-none : (pending_of k o o' ≡ []) ⊎ (lost_of k o o' ≡ [])
    all-or-none = go (extends (path o k) o'.log) kept-by-log
      where
        go : (t : Bool) → kept_of k o o' ≡ cond t (tail o k) (settled_of k o o') → (pending_of k o o' ≡ []) ⊎ (lost_of k o o' ≡ [])
        go true q = inr (rw q (drop-length (tail o k)))
        go false q = inl (rw q (drop-length (settled_of k o o')))

-- an office that is as it was: all is pending
pub unchanged : (k : ℕ) (o : Office) → (settled_of k o o ≡ []) × (lost_of k o o ≡ [])
unchanged k o =
    let t : List ℕ = tail o k in (
      ap (common t) (drop-length o.log) ∙ common-none t,
      ap (λ (p : List ℕ). drop (length (common t p)) t) (drop-append_seam o.log t) ∙ ap (λ (c : List ℕ). drop (length c) t) (common-same t) ∙ drop-length t,
    )
