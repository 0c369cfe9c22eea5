-- Each way out of `tell`, by the two lengths that it walks for.
--     three-parts, own-parts, rest-parts     the tail is the three parts; what did not settle is what is pending, and behind it what is lost
--     tell-short, tell-room, tell-done    refused with 6, or done
-- Assumes nothing.
use mathlib.Core.Path.{◌≡◌, refl, sym, ap, ◌∙◌}
use mathlib.Core.List.{List, ◌++◌, append_assoc, append_cancel_left}
use Prim.Native.Nat.{ℕ, ◌+◌, ◌-◌, ◌<◌, ◌≤◌}
use native.Mathlib.Nat.{zero-add}
use native.Mathlib.Omega.{arith}
use lib.ListN.{length, take, drop, length-append}
use lib.Seq.{sets, sets-eq}
use borrow.Author.Tests.{le-leb, lt-leb}
use Rattle.lists.specs.Tests.{pick}
use Rattle.lists.proofs.Walk.{take-from, rest_part}
use Rattle.protocol.specs.Beginning.{◌⊑◌}
use Rattle.protocol_laws.proofs.Beginning.{⊑-rest}
use Rattle.own_entries.specs.Parts.{settled_part, kept_part, pending_part, lost_part, entries_of}
use Rattle.own_entries.specs.Told.{Telling, rest_of, has_room, told_done, told_refused, told_of, told_words}
use Rattle.own_entries.proofs.Common.{common-left, common-grows, common-take}
use Rattle.own_entries.proofs.Own.{entries-append}

-- ── the log l is a beginning of the path p ──
module _ (t l p : List ℕ) (low : l ⊑ p) where
  pub three-parts : t ≡ settled_part t l ++ (pending_part t l p ++ lost_part t p)
  three-parts =
      sym (sym (append_assoc (settled_part t l) (pending_part t l p) (lost_part t p))
      ∙ ap (λ (x : List ℕ). x ++ lost_part t p) (⊑-rest (settled_part t l) (kept_part t p) (common-grows t l p low))
      ∙ ⊑-rest (kept_part t p) t (common-left t p))

  -- "each entry that was pending is exactly one of the three"
  pub own-parts : (own : ℕ) → entries_of own t ≡ entries_of own (settled_part t l) ++ (entries_of own (pending_part t l p) ++ entries_of own (lost_part t p))
  own-parts own =
      ap (entries_of own) three-parts ∙ entries-append own (settled_part t l) (pending_part t l p ++ lost_part t p)
      ∙ ap (λ (x : List ℕ). entries_of own (settled_part t l) ++ x) (entries-append own (pending_part t l p) (lost_part t p))

  pub rest-parts : (own : ℕ) → rest_of own t l ≡ entries_of own (pending_part t l p) ++ entries_of own (lost_part t p)
  rest-parts own = ap (entries_of own) behind ∙ entries-append own (pending_part t l p) (lost_part t p)
    where
      behind : drop (length (settled_part t l)) t ≡ pending_part t l p ++ lost_part t p
      behind = append_cancel_left (settled_part t l) (drop (length (settled_part t l)) t) (pending_part t l p ++ lost_part t p) (⊑-rest (settled_part t l) t (common-left t l) ∙ three-parts)

-- ── as the code cuts the tail, at the two lengths s and k, and counts ──
pub record Cut (own : ℕ) (t l p : List ℕ) (s k settled pending lost : ℕ) : Type 0 where
  pub low : l ⊑ p
  pub first : s ≡ length (settled_part t l)
  pub both : k ≡ length (kept_part t p)
  pub of-settled : settled ≡ length (entries_of own (take s t))
  pub of-pending : pending ≡ length (entries_of own (take (k - s) (drop s t)))
  pub of-lost : lost ≡ length (entries_of own (take (length t - k) (drop k t)))

module _ {own : ℕ} {t l p : List ℕ} {s k settled pending lost : ℕ} (c : Cut own t l p s k settled pending lost) where
  counts : ◌≡◌ {A = Telling} (record { number = 0; settled = settled; pending = pending; lost = lost }) (told_done own t l p)
  counts = λ i. record {
    number = 0;
    settled = (c.of-settled ∙ count (ap (λ (j : ℕ). take j t) c.first ∙ sym (common-take t l))) i;
    pending = (c.of-pending ∙ count (take-from s k t ∙ (λ j. drop (c.first j) (take (c.both j) t)) ∙ ap (drop (length (settled_part t l))) (sym (common-take t p)))) i;
    lost = (c.of-lost ∙ count (rest_part (length t) k t refl ∙ ap (λ (j : ℕ). drop j t) c.both)) i;
  }
    where
      count : {x y : List ℕ} → x ≡ y → length (entries_of own x) ≡ length (entries_of own y)
      count q = ap (λ (z : List ℕ). length (entries_of own z)) q

  rest-long : length (rest_of own t l) ≡ pending + lost
  rest-long =
      ap length (rest-parts t l p c.low own) ∙ length-append (entries_of own (pending_part t l p)) (entries_of own (lost_part t p))
      ∙ sym (ap (λ (x : Telling). x.pending + x.lost) counts)

  -- what is written
  rest-is : entries_of own (take (length t - s) (drop s t)) ≡ rest_of own t l
  rest-is = ap (entries_of own) (rest_part (length t) s t refl ∙ ap (λ (j : ℕ). drop j t) c.first)

  module _ (rest : List ℕ) where
    pub tell-short : length rest < pending + lost → (told_refused 6 ≡ told_of own t l p rest) × (rest ≡ told_words own t l rest)
    unfolding told_of told_words has_room pick
    tell-short h = let e = lt-leb (length (rest_of own t l)) (length rest) (omega (arith, rest-long)) in (simp e, simp e)

    pub tell-room : pending + lost ≤ length rest → length (entries_of own (take (length t - s) (drop s t))) ≤ length rest
    tell-room h = omega (arith, rest-long, ap length rest-is)

    pub tell-done : pending + lost ≤ length rest → (last : List ℕ) → last ≡ sets rest 0 (entries_of own (take (length t - s) (drop s t)))
        → (◌≡◌ {A = Telling} (record { number = 0; settled = settled; pending = pending; lost = lost }) (told_of own t l p rest)) × (last ≡ told_words own t l rest)
    unfolding told_of told_words has_room pick
    tell-done h last w =
        let e = le-leb (length (rest_of own t l)) (length rest) (omega (arith, rest-long)) in (
          simp e counts,
          simp e (w ∙ ap (sets rest 0) rest-is ∙ sets-eq (rest_of own t l) rest 0 (omega (arith, rest-long))
              ∙ ap (λ (j : ℕ). rest_of own t l ++ drop j rest) (zero-add (length (rest_of own t l)))),
        )
