-- The walk over the bytes, record by record: what is left of them, from what was summed so far, gives what all of them give.
--     here-true, no-mark, no_line       whether a record of a line stands at the start, by its mark as one number and its line
--     refused-length, refused-many      bytes that are no households by their length
--     Pooling, pooling-begins, pooling-again, pooling-fails, pooling-ends     the walk
-- Assumes nothing.
use mathlib.Core.Path.{◌≡◌, refl, sym, ap, subst, ◌∙◌}
use mathlib.Core.Bool.{Bool, true, false}
use mathlib.Core.List.{List, ◌∷◌, ◌++◌}
use Prim.Native.Nat.{ℕ, suc, ◌+◌, ◌*◌, ◌/◌, ◌%◌, ◌<◌, ◌≤◌}
use native.Mathlib.Omega.{arith}
use Rattle.std.specs.Prelude.{Option, Some, None}
use lib.Dec.{eqb, leb}
use lib.ListN.{length, get_or, drop, set, length-set, length-append, get_or-append}
use lib.Seq.{drop-append_seam, get_or-drop, get_or-set_same, get_or-set_other}
use borrow.Author.Tests.{le-leb, lt-leb, eq-eqb, ne_eqb, eqb-true, eqb-false}
use Rattle.lists.specs.Tests.{both}
use Rattle.lists.proofs.Tests.{both_true, both-false-0, both-false-1, pick_true, pick-false, get_d_replicate}
use Rattle.numbers.specs.Numbers.{Bytes, be16, be32, run_ok}
use Rattle.numbers.proofs.Runs.{bytes_drop}
use Rattle.households.specs.Households.{Household, record_here, households_at, are_households, households_in}
use Rattle.households.specs.Pools.{met_after, totals_after, none_met, no_totals, pools_of}
use Rattle.households.specs.declared.Pools.{Pools}

-- ── a record at the start ──
pub here-true : (s : List ℕ) → get_or s 0 0 < 256 → get_or s 1 0 < 256 → be16 s ≡ 0x4852 → get_or s 2 0 < 64 → record_here s ≡ true
unfolding record_here be16
here-true s a b m l =
    both_true _ _ (eq-eqb (get_or s 0 0) 0x48 (omega arith)) (both_true _ _ (eq-eqb (get_or s 1 0) 0x52 (omega arith)) (le-leb (get_or s 2 0) 63 (omega arith)))

pub no-mark : (s : List ℕ) → (be16 s ≡ 0x4852 → ⊥) → record_here s ≡ false
unfolding record_here be16 both
no-mark s m = go (eqb (get_or s 0 0) 0x48) (eqb (get_or s 1 0) 0x52) refl refl
  where
    go : (a b : Bool) → eqb (get_or s 0 0) 0x48 ≡ a → eqb (get_or s 1 0) 0x52 ≡ b → both a (both b (leb (get_or s 2 0) 63)) ≡ false
    go false b p q = refl
    go true false p q = refl
    go true true p q = absurd (m (omega (arith, eqb-true (get_or s 0 0) 0x48 p, eqb-true (get_or s 1 0) 0x52 q)))

pub no_line : (s : List ℕ) → 64 ≤ get_or s 2 0 → record_here s ≡ false
unfolding record_here
no_line s l = both-false-1 _ _ (both-false-1 _ _ (lt-leb (get_or s 2 0) 63 (omega arith)))

-- ── bytes that are no households ──
none_of : (s : List ℕ) → are_households s ≡ false → None ≡ pools_of s
unfolding pools_of
none_of s e = sym (pick-false _ _ _ e)

pub refused-length : (s : List ℕ) → (length s % 7 ≡ 0 → ⊥) → None ≡ pools_of s
unfolding are_households
refused-length s h = none_of s (both-false-0 _ _ (ne_eqb (length s % 7) 0 h))

pub refused-many : (s : List ℕ) → 1000000 < length s / 7 → None ≡ pools_of s
unfolding are_households
refused-many s h = none_of s (both-false-1 _ _ (both-false-0 _ _ (lt-leb (length s / 7) 1000000 h)))

-- ── the walk ──
abbrev records : List ℕ → ℕ
records s = length s / 7

-- `rest` is left of the bytes s
pub record Pooling (s : List ℕ) (met : List Bool) (totals rest : List ℕ) : Type 0 where
  pub tests : run_ok 7 record_here (records rest) rest ≡ run_ok 7 record_here (records s) s
  pub marks : met_after met (households_in rest) ≡ met_after none_met (households_in s)
  pub sums : totals_after totals (households_in rest) ≡ totals_after no_totals (households_in s)
  pub lines : length totals ≡ 64
  pub bytes : Bytes rest
  -- no sum is above what the weights so far add up to at most
  pub most : (j : ℕ) → get_or totals j 0 + 4294967295 * records rest ≤ 4294967295 * records s

pub pooling-begins : (s : List ℕ) → Bytes s → Pooling s none_met no_totals s
pooling-begins s b = record { tests = refl; marks = refl; sums = refl; lines = refl; bytes = b; most = λ j. rw get_d_replicate (omega arith) }

add_more : (totals : List ℕ) (line w : ℕ) → line < length totals → (j : ℕ) → get_or (set totals line (get_or totals line 0 + w)) j 0 ≤ get_or totals j 0 + w
add_more totals line w h j = go (eqb j line) refl
  where
    go : (t : Bool) → eqb j line ≡ t → get_or (set totals line (get_or totals line 0 + w)) j 0 ≤ get_or totals j 0 + w
    go true e = rw (eqb-true j line e, get_or-set_same totals line (get_or totals line 0 + w) 0 h) (omega arith)
    go false e = rw (get_or-set_other totals line j (get_or totals line 0 + w) 0 (eqb-false j line e)) (omega arith)

-- the seven bytes of a record at the front of what is left
module _ (x rest : List ℕ) (long : length x ≡ 7) where
  at-front : (k : ℕ) → k < 7 → get_or (x ++ rest) k 0 ≡ get_or x k 0
  at-front k h = get_or-append x rest 0 k (omega (arith, long))

  here-front : record_here (x ++ rest) ≡ record_here x
  unfolding record_here
  here-front = rw (at-front 0 (omega arith), at-front 1 (omega arith), at-front 2 (omega arith)) refl

  weight-front : be32 (drop 3 (x ++ rest)) ≡ be32 (drop 3 x)
  unfolding be32
  weight-front =
      let at : (k : ℕ) → k < 4 → get_or (drop 3 (x ++ rest)) k 0 ≡ get_or (drop 3 x) k 0 = λ k h. get_or-drop 3 (x ++ rest) k 0 ∙ at-front (3 + k) (omega arith) ∙ sym (get_or-drop 3 x k 0) in
      rw (at 0 (omega arith), at 1 (omega arith), at 2 (omega arith), at 3 (omega arith)) refl

  behind : drop 7 (x ++ rest) ≡ rest
  behind = ap (λ (n : ℕ). drop n (x ++ rest)) (sym long) ∙ drop-append_seam x rest

  one-more : records (x ++ rest) ≡ suc (records rest)
  one-more = omega (arith, length-append x rest, long)

  households-front : households_in (x ++ rest) ≡ record { line = get_or x 2 0; weight = be32 (drop 3 x) } ∷ households_in rest
  unfolding households_at
  households-front = rw (one-more, behind, at-front 2 (omega arith), weight-front) refl

  tests-front : (t : Bool) → record_here x ≡ t → run_ok 7 record_here (records (x ++ rest)) (x ++ rest) ≡ both t (run_ok 7 record_here (records rest) rest)
  unfolding run_ok
  tests-front t e = rw (one-more, behind, here-front, e) refl

module _ {s : List ℕ} {met : List Bool} {totals : List ℕ} (x rest : List ℕ) (long : length x ≡ 7) (inv : Pooling s met totals (x ++ rest)) where
  byte : (k : ℕ) → k < 7 → get_or x k 0 < 256
  byte k h = rw (sym (at-front x rest long k h)) (inv.bytes k)

  said : {line w : ℕ} → line ≡ get_or x 2 0 → w ≡ be32 (drop 3 x) → ◌≡◌ {A = Household} (record { line = line; weight = w }) (record { line = get_or x 2 0; weight = be32 (drop 3 x) })
  said l v = λ i. record { line = l i; weight = v i }

  -- a record stands there
  pub pooling-again : {line w : ℕ} → be16 x ≡ 0x4852 → line ≡ get_or x 2 0 → w ≡ be32 (drop 3 x) → w < 4294967296 → line < 64
      → Pooling s (set met line true) (set totals line (get_or totals line 0 + w)) rest
  unfolding both
  pooling-again {line} {w} m l v b f = record {
    tests = sym (tests-front x rest long true (here-true x (byte 0 (omega arith)) (byte 1 (omega arith)) m (omega (arith, l)))) ∙ inv.tests;
    marks = ap (λ (h : Household). met_after met (h ∷ households_in rest)) (said l v) ∙ sym (ap (met_after met) (households-front x rest long)) ∙ inv.marks;
    sums = ap (λ (h : Household). totals_after totals (h ∷ households_in rest)) (said l v) ∙ sym (ap (totals_after totals) (households-front x rest long)) ∙ inv.sums;
    lines = length-set totals line _ ∙ inv.lines;
    bytes = subst Bytes (behind x rest long) (bytes_drop 7 (x ++ rest) inv.bytes);
    most = λ j. omega (arith, add_more totals line w (omega (arith, inv.lines)) j, inv.most j, one-more x rest long);
  }

  pub pooling-fails : record_here x ≡ false → None ≡ pools_of s
  unfolding are_households both
  pooling-fails t = none_of s (both-false-1 _ _ (both-false-1 _ _ (sym inv.tests ∙ tests-front x rest long false t)))

-- less than a record is left
pub pooling-ends : {s : List ℕ} {met : List Bool} {totals rest : List ℕ} → Pooling s met totals rest → length rest < 7 → length s % 7 ≡ 0 → records s ≤ 1000000
    → ◌≡◌ {A = Option Pools} (Some (record { met = met; totals = totals })) (pools_of s)
unfolding pools_of are_households households_at run_ok
pooling-ends {s} {met} {totals} {rest} inv h l m =
    let q : records rest ≡ 0 = omega arith in
    let ok : are_households s ≡ true =
    both_true _ _ (eq-eqb (length s % 7) 0 l) (both_true _ _ (le-leb (records s) 1000000 m) (sym inv.tests ∙ ap (λ (k : ℕ). run_ok 7 record_here k rest) q)) in
    let marked : met ≡ met_after none_met (households_in s) = sym (ap (λ (k : ℕ). met_after met (households_at k rest)) q) ∙ inv.marks in
    let summed : totals ≡ totals_after no_totals (households_in s) = sym (ap (λ (k : ℕ). totals_after totals (households_at k rest)) q) ∙ inv.sums in
    (λ j. Some (record { met = marked j; totals = summed j })) ∙ sym (pick_true (are_households s) _ _ ok)
