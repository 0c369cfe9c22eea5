-- What the walks for counts make.
--     one_entry, after_one         a log of one entry: an office's, and the counts after it
--     counts-here, counts-fit, counts-next, counts-done     a walk over the offices that raises their counts, one office more, and its end
--     counted-in, counted-far      one entry more, of an office that has a count, and of one that has none
-- Assumes nothing.
use mathlib.Core.Path.{◌≡◌, refl, sym, ap, ap₂, ◌∙◌}
use mathlib.Core.Bool.{cond}
use mathlib.Core.List.{List, [], ◌∷◌}
use Prim.Native.Nat.{ℕ, ◌+◌, ◌<◌, ◌≤◌}
use native.Mathlib.Omega.{arith}
use lib.Dec.{eqb}
use lib.ListN.{length, get_or, set}
use lib.Seq.{set_out}
use Rattle.lists.proofs.Fill.{filled, fill_here, fill_step, fill_end}
use Rattle.protocol.specs.Entry.{office_of}
use Rattle.protocol.specs.Counts.{count_in, count_of, counted, counts_after}
use Rattle.protocol_laws.proofs.Counts.{counts-length, counts-at, count-of, count_most}
use Rattle.counting.specs.Room.{Room}

-- a log of one entry
pub one_entry : (k e : ℕ) → cond (eqb (office_of e) k) 1 0 ≡ count_in k (e ∷ [])
unfolding count_in
one_entry k e = omega arith

pub after_one : (counts : List ℕ) (e : ℕ) → counts_after counts (e ∷ []) ≡ counted counts e
unfolding counts_after
after_one counts e = refl

module _ (start log cells : List ℕ) (k : ℕ) (eight : length start ≡ 8) (inv : cells ≡ filled (counts_after start log) start k) where
  -- as many counts, and the next is still that of the start
  same : length (counts_after start log) ≡ length start
  same = counts-length start log

  pub counts-here : k < 8 → get_or cells k 0 ≡ count_of start k
  counts-here h = ap (λ (c : List ℕ). get_or c k 0) inv ∙ fill_here 0 (counts_after start log) start k (omega (arith, same)) (omega arith)

  pub counts-fit : k < 8 → (count : ℕ) → count ≡ count_in k log → Room start (length log) → get_or cells k 0 + count < 18446744073709551616
  counts-fit h count e r = omega (arith, counts-here h, r.1 k, count-of 8 log k h, count_most 8 log k)

  pub counts-next : k < 8 → (count : ℕ) → count ≡ count_in k log → set cells k (get_or cells k 0 + count) ≡ filled (counts_after start log) start (k + 1)
  counts-next h count e =
      ap₂ (λ (s : List ℕ) (x : ℕ). set s k x) inv (ap₂ ◌+◌ (counts-here h) e ∙ sym (counts-at start log k (omega arith))) ∙ fill_step 0 (counts_after start log) start same k (omega arith)

  pub counts-done : 8 ≤ k → cells ≡ counts_after start log
  counts-done h = inv ∙ fill_end 0 (counts_after start log) start same k (omega arith)

-- the office is that of the word
module _ (counts : List ℕ) (e k : ℕ) (q : k ≡ office_of e) where
  pub counted-in : set counts k (count_of counts k + 1) ≡ counted counts e
  counted-in = ap (λ (j : ℕ). set counts j (count_of counts j + 1)) q

  pub counted-far : length counts ≤ k → counts ≡ counted counts e
  counted-far h = sym (set_out counts k (count_of counts k + 1) h) ∙ counted-in
