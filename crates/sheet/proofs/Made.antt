-- How the sheet is made: refused with 1 or 12, or done.
--     sound-of, unsound-of                     `all_lines` is done exactly on a sound record
--     sheet-unsound, sheet-no-households       refused
--     no-sums, some-sums                       there are sums exactly where the bytes are households
--     lines_fit, lines-sheet                   the lines' totals fit, and pooled by their codes they are the sheet
--     sheet-made                               done
-- Assumes nothing.
use mathlib.Core.Path.{◌≡◌, refl, sym, ap, ◌∙◌}
use mathlib.Core.Bool.{Bool, true, false}
use mathlib.Core.List.{List}
use Prim.Native.Nat.{ℕ}
use native.Mathlib.Omega.{arith}
use lib.ListN.{length}
use Rattle.lists.specs.Tests.{pick}
use Rattle.std.specs.Prelude.{Some, None}
use Rattle.std.proofs.lemmas.Option.{none-some, same_Some}
use Rattle.numbers.specs.Numbers.{Bytes}
use Rattle.households.specs.Households.{are_households, households_in, weights_read}
use Rattle.households.specs.Pools.{met_after, totals_after, none_met, no_totals, pools_of}
use Rattle.households.specs.declared.Pools.{Pools}
use Rattle.households.proofs.Limits.{lines-below, weights-below}
use Rattle.tabulation.specs.Rows.{pooled, total_of, line_rows}
use Rattle.tabulation.specs.Cells.{rows_of, Fitting}
use Rattle.tabulation.specs.Sheet.{sheet_by}
use Rattle.tabulation.specs.declared.Row.{Row}
use Rattle.tabulation.specs.declared.Rows.{Rows}
use Rattle.tabulation.proofs.Under.{pooled-total}
use Rattle.tabulation.proofs.Sheet.{sheet-is}
use Rattle.tabulation.proofs.Lines.{by-line}
use Rattle.frame.specs.Soundness.{sound_b}
use Rattle.both_frames.specs.Frames.{all_lines_of}
use Rattle.frame.specs.declared.Record.{Record}
use Rattle.both_frames.specs.declared.Lines.{Lines}
use Rattle.both_frames.proofs.Shown.{lines-unsound}
use Rattle.sheet.specs.Sheet.{sheet_number, sheet_rows, settled_codes, no_sheet, sheet_of}
use Rattle.sheet.specs.declared.Sheet.{Sheet}

module _ (r : Record) (words : List ℕ) where
  -- `all_lines` is done exactly on a sound record
  pub number-sound : sound_b r words ≡ true → (all_lines_of r words).number ≡ 0
  unfolding all_lines_of pick
  number-sound e = rw e

  pub number-unsound : sound_b r words ≡ false → (all_lines_of r words).number ≡ 1
  number-unsound e = ap (λ (l : Lines). l.number) (sym (lines-unsound r words e))

  pub sound-of : (all_lines_of r words).number ≡ 0 → sound_b r words ≡ true
  sound-of e = go (sound_b r words) refl
    where
      go : (b : Bool) → sound_b r words ≡ b → b ≡ true
      go true q = refl
      go false q = absurd (omega (arith, number-unsound q))

  pub unsound-of : ((all_lines_of r words).number ≡ 0 → ⊥) → sound_b r words ≡ false
  unsound-of e = go (sound_b r words) refl
    where
      go : (b : Bool) → sound_b r words ≡ b → b ≡ false
      go true q = absurd (e (number-sound q))
      go false q = refl

  pub sheet-unsound : (s : List ℕ) → sound_b r words ≡ false → no_sheet 1 ≡ sheet_of r words s
  unfolding sheet_of sheet_number sheet_rows pick
  sheet-unsound s e = rw e

  module _ (s : List ℕ) (sound : sound_b r words ≡ true) where
    pub sheet-no-households : are_households s ≡ false → no_sheet 12 ≡ sheet_of r words s
    unfolding sheet_of sheet_number sheet_rows pick
    sheet-no-households e = rw (sound, e)

    pub sheet-made : are_households s ≡ true → (made : Rows) → made ≡ rows_of (sheet_by (settled_codes r words) (households_in s))
        → ◌≡◌ {A = Sheet} (record { number = 0; count = made.count; rows = made.rows }) (sheet_of r words s)
    unfolding sheet_of sheet_number sheet_rows pick
    sheet-made e made q = rw (sound, e) (λ i. record { number = 0; count = (q i).count; rows = (q i).rows })

-- ── the sums by line ──
module _ (s : List ℕ) where
  abbrev pools : Pools
  pools = record { met = met_after none_met (households_in s); totals = totals_after no_totals (households_in s) }

  -- there are sums exactly where the bytes are households
  pub no-sums : None ≡ pools_of s → are_households s ≡ false
  unfolding pools_of pick
  no-sums e = go (are_households s) refl e
    where
      go : (b : Bool) → are_households s ≡ b → None ≡ pick b (Some pools) None → b ≡ false
      go true q n = absurd (none-some _ n)
      go false q n = refl

  pub record Summed (p : Pools) : Type 0 where
    pub are : are_households s ≡ true
    pub sums : p ≡ pools

  pub some-sums : {p : Pools} → Some p ≡ pools_of s → Summed p
  unfolding pools_of pick
  some-sums {p} e = go (are_households s) refl e
    where
      go : (b : Bool) → are_households s ≡ b → Some p ≡ pick b (Some pools) None → Summed p
      go true q n = record { are = q; sums = same_Some _ _ n }
      go false q n = absurd (none-some _ (sym n))

  module _ (codes : List ℕ) (long : length codes ≡ 64) {p : Pools} (summed : Summed p) where
    abbrev lines : List Row
    lines = line_rows codes p.met p.totals

    pub lines-sheet : pooled (line_rows codes p.met p.totals) ≡ sheet_by codes (households_in s)
    lines-sheet = ap (λ (p : Pools). pooled (line_rows codes p.met p.totals)) summed.sums ∙ by-line codes (households_in s) long (lines-below s summed.are)

    lines-total : total_of lines ≡ weights_read (households_in s)
    lines-total = sym (pooled-total lines) ∙ ap total_of lines-sheet ∙ (sheet-is codes (households_in s)).adds-up

    pub lines_fit : Bytes s → Fitting (line_rows codes p.met p.totals)
    lines_fit b = omega (arith, lines-total, weights-below s b summed.are)
