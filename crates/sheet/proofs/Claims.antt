-- The claims of request (vii).
--     done                a sheet that is done lists the classes met, rising, with the weights under them; no sum wraps
--     refused             "a refused sheet is empty"
--     only_two            a sheet is refused with 1 or with 12
--     equal-sheets        offices with the same settled codes have equal sheets of the same households
-- Assumes nothing.
use mathlib.Core.Path.{◌≡◌, refl, sym, ap, ap₂, subst, ◌∙◌}
use mathlib.Core.Bool.{Bool, true, false}
use mathlib.Core.Logic.{◌⊎◌, inl, inr}
use mathlib.Core.List.{List, []}
use Prim.Native.Nat.{ℕ}
use native.Mathlib.Omega.{arith}
use lib.Dec.{eqb}
use lib.ListN.{length, get_or}
use borrow.Author.Tests.{ne_eqb}
use Rattle.lists.specs.Tests.{pick}
use Rattle.households.specs.Households.{are_households, households_in}
use Rattle.households.proofs.Limits.{lines-below, weights-below}
use Rattle.tabulation.specs.Sheet.{IsSheet, sheet_by}
use Rattle.tabulation.specs.declared.Row.{Row}
use Rattle.tabulation.proofs.Sheet.{sheet-is}
use Rattle.tabulation.proofs.Lines.{sheet-few}
use Rattle.tabulation.proofs.Cells.{held_rows}
use Rattle.frame.specs.Soundness.{sound_b}
use Rattle.shown_edits.specs.Shown.{stored_edit}
use Rattle.both_frames.specs.Frames.{all_lines_of}
use Rattle.frame.specs.declared.Record.{Record}
use Rattle.both_frames.specs.declared.Lines.{Lines}
use Rattle.both_frames.proofs.Shown.{lines-frames}
use Rattle.sheet.specs.Sheet.{sheet_number, sheet_rows, settled_codes, no_sheet, sheet_of, sheet_with}
use Rattle.sheet.specs.Claims.{Claims}
use Rattle.sheet.specs.declared.Sheet.{Sheet}
use Rattle.sheet.proofs.Made.{number-sound, number-unsound}

module _ (r : Record) (words s : List ℕ) where
  pub only_two : ((sheet_of r words s).number ≡ 0) ⊎ (((sheet_of r words s).number ≡ 1) ⊎ ((sheet_of r words s).number ≡ 12))
  unfolding sheet_of sheet_number pick
  only_two = go (sound_b r words) (are_households s)
    where
      N : Bool → Bool → ℕ
      N a b = pick a (pick b 0 12) 1

      go : (a b : Bool) → (N a b ≡ 0) ⊎ ((N a b ≡ 1) ⊎ (N a b ≡ 12))
      go true true = inl refl
      go true false = inr (inr refl)
      go false b = inr (inl refl)

  pub refused : ((sheet_of r words s).number ≡ 0 → ⊥) → sheet_of r words s ≡ no_sheet (sheet_of r words s).number
  unfolding sheet_of sheet_rows pick
  refused h = rw (ne_eqb (sheet_number r words s) 0 h)

  -- a done sheet: the record is sound, the bytes are households, and the rows are their sheet
  done-means : (sheet_of r words s).number ≡ 0
      → (sound_b r words ≡ true) × ((are_households s ≡ true) × (sheet_rows r words s ≡ sheet_by (settled_codes r words) (households_in s)))
  unfolding sheet_of sheet_number sheet_rows pick
  done-means h = go (sound_b r words) (are_households s) refl refl h
    where
      N : Bool → Bool → ℕ
      N a b = pick a (pick b 0 12) 1

      rows : ℕ → List Row
      rows n = pick (eqb n 0) (sheet_by (settled_codes r words) (households_in s)) []

      go : (a b : Bool) → sound_b r words ≡ a → are_households s ≡ b → N a b ≡ 0
          → (a ≡ true) × ((b ≡ true) × (rows (N a b) ≡ sheet_by (settled_codes r words) (households_in s)))
      go true true p q e = (refl, (refl, refl))
      go true false p q e = absurd (omega arith)
      go false b p q e = absurd (omega arith)

  pub done : (sheet_of r words s).number ≡ 0 → Claims r words s
  unfolding sheet_of
  done h =
      let m = done-means h in
      let rows : sheet_by (settled_codes r words) (households_in s) ≡ sheet_rows r words s = sym m.1.1 in
      let is : IsSheet (settled_codes r words) (households_in s) (sheet_rows r words s) =
      subst (IsSheet (settled_codes r words) (households_in s)) rows (sheet-is (settled_codes r words) (households_in s)) in
      record {
        is = is;
        settled = λ line l.
            ap (λ (n : ℕ). record { number = n; edit = stored_edit (get_or (settled_codes r words) line 0) }) (sym (number-sound r words m.0)) ∙
            lines-frames r words line l;
        rows = held_rows (sheet_rows r words s);
        few = omega (arith, ap length rows, sheet-few (settled_codes r words) (households_in s) (lines-below s m.1.0));
        fits = λ b. omega (arith, is.adds-up, weights-below s b m.1.0);
      }

-- ── equal sheets ──
-- a sheet by what it needs of an office: whether the record is sound, and the settled codes
by : List ℕ → Bool → List ℕ → Sheet
by s b codes = sheet_with (number b) (pick (eqb (number b) 0) (sheet_by codes (households_in s)) [])
  where
    number : Bool → ℕ
    number b = pick b (pick (are_households s) 0 12) 1

sheet-by : (r : Record) (words s : List ℕ) → sheet_of r words s ≡ by s (sound_b r words) (settled_codes r words)
unfolding sheet_of sheet_number sheet_rows by
sheet-by r words s = refl

same-sound : (a b : Bool) → pick {A = ℕ} a 0 1 ≡ pick b 0 1 → a ≡ b
unfolding pick
same-sound true true e = refl
same-sound false false e = refl
same-sound true false e = absurd (omega arith)
same-sound false true e = absurd (omega arith)

lines-number : (r : Record) (words : List ℕ) → (all_lines_of r words).number ≡ pick (sound_b r words) 0 1
unfolding pick
lines-number r words = go (sound_b r words) refl
  where
    go : (b : Bool) → sound_b r words ≡ b → (all_lines_of r words).number ≡ pick b 0 1
    go true e = number-sound r words e
    go false e = number-unsound r words e

-- the settled codes say all that a sheet needs of an office, whatever part of its log is dropped: "two offices with equal settled logs print equal
-- sheets of the same households", dropped entries included, since these make the codes
pub equal-sheets : (r q : Record) (words others : List ℕ) → all_lines_of r words ≡ all_lines_of q others → (s : List ℕ) → sheet_of r words s ≡ sheet_of q others s
equal-sheets r q words others e s =
    let sound : sound_b r words ≡ sound_b q others =
    same-sound (sound_b r words) (sound_b q others) (sym (lines-number r words) ∙ ap (λ (x : Lines). x.number) e ∙ lines-number q others) in
    sheet-by r words s ∙ ap₂ (by s) sound (ap (λ (x : Lines). x.codes) e) ∙ sym (sheet-by q others s)
