-- A line of a rehearsal.
--     line_step      its first number, and the numbers behind it
--     long-line      one longer than 128 bytes reads as its first 129 do
-- Assumes nothing.
use mathlib.Core.Path.{◌≡◌, refl, sym, ap, ◌∙◌}
use mathlib.Core.Bool.{Bool, true, false}
use mathlib.Core.List.{List, ◌∷◌}
use native.Mathlib.Nat.{zero-add}
use Prim.Native.Nat.{ℕ, ◌+◌, ◌-◌, ◌<◌, zero-le}
use native.Mathlib.Omega.{arith}
use lib.Dec.{ltb}
use lib.ListN.{length, take}
use lib.Seq.{take_all, length-take-le}
use borrow.Author.Tests.{lt-ltb, ltb-true, ltb-false}
use Rattle.lists.specs.Tests.{pick}
use Rattle.text_parts.specs.Parts.{part_length}
use Rattle.std.specs.Prelude.{None, option_and_then}
use Rattle.decimal.specs.Numbers.{fields, fields_from, field_number, numbers_from}
use Rattle.decimal.proofs.Walks.{fields-here, fields-all}
use Rattle.rehearsal_commands.specs.Command.{line_from, line_by, line_of, with_more}

pub line_step : (letter : ℕ) (s : List ℕ) (end : ℕ) → end ≡ part_length 32 s
    → line_from letter s ≡ option_and_then (λ (first : ℕ). with_more letter first (numbers_from s (end + 1))) (field_number (take end s))
unfolding line_by
line_step letter s end e =
    let f : fields s ≡ fields_from s 0 = sym (fields-all s 0 zero-le) in
    let h : fields_from s 0 ≡ take (part_length 32 s) s ∷ fields_from s (part_length 32 s + 1) =
    fields-here s 0 zero-le ∙ ap (λ (k : ℕ). take (part_length 32 s) s ∷ fields_from s (k + 1)) (zero-add (part_length 32 s)) in
    rw (f, h, e)

too_long : (line : List ℕ) → 128 < length line → line_of line ≡ None
unfolding line_of pick
too_long line h = rw (lt-ltb 128 (length line) h)

-- a line of at most 128 bytes is its own first 129, and any longer one is no line, as its first 129 bytes are none
pub long-line : (line : List ℕ) → line_of (take 129 line) ≡ line_of line
long-line line = by_length (ltb 128 (length line)) refl
  where
    by_length : (t : Bool) → ltb 128 (length line) ≡ t → line_of (take 129 line) ≡ line_of line
    by_length true e =
        let h : 128 < length line = ltb-true 128 (length line) e in
        too_long (take 129 line) (omega (arith, length-take-le 129 line (omega arith))) ∙ sym (too_long line h)
    by_length false e = ap line_of (take_all 129 line (omega (arith, ltb-false 128 (length line) e)))
