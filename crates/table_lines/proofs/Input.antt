-- The numbers of an input's only line, by where its first newline stands.
--     second-line      bytes behind the first newline are another line
--     only-line        else the bytes before it are the only line
-- Assumes nothing.
use mathlib.Core.Path.{◌≡◌, refl, sym, ap, ◌∙◌}
use mathlib.Core.Bool.{Bool, true, false}
use mathlib.Core.List.{List, [], ◌∷◌}
use Prim.Native.Nat.{ℕ, suc, ◌+◌, ◌≤◌, ◌<◌}
use native.Mathlib.Omega.{arith}
use lib.Dec.{eqb}
use lib.ListN.{length, take, drop, length-drop}
use Rattle.lists.specs.Tests.{pick}
use Rattle.std.specs.Prelude.{None}
use Rattle.decimal.specs.Number.{number_of}
use Rattle.decimal.specs.Numbers.{in_first, fields, fields_from, numbers_after, numbers_of, numbers_from}
use Rattle.decimal.proofs.Walks.{fields-all}
use Rattle.text_parts.specs.Parts.{part_length}
use Rattle.rehearsal_lines.specs.Feeding.{lines_of}
use Rattle.table_lines.specs.Answers.{only_line, numbers_in}

-- the first line, and the lines behind its newline
abbrev First : List ℕ → Type 0
First s = lines_of s ≡ take (part_length 10 s) s ∷ lines_of (drop (suc (part_length 10 s)) s)

first-newline : (b : ℕ) (s : List ℕ) → eqb b 10 ≡ true → First (b ∷ s)
unfolding lines_of part_length pick
first-newline b s e = rw e

first_byte : (b : ℕ) (s : List ℕ) → eqb b 10 ≡ false → First s → First (b ∷ s)
unfolding lines_of part_length in_first pick
first_byte b s e h = rw (e, h)

first-last : (b : ℕ) → eqb b 10 ≡ false → First (b ∷ [])
unfolding lines_of part_length in_first pick
first-last b e = rw e

first-line : (b : ℕ) (s : List ℕ) → First (b ∷ s)
first-line b [] = go (eqb b 10) refl
  where
    go : (t : Bool) → eqb b 10 ≡ t → First (b ∷ [])
    go true e = first-newline b [] e
    go false e = first-last b e
first-line b (c ∷ s) = go (eqb b 10) refl (first-line c s)
  where
    go : (t : Bool) → eqb b 10 ≡ t → First (c ∷ s) → First (b ∷ c ∷ s)
    go true e h = first-newline b (c ∷ s) e
    go false e h = first_byte b (c ∷ s) e h

-- by what is behind the first newline
two-lines : (line rest : List ℕ) → 0 < length rest → only_line (line ∷ lines_of rest) ≡ None
two-lines line [] h = absurd (omega arith)
two-lines line (b ∷ s) h = ap (λ (ls : List (List ℕ)). only_line (line ∷ ls)) (first-line b s)

one_line : (line rest : List ℕ) → length rest ≡ 0 → only_line (line ∷ lines_of rest) ≡ numbers_from line 0
unfolding lines_of
one_line line [] h = ap numbers_of (sym (fields-all line 0 (omega arith)))
one_line line (b ∷ s) h = absurd (omega (arith, h))

pub second-line : (input : List ℕ) → part_length 10 input + 1 < length input → numbers_in input ≡ None
second-line [] h = absurd (omega arith)
second-line (b ∷ s) h =
    let p = part_length 10 (b ∷ s) in
    ap only_line (first-line b s) ∙ two-lines (take p (b ∷ s)) (drop (suc p) (b ∷ s)) (simp length-drop (omega arith))

pub only-line : (input : List ℕ) → length input ≤ part_length 10 input + 1 → numbers_in input ≡ numbers_from (take (part_length 10 input) input) 0
unfolding lines_of part_length fields_from fields numbers_after number_of pick
only-line [] h = refl
only-line (b ∷ s) h =
    let p = part_length 10 (b ∷ s) in
    ap only_line (first-line b s) ∙ one_line (take p (b ∷ s)) (drop (suc p) (b ∷ s)) (simp length-drop (omega arith))
