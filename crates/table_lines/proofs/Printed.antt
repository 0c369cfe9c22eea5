-- What is printed for an input, by cases.
--     answer-question, answer-refused, answer-lines      no three numbers; weights that founding refuses; a line for each table
--     write-refused    the number of a refused founding, written
--     found-zero       weights within the limits are founded
--     refused-two      the number of a refused founding is 2
--     answer-short     all of it fits the output
-- Assumes nothing.
use mathlib.Core.Path.{◌≡◌, refl, sym, ap, ◌∙◌}
use mathlib.Core.Bool.{Bool, true, false, true≢false}
use mathlib.Core.List.{List, [], ◌∷◌, ◌++◌}
use Prim.Native.Nat.{ℕ, ◌+◌, ◌≤◌}
use native.Mathlib.Omega.{arith}
use lib.Dec.{eqb}
use lib.ListN.{length, set, length-append, length-replicate}
use lib.Seq.{sets}
use borrow.Author.Tests.{eq-eqb, ne_eqb, le-leb}
use Rattle.std.specs.Prelude.{Option, Some, None}
use Rattle.lists.specs.Tests.{pick}
use Rattle.lists.proofs.Tests.{pick_true, pick-false, pick-cases}
use Rattle.protocol.specs.Limits.{head_fine, long_enough, found_number}
use Rattle.printing.specs.Printing.{decimal_in, decimal_of, printed_at}
use Rattle.decimal.specs.declared.numbers.Numbers.{Numbers}
use Rattle.printing.proofs.Digits.{decimal-short, printed-all}
use Rattle.frame.specs.Founding.{found_of}
use Rattle.tables.specs.Tables.{tables}
use Rattle.tables.proofs.Places.{tables-2197}
use Rattle.tables.proofs.Listed.{tables-listed}
use Rattle.table_lines.specs.Lines.{empty_log, lines_of}
use Rattle.table_lines.specs.Answers.{numbers_in, three_numbers, founded, printed_for, answer_for, answer_to}
use Rattle.table_lines.proofs.Shown.{put_last}
use Rattle.table_lines.proofs.Written.{lines-short}

-- ── by the numbers that were read ──
question-for : (x : Option Numbers) → three_numbers x ≡ false → answer_for x ≡ 63 ∷ 10 ∷ []
unfolding three_numbers answer_for pick
question-for (Some ns) q = rw q
question-for None q = refl

pub answer-question : (input : List ℕ) (x : Option Numbers) → x ≡ numbers_in input → three_numbers x ≡ false → answer_to input ≡ 63 ∷ 10 ∷ []
unfolding answer_to
answer-question input x e q = ap answer_for (sym e) ∙ question-for x q

module _ (input : List ℕ) (ns : Numbers) (e : Some ns ≡ numbers_in input) where
  answer-weights : ns.count ≡ 3 → answer_to input ≡ printed_for ns.cells
  unfolding answer_to answer_for three_numbers
  answer-weights q = ap answer_for (sym e) ∙ pick_true (eqb ns.count 3) (printed_for ns.cells) (63 ∷ 10 ∷ []) (eq-eqb ns.count 3 q)

  pub answer-lines : ns.count ≡ 3 → (founded ns.cells).number ≡ 0 → answer_to input ≡ lines_of (founded ns.cells).«record» tables
  unfolding printed_for
  answer-lines q z =
      answer-weights q ∙ pick_true (eqb (founded ns.cells).number 0) (lines_of (founded ns.cells).«record» tables)
      (decimal_of (founded ns.cells).number ++ (10 ∷ [])) (eq-eqb (founded ns.cells).number 0 z)

  pub answer-refused : ns.count ≡ 3 → ((founded ns.cells).number ≡ 0 → ⊥) → answer_to input ≡ decimal_of (founded ns.cells).number ++ (10 ∷ [])
  unfolding printed_for
  answer-refused q z =
      answer-weights q ∙ pick-false (eqb (founded ns.cells).number 0) (lines_of (founded ns.cells).«record» tables)
      (decimal_of (founded ns.cells).number ++ (10 ∷ [])) (ne_eqb (founded ns.cells).number 0 z)

-- ── what the code writes ──
pub write-refused : (out last : List ℕ) (next n : ℕ) → 20 ≤ length out → next ≡ 0 + length (printed_at out 0 n) → last ≡ sets out 0 (printed_at out 0 n)
    → (next + 1 ≡ length (decimal_of n ++ (10 ∷ []))) × (set last next 10 ≡ sets out 0 (decimal_of n ++ (10 ∷ [])))
write-refused out last next n room en el =
    let all : printed_at out 0 n ≡ decimal_of n = printed-all out 0 n (omega arith) in
    let w = put_last out last (decimal_of n) 0 next 10 (en ∙ ap (λ (d : List ℕ). 0 + length d) all) (el ∙ ap (sets out 0) all) in
    (omega (arith, w.0), w.1)

-- ── "Weights that founding refuses print 2 alone" ──
room : long_enough empty_log ≡ true
unfolding long_enough
room = le-leb 1024 (length empty_log) (omega (arith, length-replicate {A = ℕ} 1024 0))

by_tests : (a b : Bool) → a ≡ true → (◌≡◌ {A = ℕ} (pick a (pick b 0 2) 1) 0 → ⊥) → ◌≡◌ {A = ℕ} (pick a (pick b 0 2) 1) 2
unfolding pick
by_tests true true h z = absurd (z refl)
by_tests true false h z = refl
by_tests false b h z = absurd (true≢false (sym h))

pub found-zero : (ws : List ℕ) → head_fine 3 0 ws ≡ true → (founded ws).number ≡ 0
unfolding found_of found_number
found-zero ws e = pick_true (long_enough empty_log) (pick (head_fine 3 0 ws) 0 2) 1 room ∙ pick_true (head_fine 3 0 ws) 0 2 e

found-two : (ws : List ℕ) → ((founded ws).number ≡ 0 → ⊥) → (founded ws).number ≡ 2
unfolding found_of found_number
found-two ws z = by_tests (long_enough empty_log) (head_fine 3 0 ws) room z

pub refused-two : (ws : List ℕ) → ((founded ws).number ≡ 0 → ⊥) → printed_for ws ≡ 50 ∷ 10 ∷ []
unfolding printed_for decimal_in pick
refused-two ws z = rw (found-two ws z) refl

-- ── the output has room for it ──
printed-short : (ws : List ℕ) → length (printed_for ws) ≤ 61536
unfolding printed_for
printed-short ws =
    pick-cases (λ (l : List ℕ). length l ≤ 61536) (eqb (founded ws).number 0) (lines_of (founded ws).«record» tables) (decimal_of (founded ws).number ++ (10 ∷ []))
    (λ e. omega (arith, lines-short (founded ws).«record» tables tables-listed.only, tables-2197))
    (λ e. omega (arith, length-append (decimal_of (founded ws).number) (10 ∷ []), decimal-short 20 (founded ws).number))

answer-short-for : (x : Option Numbers) → length (answer_for x) ≤ 61536
unfolding answer_for three_numbers
answer-short-for (Some ns) =
    pick-cases (λ (l : List ℕ). length l ≤ 61536) (eqb ns.count 3) (printed_for ns.cells) (63 ∷ 10 ∷ []) (λ e. printed-short ns.cells) (λ e. omega arith)
answer-short-for None = omega arith

pub answer-short : (input : List ℕ) → length (answer_to input) ≤ 61536
unfolding answer_to
answer-short input = answer-short-for (numbers_in input)
