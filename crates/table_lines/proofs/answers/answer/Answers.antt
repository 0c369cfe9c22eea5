-- The numbers that were read, then what founding answers.
use native.Mathlib.Omega.{arith}
use mathlib.Core.Path.{◌≡◌, refl, sym, ap, subst, ◌∙◌}
use mathlib.Core.List.{List, [], ◌∷◌, ◌++◌}
use mathlib.Core.Bool.{false}
use Prim.Native.Nat.{ℕ, ◌+◌, ◌≤◌}
use lib.ListN.{length, set}
use lib.Seq.{sets}
use borrow.Author.Rules.{rules}
use Rattle.printing.specs.Printing.{decimal_of, printed_at}
use Rattle.printing.proofs.Digits.{decimal-short, printed-all}
use Rattle.frame.specs.declared.founding.Founded.{Founded}
use Rattle.tables.specs.Tables.{tables}
use Rattle.table_lines.specs.Lines.{lines_of}
use Rattle.table_lines.proofs.Printed.{answer-question, answer-refused, answer-lines, write-refused}
use Rattle.std.specs.Prelude.{Option, Some, None}
use borrow.Author.Tests.{ne_eqb}
use Rattle.decimal.specs.declared.numbers.Numbers.{Numbers}
use Rattle.table_lines.specs.Answers.{three_numbers}
use Rattle.table_lines.proofs.answers.answer.Goals as goal
use Rattle.table_lines.proofs.answers.answer.Goals.{in_default-via-in-Some+else-numbers-eq3, in_default-via-in_default}

-- no numbers, or not three of them
other_count : (x : Option Numbers) (ns : Numbers) → x ≡ Some ns → (ns.count ≡ 3 → ⊥) → three_numbers x ≡ false
unfolding three_numbers
other_count x ns e h = rw (e, ne_eqb ns.count 3 h)

no_count : (x : Option Numbers) → x ≡ None → three_numbers x ≡ false
unfolding three_numbers
no_count x e = rw e

pub returns-in_default : goal.returns-in_default
returns-in_default c =
    let a = c.args in
    let none : three_numbers c.numbers_in.result ≡ false = elim c.in_default.branch [
      | in_default-via-in-Some+else-numbers-eq3 w ↦ other_count _ w.in-Some.numbers w.in-Some.is w.if-numbers-eq3.false
      | in_default-via-in_default w ↦ no_count _ w.in_default.is
    ] in
    let e = answer-question a.input.now c.numbers_in.result c.numbers_in.ensures none in
    subst (λ (l : List ℕ). (◌≡◌ {A = ℕ} 2 (length l)) × (set (set a.out.now 0 63) 1 10 ≡ sets a.out.now 0 l)) (sym e) (refl, refl)

pub returns : goal.returns
returns c =
    let three : c.in-Some.numbers.count ≡ 3 = omega arith in
    let answered = c.found-founded.ensures in
    let none = ap (λ (x : Founded). x.number) (sym answered) ∙ c.if-founded-ne0.false in
    let e = answer-lines c.args.input.now c.in-Some.numbers c.in-Some.ensures three none in
    subst (λ (l : List ℕ). (c.put_lines.result ≡ length l) × (c.put_lines.new.out ≡ sets c.args.out.now 0 l))
    (ap (λ (x : Founded). lines_of x.«record» tables) answered ∙ sym e) c.put_lines.ensures

-- a number takes at most 20 bytes
number-short : (out : List ℕ) (n next : ℕ) → length out ≡ 61536 → next ≡ 0 + length (printed_at out 0 n) → next ≤ 20
number-short out n next full e = omega (arith, e, ap length (printed-all out 0 n (omega (arith, full))), decimal-short 20 n)

pub bounds-out-next : goal.bounds-out-next
bounds-out-next c =
    let h = number-short c.args.out.now c.found-founded.result.number c.put_number-next.result (search rules) c.put_number-next.ensures.end in
    omega (arith, h)

pub overflow_add-result : goal.overflow_add-result
overflow_add-result c =
    let h = number-short c.args.out.now c.found-founded.result.number c.put_number-next.result (search rules) c.put_number-next.ensures.end in
    omega (arith, h)

pub returns-then-founded-ne0 : goal.returns-then-founded-ne0
returns-then-founded-ne0 c =
    let a = c.args in
    let put = c.put_number-next in
    let three : c.in-Some.numbers.count ≡ 3 = omega arith in
    let number = ap (λ (x : Founded). x.number) c.found-founded.ensures in
    let e = answer-refused a.input.now c.in-Some.numbers c.in-Some.ensures three (λ z. c.if-founded-ne0.true (number ∙ z)) in
    let full : length a.out.now ≡ 61536 = search rules in
    let w = write-refused a.out.now put.new.out put.result c.found-founded.result.number (omega (arith, full)) put.ensures.end put.ensures.output in
    subst (λ (l : List ℕ). (put.result + 1 ≡ length l) × (set put.new.out put.result 10 ≡ sets a.out.now 0 l))
    (ap (λ (k : ℕ). decimal_of k ++ (10 ∷ [])) number ∙ sym e) w
