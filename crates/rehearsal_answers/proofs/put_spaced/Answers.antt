-- A space, and the digits behind it.
use native.Mathlib.Omega.{arith}
use native.Mathlib.Numerals.{add-one}
use mathlib.Core.Path.{◌≡◌, ap, ◌∙◌}
use Prim.Native.Nat.{ℕ, ◌+◌}
use lib.ListN.{set, length-set}
use lib.Seq.{sets}
use Rattle.printing.specs.Printing.{decimal_of, printed_at}
use Rattle.printing.proofs.Digits.{printed-all}
use Rattle.rehearsal_answers.proofs.put_spaced.Goals as goal

pub returns : goal.returns
returns c =
    let a = c.args in
    let spaced = set a.out.now a.at 32 in
    let all : printed_at spaced (a.at + 1) a.n ≡ decimal_of a.n = printed-all spaced (a.at + 1) a.n (simp length-set (omega arith)) in
    let value = rw all at c.put_number.ensures.end in
    let written = rw all at c.put_number.ensures.output in
    record { end = omega (arith, value); output = written ∙ ap (λ (k : ℕ). sets spaced k (decimal_of a.n)) (add-one a.at) }
