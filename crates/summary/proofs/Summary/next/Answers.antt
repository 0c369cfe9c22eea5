-- The weights with the entry's move, and the codes with its code: a line of the frame has a place; any other entry is for none, and the store of the
-- definition leaves the codes.
use borrow.Author.Rules.{rules}
use native.Mathlib.Omega.{arith}
use mathlib.Core.Path.{◌≡◌, sym, ap₂}
use Prim.Native.Nat.{suc}
use lib.ListN.{length, set}
use lib.Seq.{set_out}
use Rattle.protocol.specs.Entry.{line_of, code_of}
use Rattle.summary.proofs.Summary.next.Goals as goal

pub returns-then-line-lt64 : goal.returns-then-line-lt64
returns-then-line-lt64 c =
    let a = c.args in
    let codes = ap₂ (set a.self.codes) c.line_of-line.ensures.0 c.cell_of.ensures in
    λ i. record { present = c.moved.ensures i; codes = codes i }

pub returns-else-line-lt64 : goal.returns-else-line-lt64
returns-else-line-lt64 c =
    let a = c.args in
    let all : length a.self.codes ≡ 64 = search rules in
    let codes = sym (set_out a.self.codes (line_of a.word) (suc (code_of a.word)) (omega (arith, c.line_of-line.ensures.0))) in
    λ i. record { present = c.moved.ensures i; codes = codes i }
