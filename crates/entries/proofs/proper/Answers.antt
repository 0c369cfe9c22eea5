-- The tests of the definition: the code on a line of the frame, and on a line of moves the office and the code.
use native.Mathlib.Omega.{arith}
use mathlib.Core.Bool.{◌&&◌}
use Prim.Native.Nat.{◌-◌}
use lib.Dec.{leb, ltb}
use borrow.Author.Tests.{leb-true, le-leb, ltb-true, lt-ltb}
use Rattle.lists.proofs.Tests.{alike, and-true, and-of}
use Rattle.protocol.specs.Entry.{proper}
use Rattle.protocol_laws.proofs.Moves.{proper-true, proper-of}
use Rattle.entries.proofs.proper.Goals as goal

pub returns-then-line-lt-LINES : goal.returns-then-line-lt-LINES
returns-then-line-lt-LINES c =
    let a = c.args in
    alike (ltb a.code 10000) (proper a.n a.line a.code)
    (λ e. let h = ltb-true a.code 10000 e in proper-of _ _ _ (record { line_ok = omega arith; code_ok = omega arith; some = λ m. absurd (omega arith) }))
    (λ e. let p = proper-true _ _ _ e in lt-ltb a.code 10000 (omega (arith, p.code_ok)))

pub returns : goal.returns
returns c =
    let a = c.args in
    alike (ltb (a.line - 64) a.n && (leb 1 a.code && ltb a.code 10000)) (proper a.n a.line a.code)
    (λ e. let both = and-true (ltb (a.line - 64) a.n) _ e in
    let code = and-true (leb 1 a.code) _ both.1 in
    let l = ltb-true (a.line - 64) a.n both.0 in
    let s = leb-true 1 a.code code.0 in
    let h = ltb-true a.code 10000 code.1 in
    proper-of _ _ _ (record { line_ok = omega arith; code_ok = omega arith; some = λ _. omega arith }))
    (λ e. let p = proper-true _ _ _ e in
    and-of _ _ (let h = p.line_ok in lt-ltb (a.line - 64) a.n (omega arith))
    (and-of _ _ (le-leb 1 a.code (p.some (omega arith))) (lt-ltb a.code 10000 (omega (arith, p.code_ok)))))
