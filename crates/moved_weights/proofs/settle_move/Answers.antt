-- Each test that fails says why the entry moves nothing; where none does, the two stores are the move.
use native.Mathlib.Omega.{arith}
use Rattle.moved_weights.proofs.Moves.{stays, stays-far, stays-poor, stays-full, shifted}
use Rattle.moved_weights.proofs.settle_move.Goals as goal

pub returns-then-line-lt64 : goal.returns-then-line-lt64
returns-then-line-lt64 c = let a = c.args in stays a.weights.now a.word (λ m. omega (arith, m.line))

pub returns-then-to-ge8 : goal.returns-then-to-ge8
returns-then-to-ge8 c = let a = c.args in stays a.weights.now a.word (λ m. omega (arith, m.there))

pub returns-then-from-ge8 : goal.returns-then-from-ge8
returns-then-from-ge8 c = let a = c.args in stays-far a.weights.now a.word (omega arith)

pub returns-then-from-to : goal.returns-then-from-to
returns-then-from-to c = let a = c.args in stays a.weights.now a.word (λ m. m.other (omega arith))

pub returns-then-has-code : goal.returns-then-has-code
returns-then-has-code c =
    let a = c.args in
    stays-poor a.weights.now a.word _ _ _ c.office_of-from.ensures.0
    c.line_of-line.ensures.0
    c.code_of-code.ensures.0 c.if-has-code.true

pub returns-then-gets-code : goal.returns-then-gets-code
returns-then-gets-code c =
    let a = c.args in
    stays-full a.weights.now a.word _ _ _ c.office_of-from.ensures.0
    c.line_of-line.ensures.0
    c.code_of-code.ensures.0 c.if-gets-code.true

pub returns : goal.returns
returns c =
    let a = c.args in
    let line = c.line_of-line in
    let office = c.office_of-from in
    let code = c.code_of-code in
    shifted a.weights.now a.word office.result line.result code.result office.ensures.0 line.ensures.0
    code.ensures.0 (omega arith) (omega arith) (λ q. omega arith) (omega arith) (omega arith) code.ensures.1
