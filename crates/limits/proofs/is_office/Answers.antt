-- Past eight offices the definition fails; else an office below n decides, and leaves n at least 1.
use Rattle.protocol.specs.Limits.{is_office}
use native.Mathlib.Omega.{arith}
use mathlib.Core.Path.{sym, ◌∙◌}
use lib.Dec.{leb, ltb}
use borrow.Author.Tests.{ltb-true, le-leb, lt-leb}
use Rattle.lists.proofs.Tests.{alike, both-1, both_true, both-false-0, both-false-1}
use Rattle.limits.proofs.is_office.Goals as goal

pub returns-then-n-le-OFFICES : goal.returns-then-n-le-OFFICES
unfolding is_office
returns-then-n-le-OFFICES c =
    let a = c.args in
    alike (ltb a.k a.n) (is_office a.n a.k)
    (λ e. let h = ltb-true a.k a.n e in both_true _ _ (le-leb 1 a.n (omega arith)) (both_true _ _ (le-leb a.n 8 (omega arith)) e))
    (λ e. both-1 (leb a.n 8) _ (both-1 (leb 1 a.n) _ e))

pub returns-else-n-le-OFFICES : goal.returns-else-n-le-OFFICES
unfolding is_office
returns-else-n-le-OFFICES c = let a = c.args in lt-leb a.n 8 (omega arith) ∙ sym (both-false-1 _ _ (both-false-0 _ _ (lt-leb a.n 8 (omega arith))))
