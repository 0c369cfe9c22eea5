-- The tests in the order of the definition.
use native.Mathlib.Omega.{arith}
use mathlib.Core.Path.{◌≡◌, sym, ◌∙◌}
use mathlib.Core.Bool.{true}
use mir.Syntax.{w16}
use mir.Val.{Fits}
use lib.Dec.{eqb, leb}
use lib.ListN.{length, get_or, drop}
use borrow.Author.Tests.{lt-ltb, eq-eqb}
use borrow.Author.Rules.{rules}
use Rattle.lists.specs.Tests.{both, all_b}
use Rattle.lists.proofs.Tests.{all_of, both-assoc, both-then, both-else}
use Rattle.protocol.specs.Limits.{is_office, is_weight, weights_fine, head_fine, total}
use Rattle.limits.proofs.head_fine.Goals.{Start, Joined-is_office, then-is_office, else-is_office}
use Rattle.limits.proofs.head_fine.Goals as goal

-- the array has eight elements, and they are below 65536 by their type
tests : (c : Start) → let a = c.args in both (both (is_office a.n a.own) (all_b (eqb 0) (drop a.n a.weights))) (leb 1 (total a.weights)) ≡ head_fine a.n a.own a.weights
unfolding head_fine weights_fine is_weight both
tests c = let a = c.args in both-assoc (is_office a.n a.own) (all_b (eqb 0) (drop a.n a.weights)) (leb 1 (total a.weights)) ∙ rw (eight, weighed)
  where
    weighed : all_b is_weight c.args.weights ≡ true
    weighed = all_of is_weight 0 c.args.weights (λ i h. let f : Fits w16 (get_or c.args.weights i 0) = search rules in lt-ltb (get_or c.args.weights i 0) 65536 (omega arith))

    eight : eqb (length c.args.weights) 8 ≡ true
    eight = let h : length c.args.weights ≡ 8 = search rules in eq-eqb (length c.args.weights) 8 h

-- the first two tests
two : (c : Joined-is_office) → c.if-is_office.value ≡ both (is_office c.args.n c.args.own) (all_b (eqb 0) (drop c.args.n c.args.weights))
two c = elim c.if-is_office.branch [
  | then-is_office w ↦ w.value-is ∙ w.zero_from.ensures ∙ both-then (sym (w.if-is_office.ensures))
  | else-is_office w ↦ w.value-is ∙ c.is_office.ensures ∙ both-else _ (sym (w.if-is_office.ensures))
]

pub returns-then-zero_from : goal.returns-then-zero_from
returns-then-zero_from c = let p = goal.at.returns-then-zero_from c in rw c.total.ensures (both-then (sym (two p.Joined-is_office) ∙ c.if-zero_from.true) ∙ tests p.Start)

pub returns-else-zero_from : goal.returns-else-zero_from
returns-else-zero_from c = let p = goal.at.returns-else-zero_from c in let e = two p.Joined-is_office in e ∙ both-else _ (sym e ∙ c.if-zero_from.false) ∙ tests p.Start
