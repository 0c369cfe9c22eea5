use borrow.Author.Rules.{rules}
use mathlib.Core.Path.{refl, sym, ap, ◌∙◌}
use lib.Dec.{eqb}
use Rattle.std.proofs.lemmas.List.{get_or-take}
use borrow.Author.Tests.{eq-eqb, ne_eqb}
use Prim.Native.Nat.{min, ◌<◌}
use lib.ListN.{get_or}
use Rattle.lists.proofs.Tests.{pick_true, pick-false}
use Rattle.protocol.specs.Folding.{least_known}
use Rattle.noting.proofs.Least.{known_next}
use Rattle.noting.proofs.least_known.Goals.{then-j-own, else-j-own}
use Rattle.noting.proofs.least_known.Goals as goal

pub loop-j-init : goal.loop-j-init
unfolding least_known
loop-j-init c = (search rules, refl)

pub loop-j-preserved : goal.loop-j-preserved
loop-j-preserved c =
    let l = c.loop-j in
    let a = c.args in
    let here : l.j < a.n = search rules in (
      search rules,
      known_next a.own a.settled a.noted l.j l.least l.invariant.1 _ (elim c.if-j-own.branch [
        | then-j-own w ↦
            w.least-is ∙ w.min-least.ensures ∙ ap (min l.least) (get_or-take a.n a.noted l.j 0 here) ∙ sym (pick-false (eqb l.j a.own) _ _ (ne_eqb _ _ w.if-j-own.true))
        | else-j-own w ↦ w.least-is ∙ sym (pick_true (eqb l.j a.own) _ _ (eq-eqb _ _ w.if-j-own.false))
      ]),
    )
