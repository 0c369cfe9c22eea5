-- The own place, and any other.
use native.Mathlib.Omega.{arith}
use mathlib.Core.Path.{sym}
use borrow.Author.Tests.{eq-eqb, ne_eqb}
use Rattle.lists.proofs.Tests.{pick_true, pick-false}
use Rattle.merging.proofs.giver.Goals as goal

pub returns-then-i-own : goal.returns-then-i-own
returns-then-i-own c = let h = c.requires.1 in (sym (pick_true _ _ _ (eq-eqb c.args.i c.args.own c.if-i-own.true)), omega arith)

pub returns-else-i-own : goal.returns-else-i-own
returns-else-i-own c = let h = c.requires.0 in (sym (pick-false _ _ _ (ne_eqb c.args.i c.args.own c.if-i-own.false)), omega arith)
