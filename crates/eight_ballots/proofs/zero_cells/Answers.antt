use borrow.Author.Rules.{rules}
use native.Mathlib.Omega.{arith}
use mathlib.Core.Path.{◌≡◌, refl}
use lib.Dec.{eqb}
use lib.ListN.{length}
use Rattle.lists.specs.Tests.{both}
use Rattle.lists.proofs.Walk.{with-next, with-done}
use Rattle.eight_ballots.proofs.zero_cells.Goals as goal

pub loop-cell-init : goal.loop-cell-init
unfolding both
loop-cell-init c = refl

pub loop-cell-preserved : goal.loop-cell-preserved
loop-cell-preserved c =
    let l = c.loop-cell in
    let a = c.args in
    let h : length a.cells ≡ 32 = search rules in
    with-next (eqb 0) 0 a.cells l.good l.cell-index l.invariant (omega arith) _ refl

pub returns : goal.returns
returns c = let l = c.loop-cell in let a = c.args in let h : length a.cells ≡ 32 = search rules in with-done (eqb 0) 0 a.cells l.good l.cell-index l.invariant (omega arith)
