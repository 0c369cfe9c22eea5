use borrow.Author.Rules.{rules}
use native.Mathlib.Omega.{arith}
use mathlib.Core.Path.{◌≡◌, refl, ◌∙◌}
use lib.ListN.{length}
use Rattle.lists.specs.Tests.{both}
use Rattle.lists.proofs.Walk.{with-next, with-done}
use Rattle.protocol.specs.Entry.{is_entry}
use Rattle.eight_ballots.proofs.Fours.{all-cells}
use Rattle.eight_ballots.proofs.entry_cells.Goals as goal

pub loop-cell-init : goal.loop-cell-init
unfolding both
loop-cell-init c = refl

pub loop-cell-preserved : goal.loop-cell-preserved
loop-cell-preserved c =
    let full : length c.args.b.cells ≡ 32 = search rules in
    let l = c.loop-cell in
    with-next (is_entry c.args.n) 0 c.args.b.cells l.good l.cell-index l.invariant (omega (arith, full)) _ c.is_entry-good.ensures

pub returns : goal.returns
returns c =
    let full : length c.args.b.cells ≡ 32 = search rules in
    let l = c.loop-cell in
    with-done (is_entry c.args.n) 0 c.args.b.cells l.good l.cell-index l.invariant (omega (arith, full)) ∙ all-cells (is_entry c.args.n) c.args.b full
