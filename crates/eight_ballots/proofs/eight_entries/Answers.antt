use borrow.Author.Rules.{rules}
use native.Mathlib.Omega.{arith}
use mathlib.Core.Path.{◌≡◌, refl}
use lib.ListN.{length}
use Rattle.lists.specs.Tests.{both}
use Rattle.lists.proofs.Walk.{with-next, with-done}
use Rattle.ballots.specs.Ballots.{off_end}
use Rattle.eight_ballots.specs.Fours.{entry_cells}
use Rattle.eight_ballots.proofs.eight_entries.Goals as goal

pub loop-b-init : goal.loop-b-init
unfolding both
loop-b-init c = refl

pub loop-b-preserved : goal.loop-b-preserved
loop-b-preserved c =
    let eight : length c.args.all ≡ 8 = search rules in
    let l = c.loop-b in
    with-next (entry_cells c.args.n) off_end c.args.all l.good l.b-index l.invariant (omega (arith, eight)) _ c.entry_cells-good.ensures

pub returns : goal.returns
returns c =
    let eight : length c.args.all ≡ 8 = search rules in
    let l = c.loop-b in with-done (entry_cells c.args.n) off_end c.args.all l.good l.b-index l.invariant (omega (arith, eight))
