use borrow.Author.Rules.{rules}
use native.Mathlib.Omega.{arith}
use mathlib.Core.Path.{◌≡◌, refl}
use lib.ListN.{length}
use Rattle.lists.specs.Tests.{both}
use Rattle.lists.proofs.Tests.{all-at}
use Rattle.lists.proofs.Walk.{with-next, with-done}
use Rattle.ballots.specs.Ballots.{off_end}
use Rattle.eight_ballots.specs.Fours.{fair_tail, padded_entries}
use Rattle.eight_ballots.proofs.eight_fair.Goals as goal

pub loop-b-init : goal.loop-b-init
unfolding both
loop-b-init c = refl

pub loop-b-preserved : goal.loop-b-preserved
loop-b-preserved c =
    let eight : length c.args.all ≡ 8 = search rules in
    let l = c.loop-b in
    with-next (fair_tail c.args.n) off_end c.args.all l.good l.b-index l.invariant (omega (arith, eight)) _ c.fair_tail-good.ensures

pub fair_tail-good-requires : goal.fair_tail-good-requires
fair_tail-good-requires c =
    let eight : length c.args.all ≡ 8 = search rules in
    (c.requires.0, (c.requires.1.0, all-at (padded_entries c.args.n) off_end c.args.all c.loop-b.b-index c.requires.1.1 (omega (arith, eight))))

pub returns : goal.returns
returns c =
    let eight : length c.args.all ≡ 8 = search rules in
    let l = c.loop-b in with-done (fair_tail c.args.n) off_end c.args.all l.good l.b-index l.invariant (omega (arith, eight))
