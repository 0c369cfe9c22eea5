use borrow.Author.Rules.{rules}
use native.Mathlib.Omega.{arith}
use mathlib.Core.Path.{◌≡◌}
use lib.ListN.{length}
use Rattle.kept_limits.proofs.Left.{left-next, left-short, left_end}
use Rattle.kept_limits.proofs.add_up.Goals as goal

pub loop-count-init : goal.loop-count-init
loop-count-init c = omega arith

pub returns-then-count-left : goal.returns-then-count-left
returns-then-count-left c =
    let eight : length c.args.counts ≡ 8 = search rules in
    let l = c.loop-count in left-short c.args.dropped c.args.counts l.left l.count-index l.invariant (omega (arith, eight)) (omega arith)

pub loop-count-preserved : goal.loop-count-preserved
loop-count-preserved c =
    let eight : length c.args.counts ≡ 8 = search rules in
    let l = c.loop-count in
    left-next c.args.dropped c.args.counts l.left l.count-index l.invariant (omega (arith, eight)) _ (omega arith)

pub returns : goal.returns
returns c =
    let eight : length c.args.counts ≡ 8 = search rules in
    let l = c.loop-count in left_end c.args.dropped c.args.counts l.left l.count-index l.invariant (omega (arith, eight))
