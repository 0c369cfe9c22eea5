use borrow.Author.Rules.{rules}
use native.Mathlib.Omega.{arith}
use mathlib.Core.Path.{◌≡◌, refl, sym, ◌∙◌}
use lib.ListN.{length}
use Rattle.lists.specs.Tests.{both}
use Rattle.lists.proofs.Walk.{with-next, with-done}
use Rattle.protocol.specs.Limits.{length_limit}
use Rattle.ballots.specs.Ballots.{off_end}
use Rattle.lengths.proofs.Limit.{in_room, few-fine, past-fails, lens-tails}
use Rattle.lengths.proofs.within.Goals.{Start}
use Rattle.lengths.proofs.within.Goals as goal

eight : (s : Start) → length s.args.ballots ≡ 8
eight s = search rules

pub returns-then-settled : goal.returns-then-settled
unfolding length_limit
returns-then-settled c = sym (few-fine c.args.settled (search rules) c.args.ballots c.requires)

pub returns-then-settled-gt-LIMIT : goal.returns-then-settled-gt-LIMIT
unfolding length_limit
returns-then-settled-gt-LIMIT c = sym (past-fails c.args.settled (search rules) _)

pub loop-ballot-init : goal.loop-ballot-init
unfolding both
loop-ballot-init c = refl

pub loop-ballot-preserved : goal.loop-ballot-preserved
unfolding length_limit
loop-ballot-preserved c =
    let l = c.loop-ballot in
    with-next (in_room c.args.settled) off_end c.args.ballots l.good l.ballot-index l.invariant (omega (arith, eight (goal.at.loop-ballot-preserved c).Start)) _ refl

pub returns : goal.returns
unfolding length_limit
returns c =
    let l = c.loop-ballot in
    with-done (in_room c.args.settled) off_end c.args.ballots l.good l.ballot-index l.invariant (omega (arith, eight (goal.at.returns c).Start))
    ∙ sym (lens-tails c.args.settled (search rules) c.args.ballots c.requires)
