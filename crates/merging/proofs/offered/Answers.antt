-- An offer that is not longer than the words and the own tail together changes nothing.
use borrow.Author.Rules.{rules}
use native.Mathlib.Omega.{arith}
use mathlib.Core.Path.{◌≡◌}
use lib.ListN.{length, length-take}
use Rattle.merging.proofs.Walks.{offer-short}
use Rattle.merging.proofs.offered.Goals as goal

pub returns-then-saturating_sub-b : goal.returns-then-saturating_sub-b
returns-then-saturating_sub-b c =
    let a = c.args in
    let hb : length a.b.cells ≡ 32 = search rules in
    let hq : length a.offer.cells ≡ 32 = search rules in
    offer-short a.words.now a.b a.offer (simp length-take (omega (arith, c.saturating_sub.ensures)))
