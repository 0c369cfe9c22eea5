use borrow.Author.Rules.{rules}
use native.Mathlib.Omega.{arith}
use mathlib.Core.Path.{◌≡◌, refl, ap}
use lib.Dec.{leb}
use lib.ListN.{length, get_or}
use Rattle.soundness.proofs.Noted.{limits-next, limits-done}
use Rattle.soundness.proofs.noted_fine.Goals as goal

pub loop-place-init : goal.loop-place-init
loop-place-init c = ((λ t j h. absurd (omega arith)), λ F. refl)

pub loop-place-preserved : goal.loop-place-preserved
loop-place-preserved c =
    let l = c.loop-place in
    let a = c.args in
    limits-next a.n a.own a.settled a.noted l.good l.place l.invariant _ (ap (leb (get_or a.noted l.place 0)) c.limit_at.ensures)

pub returns : goal.returns
returns c =
    let l = c.loop-place in
    let a = c.args in
    let h : length a.noted ≡ 8 = search rules in
    limits-done a.n a.own a.settled a.noted l.good l.place l.invariant h (omega arith)
