use native.Mathlib.Omega.{arith}
use mathlib.Core.Path.{◌≡◌, refl, sym, ◌∙◌}
use mathlib.Core.Bool.{Bool, true, false}
use Prim.Native.Nat.{min}
use lib.Dec.{leb}
use borrow.Author.Tests.{leb-true, leb-false}
use Rattle.lists.specs.Tests.{pick}
use Rattle.lists.proofs.Tests.{pick_true, pick-false}
use Rattle.entries.proofs.offices.Goals as goal

pub returns : goal.returns
returns c = c.min.ensures ∙ go (leb c.args.n 256) refl
  where
    go : (t : Bool) → leb c.args.n 256 ≡ t → min c.args.n 256 ≡ pick (leb c.args.n 256) c.args.n 256
    go true e = let h = leb-true c.args.n 256 e in omega arith ∙ sym (pick_true _ c.args.n 256 e)
    go false e = let h = leb-false c.args.n 256 e in omega arith ∙ sym (pick-false _ c.args.n 256 e)
