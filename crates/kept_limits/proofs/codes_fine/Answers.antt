use borrow.Author.Rules.{rules}
use native.Mathlib.Omega.{arith}
use mathlib.Core.Path.{◌≡◌, refl}
use Prim.Native.Nat.{ℕ}
use lib.Dec.{leb}
use lib.ListN.{length}
use Rattle.lists.specs.Tests.{both}
use Rattle.lists.proofs.Walk.{with-next, with-done}
use Rattle.kept_limits.proofs.codes_fine.Goals as goal

pub loop-code-init : goal.loop-code-init
unfolding both
loop-code-init c = refl

pub loop-code-preserved : goal.loop-code-preserved
loop-code-preserved c =
    let all : length c.args.codes ≡ 64 = search rules in
    let l = c.loop-code in with-next (λ (code : ℕ). leb code c.args.most) 0 c.args.codes l.good l.code-index l.invariant (omega (arith, all)) _ refl

pub returns : goal.returns
returns c =
    let all : length c.args.codes ≡ 64 = search rules in
    let l = c.loop-code in with-done (λ (code : ℕ). leb code c.args.most) 0 c.args.codes l.good l.code-index l.invariant (omega (arith, all))
