use borrow.Author.Rules.{rules}
use borrow.Author.Tests.{leb-true, le-leb, ltb-true, lt-ltb}
use native.Mathlib.Omega.{arith}
use mathlib.Core.Path.{◌≡◌, refl}
use Prim.Native.Nat.{ℕ}
use lib.Dec.{leb, ltb}
use lib.ListN.{get_or}
use Rattle.lists.specs.Tests.{both}
use Rattle.lists.proofs.Tests.{alike}
use Rattle.lists.proofs.Walk.{with-next, with-done}
use Rattle.earlier.proofs.of_frame.Invariants.{is_line}
use Rattle.earlier.proofs.of_frame.Goals as goal

below_64 : (line : ℕ) → ltb line 64 ≡ is_line line
below_64 line = alike (ltb line 64) (leb line 63) (λ e. le-leb line 63 (omega (arith, ltb-true line 64 e))) (λ e. lt-ltb line 64 (omega (arith, leb-true line 63 e)))

pub loop-line-init : goal.loop-line-init
unfolding both
loop-line-init c = refl

pub loop-line-preserved : goal.loop-line-preserved
loop-line-preserved c =
    let l = c.loop-line in
    let lines = c.args.lines.now in
    with-next is_line 0 lines l.good l.line-index l.invariant (search rules) _ (below_64 (get_or lines l.line-index 0))

pub returns : goal.returns
returns c = let l = c.loop-line in with-done is_line 0 c.args.lines.now l.good l.line-index l.invariant (search rules)
