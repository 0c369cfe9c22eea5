-- A walk from the front that makes every test.
use Prim.Native.Nat.{ℕ}
use lib.Dec.{leb}
use Rattle.lists.specs.Tests.{all_b}
use Rattle.lists.proofs.Walk.{AllWith}
use Rattle.kept_limits.proofs.codes_fine.Given as goal

abbrev pub invariant-loop-code : goal.invariant-loop-code
invariant-loop-code l = AllWith (all_b (λ (code : ℕ). leb code l.most) l.fn.codes) (λ (code : ℕ). leb code l.most) l.fn.codes l.good l.code-index
