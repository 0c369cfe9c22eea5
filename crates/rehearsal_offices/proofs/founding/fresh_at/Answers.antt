-- The office's log is its piece of all the logs.
use mathlib.Core.Path.{◌≡◌, ap, ◌∙◌}
use native.Mathlib.Omega.{arith}
use Prim.Native.Nat.{ℕ, ◌+◌, ◌-◌, ◌*◌}
use lib.ListN.{take, drop}
use Rattle.frame.specs.declared.founding.Founded.{Founded}
use Rattle.frame.specs.Founding.{found_of}
use Rattle.rehearsal_offices.specs.Founding.{fresh_at}
use Rattle.rehearsal_offices.proofs.founding.fresh_at.Goals as goal

pub returns : goal.returns
unfolding fresh_at
returns c =
    let a = c.args in
    let from = a.k * 1024 in
    let w : from + 1024 - from ≡ 1024 = omega arith in
    ap (λ (f : Founded). f.record) c.found.ensures ∙ ap (λ (size : ℕ). (found_of a.n a.k a.weights (take size (drop from a.logs.now))).record) w
