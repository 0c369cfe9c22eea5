-- The invariant: what is left of the bytes, from what was summed so far, gives what all of them give.
use Rattle.std.specs.Slice.Iter.{chunks_exact_rest, chunks_exact_size}
use mathlib.Core.Path.{◌≡◌}
use Rattle.households.proofs.Walk.{Pooling}
use Rattle.households.proofs.pool.Given as goal

abbrev pub invariant-loop-household : goal.invariant-loop-household
invariant-loop-household l = (chunks_exact_size l.household-iterator ≡ 7) × Pooling l.s l.met l.totals (chunks_exact_rest l.household-iterator)
