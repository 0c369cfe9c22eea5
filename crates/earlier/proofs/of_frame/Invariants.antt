-- A walk that makes every test, so that it runs on vectors.
use mathlib.Core.Bool.{Bool}
use Prim.Native.Nat.{ℕ}
use lib.Dec.{leb}
use Rattle.lists.proofs.Walk.{AllWith}
use Rattle.runs.specs.Runs.{of_frame}
use Rattle.earlier.proofs.of_frame.Given as goal

-- the test of a line
abbrev pub is_line : ℕ → Bool
is_line line = leb line 63

abbrev pub invariant-loop-line : goal.invariant-loop-line
invariant-loop-line l = AllWith (of_frame l.lines) is_line l.lines l.good l.line-index
