-- Four walks in one, each of which joins every raised cell, as the walk over a slice of words does.
use Prim.Native.Nat.{ℕ, ◌≤◌}
use mathlib.Core.List.{List}
use Rattle.lists.specs.Tests.{all_b}
use Rattle.entries.specs.Carries.{is_coding, no_carry}
use Rattle.lists.proofs.Walk.{AllWith}
use Rattle.eight_ballots.proofs.four_coding.Given as goal

-- one walk
abbrev pub Joined : ℕ → List ℕ → ℕ → ℕ → Type 0
Joined n cells bits i = AllWith (all_b (is_coding n) cells) (is_coding n) cells (no_carry bits) i

abbrev pub invariant-loop-i : goal.invariant-loop-i
invariant-loop-i l = (l.i ≤ 32) × (Joined l.n l.w l.p l.i × (Joined l.n l.x l.q l.i × (Joined l.n l.y l.r l.i × Joined l.n l.z l.s l.i)))
