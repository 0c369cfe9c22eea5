-- Four walks in one, each of which joins the cells under their masks.
use Prim.Native.Nat.{◌≤◌}
use Rattle.eight_ballots.proofs.Fours.{Unused}
use Rattle.eight_ballots.proofs.four_unused.Given as goal

abbrev pub invariant-loop-i : goal.invariant-loop-i
invariant-loop-i l = (l.i ≤ 32) × (Unused l.w l.j l.p l.i × (Unused l.x l.k l.q l.i × (Unused l.y l.l l.r l.i × Unused l.z l.m l.s l.i)))
