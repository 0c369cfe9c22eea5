-- For the frame's rule: the theorem on lists. Assumes nothing.
use mathlib.Core.List.{List}
use Prim.Native.Nat.{ℕ, ◌<◌, ◌≤◌}
use Rattle.protocol.specs.SettledRule.{by_settled}
use Rattle.protocol.proofs.World.{Call}
use Rattle.one_order.proofs.Lawful.{settled-lawful}
use Rattle.one_order.proofs.OneOrder.{OneOrder, one-order-of}

-- "One order behind all offices must still be found when such entries are among the edits."
pub one-order : (founding : List ℕ) (n : ℕ) → n ≤ 8 → 0 < n → (cs : List Call) → OneOrder (by_settled founding) n cs
one-order founding n most pos cs = one-order-of (by_settled founding) n (settled-lawful founding) most pos cs
