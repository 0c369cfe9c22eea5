-- A walk from the front: what is left of the bounds fits as all of them do.
use Rattle.std.proofs.Common.{◌≡◌, length, take, drop}
use Rattle.bounds.specs.Bounds.{fits}
use Rattle.bounds.proofs.Bounds.fit.Given as goal

abbrev pub invariant-loop-low : goal.invariant-loop-low
invariant-loop-low l =
    fits (take l.n l.self.lowest) (take l.n l.self.highest)
    ≡ fits (drop (length l.yielded) (take l.n l.self.lowest)) (drop (length l.yielded) (take l.n l.self.highest))
