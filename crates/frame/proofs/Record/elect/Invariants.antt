-- A record that passed the test runs through election steps: `Run` says what each of them leaves. The loop does not name the test, so its invariant is
-- for a record that passed it.
use mathlib.Core.Path.{◌≡◌}
use Prim.Native.Nat.{◌-◌}
use lib.ListN.{take}
use Rattle.protocol.specs.Counts.{counts_after}
use Rattle.frame.specs.State.{held_length}
use Rattle.frame.specs.Soundness.{Sound}
use Rattle.frame.proofs.Steps.{Run}
use Rattle.frame.proofs.Record.elect.Given as goal

abbrev pub invariant-loop-now : goal.invariant-loop-now
invariant-loop-now l = Sound l.initial.now l.initial.log → l.initial.counts ≡ counts_after l.initial.now.kept.counts (take (held_length l.initial.now) l.initial.log) → Run l.initial.now l.initial.log l.now l.log l.counts l.count

abbrev pub decreases-loop-now : goal.decreases-loop-now
decreases-loop-now l = 1024 - l.count
