-- The length, the summary and the counts with the entries.
use native.Mathlib.Omega.{arith}
use Prim.Native.Nat.{◌+◌}
use lib.ListN.{length}
use Rattle.kept.proofs.Kept.after.Goals as goal

pub counts_after-requires : goal.counts_after-requires
counts_after-requires c = let R = c.requires in (R.short, λ k. omega (arith, R.within k, R.fits))

pub returns : goal.returns
returns c =
    let a = c.args in
    λ i. record { dropped = a.self.dropped + length a.words.now; summary = c.after.ensures i; counts = c.counts_after.ensures i }
