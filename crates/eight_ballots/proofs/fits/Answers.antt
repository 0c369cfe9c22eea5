-- The tests in the order of the definition.
use native.Mathlib.Omega.{arith}
use Prim.Native.Nat.{◌+◌, ◌-◌}
use lib.Dec.{leb}
use borrow.Author.Tests.{lt-ltb, le-ltb, le-leb, leb-true, lt-leb}
use Rattle.lists.proofs.Tests.{alike}
use Rattle.lists.specs.Tests.{both, pick}
use Rattle.eight_ballots.specs.Fours.{fits_at}
use Rattle.eight_ballots.proofs.fits.Goals as goal

pub returns-then-place-n : goal.returns-then-place-n
unfolding fits_at pick
returns-then-place-n c = let a = c.args in simp (le-ltb a.place a.n (omega arith))

pub returns-then-len-gt-CELLS : goal.returns-then-len-gt-CELLS
unfolding fits_at both pick
returns-then-len-gt-CELLS c = let a = c.args in simp (lt-ltb a.place a.n (omega arith), lt-leb a.len 32 (omega arith))

pub returns : goal.returns
unfolding fits_at both pick
returns c =
    let a = c.args in
    rw (lt-ltb a.place a.n (omega arith), le-leb a.len 32 (omega arith))
    (alike (leb a.held (1024 - a.len)) (leb (a.held + a.len) 1024)
    (λ e. le-leb (a.held + a.len) 1024 (omega (arith, leb-true a.held (1024 - a.len) e)))
    (λ e. le-leb a.held (1024 - a.len) (omega (arith, leb-true (a.held + a.len) 1024 e))))
