-- The bytes at the position are those of the list from the position on.
use Rattle.numbers.specs.Numbers.{be16}
use native.Mathlib.Nat.{add-zero}
use lib.Seq.{get_or-drop}
use native.Mathlib.Omega.{arith}
use Rattle.numbers.proofs.U16Number.read_at.Goals as goal

pub returns : goal.returns
unfolding be16
returns c = simp (get_or-drop, add-zero) (omega (arith, c.from_be_bytes.ensures))
