-- A mask of all bits leaves a word of 32 bits as it is.
use mathlib.Core.Path.{refl, ap, ◌∙◌}
use native.Mathlib.Omega.{arith}
use lib.Bits.{bit_and, and_mask}
use Rattle.eight_ballots.proofs.masked.Goals as goal

pub returns : goal.returns
returns c = (refl, λ e. ap (bit_and c.args.word) e ∙ and_mask c.args.word 32 ∙ omega arith)
