-- The definition's sum: at most 256 offices, so each part fits. It carries where the word is no entry that codes a line.
use native.Mathlib.Omega.{arith}
use mathlib.Core.Path.{◌≡◌, ap, ◌∙◌}
use Prim.Native.Nat.{ℕ, ◌+◌, ◌-◌, ◌*◌, ◌/◌, ◌%◌}
use lib.Dec.{leb}
use Rattle.lists.specs.Tests.{pick}
use Rattle.entries.specs.Carries.{raised, no_carry}
use Rattle.entries.proofs.Carries.{no-carry-raised}
use Rattle.entries.proofs.Word.{at-most-256}
use Rattle.entries.proofs.raised.Goals as goal

pub overflow_sub-result : goal.overflow_sub-result
overflow_sub-result c = rw c.offices.ensures (at-most-256 c.args.n)

-- the sum as the definition has it
made : (n word m : ℕ) → m ≡ pick (leb n 256) n 256 → word / 16777216 * 8388608 + (word / 4194304 % 4 * 2097152 + word % 65536 / 2) + ((256 - m) * 8388608 + 27768) ≡ raised n word
unfolding raised
made n word m e = rw e

pub returns : goal.returns
returns c = let a = c.args in let m = made a.n a.word c.offices.result c.offices.ensures in (m, ap no_carry m ∙ no-carry-raised a.n a.word (omega arith))
