-- The two stores are the two bytes of the definition.
use native.Mathlib.Numerals.{add-one}
use native.Mathlib.Omega.{arith}
use lib.ListN.{length-set}
use Rattle.spelling.specs.Spelling.{end_bytes}
use Rattle.writer.proofs.put_end.Goals as goal

pub returns : goal.returns
unfolding end_bytes
returns c = simp add-one

pub bounds-out-at-2 : goal.bounds-out-at-2
bounds-out-at-2 c = simp length-set (omega arith)
