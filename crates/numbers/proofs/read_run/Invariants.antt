-- The invariant: what is left to store from the position on gives all that is to be stored.
use lib.ListN.{length}
use Rattle.numbers.proofs.Steps.{Filling}
use Rattle.numbers.proofs.read_run.Given as goal

abbrev pub invariant-loop-cell : goal.invariant-loop-cell
invariant-loop-cell g l =
    let n = g.N.Number in
    Filling n.SIZE n.number l.initial.cell-items l.s l.from (length l.initial.cell-items) l.cell-items l.at l.cell-index
