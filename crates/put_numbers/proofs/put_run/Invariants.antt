-- The invariant: what is left to store, from the position on, gives all that is to be stored.
use Rattle.numbers.proofs.Steps.{Storing}
use Rattle.put_numbers.proofs.put_run.Given as goal

abbrev pub invariant-loop-x : goal.invariant-loop-x
invariant-loop-x g l =
    let n = g.I.Item in
    Storing n.SIZE n.bytes l.initial.out l.at l.xs l.out l.p l.x-index
