-- The entries, and a space behind them.
use native.Mathlib.Omega.{arith}
use Prim.Native.Nat.{◌<◌}
use lib.ListN.{length}
use Rattle.ballots.specs.Ballots.{tail_of}
use Rattle.table_lines.specs.Lines.{shown}
use Rattle.table_lines.proofs.Shown.{shown-short, put_last}
use Rattle.table_lines.proofs.lines.put_ballot.Goals as goal
use Rattle.table_lines.proofs.lines.put_ballot.Goals.{After-put_entries-next}

-- the entries leave a byte
room : (c : After-put_entries-next) → c.put_entries-next.result < length c.put_entries-next.new.out
room c =
    let put = c.put_entries-next in
    omega (arith, put.ensures.end, put.auto.out, shown-short (tail_of c.args.ballot) c.requires.0, c.requires.1.1)

pub bounds-out-next : goal.bounds-out-next
bounds-out-next c = room (goal.at.bounds-out-next c).After-put_entries-next

pub overflow_add-result : goal.overflow_add-result
overflow_add-result c =
    let h = room (goal.at.overflow_add-result c).After-put_entries-next in
    omega (arith, h, c.put_entries-next.auto.out, c.well_formed.0.0)

pub returns : goal.returns
returns c =
    let a = c.args in
    let put = c.put_entries-next in
    let both = put_last a.out.now put.new.out (shown (tail_of a.ballot)) a.at put.result 32 put.ensures.end put.ensures.output in
    record { end = both.0; output = both.1 }
