-- The log's first words after elect, as many as it answers, and a newline behind them.
use native.Mathlib.Omega.{arith}
use mathlib.Core.Path.{◌≡◌, ap, ap₂, ◌∙◌}
use mathlib.Core.List.{List}
use Prim.Native.Nat.{ℕ, ◌+◌, ◌<◌}
use lib.ListN.{length, take}
use lib.Seq.{sets}
use Rattle.frame.specs.declared.electing.Elected.{Elected}
use Rattle.table_lines.specs.Lines.{shown, settled_from, few}
use Rattle.table_lines.proofs.Shown.{shown-short, put_last}
use Rattle.table_lines.proofs.lines.put_settled.Goals as goal
use Rattle.table_lines.proofs.lines.put_settled.Goals.{After-put_entries-next}

-- the log's first words are those that are settled, and leave a byte
settled : (c : After-put_entries-next) → take c.elect-elected.result.count c.elect-elected.new.log ≡ settled_from c.args.«record»
settled c = ap₂ take (ap (λ (x : Elected). x.count) c.elect-elected.ensures.0) c.elect-elected.ensures.1

room : (c : After-put_entries-next) → c.put_entries-next.result < length c.put_entries-next.new.out
room c =
    let put = c.put_entries-next in
    let entries = take c.elect-elected.result.count c.elect-elected.new.log in
    omega (arith, put.ensures.end, put.auto.out, shown-short entries (ap few (settled c) ∙ c.requires.0), c.requires.1.1)

pub bounds-out-next : goal.bounds-out-next
bounds-out-next c = room (goal.at.bounds-out-next c).After-put_entries-next

pub overflow_add-result : goal.overflow_add-result
overflow_add-result c =
    let h = room (goal.at.overflow_add-result c).After-put_entries-next in
    omega (arith, h, c.put_entries-next.auto.out, c.well_formed.0.0)

pub returns : goal.returns
returns c =
    let a = c.args in
    let put = c.put_entries-next in
    let e = settled (goal.at.returns c).After-put_entries-next in
    let end = put.ensures.end ∙ ap (λ (l : List ℕ). a.at + length (shown l)) e in
    let output = put.ensures.output ∙ ap (λ (l : List ℕ). sets a.out.now a.at (shown l)) e in
    let both = put_last a.out.now put.new.out (shown (settled_from a.«record»)) a.at put.result 10 end output in
    record { end = both.0; output = both.1 }
