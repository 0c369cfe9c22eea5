use Rattle.std.proofs.Common.{rules, ◌≡◌, length}
use Rattle.lists.proofs.Tests.{length-mapped}
use Rattle.tabulation.proofs.Cells.{inserted}
use Rattle.tabulation.proofs.insert.Goals as goal

pub returns : goal.returns
returns c =
    let a = c.args in
    let full : length a.rows ≡ 64 = search (rules, length-mapped) in
    rw (c.copy_within.ensures.after) (inserted a.rows a.at a.row full c.requires)
