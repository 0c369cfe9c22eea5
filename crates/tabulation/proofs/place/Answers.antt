use Rattle.std.proofs.Common.{rules, arith, ◌≡◌, length, take}
use Rattle.std.proofs.lemmas.Iterator.Search.{position_from_yields_List}
use Rattle.std.proofs.lemmas.Iterator.{YieldsList-from_slice}
use borrow.Author.Tests.{tests}
use lib.Seq.{length-take-le}
use Rattle.lists.proofs.Tests.{length-mapped}
use Rattle.tabulation.proofs.Cells.{Reached, place-found}
use Rattle.tabulation.proofs.place.Goals as goal

pub returns : goal.returns
returns c =
    let a = c.args in
    let full : length a.rows ≡ 64 = search (rules, length-mapped) in
    let long : length (take a.count a.rows) ≡ a.count = length-take-le a.count a.rows (omega arith) in
    let found = position_from_yields_List (Reached a.class) _ _ c.position.result c.position.ensures.ran (YieldsList-from_slice (take a.count a.rows) (cc)) (λ x b q k. search (rules, tests)) in
    rw c.unwrap_or.ensures (place-found a.class a.count (take a.count a.rows) c.position.result long found)
