-- What the chain counts is the common beginning.
use Rattle.std.proofs.Common.{◌==◌, rules, tests}
use Prim.Native.Nat.{ℕ}
use Rattle.std.proofs.lemmas.Iterator.{YieldsList-from_slice, YieldsList-from_zip}
use Rattle.std.proofs.lemmas.Iterator.Consumers.{count_from_yields_List, YieldsList-at}
use Rattle.std.proofs.lemmas.Iterator.Search.{YieldsList-from_take_while}
use Rattle.pending.proofs.Pairs.{alike_is}
use Rattle.pending.proofs.alike.Goals as goal

pub returns : goal.returns
returns c =
    let a = c.args in
    alike_is a.a.now a.b.now c.count.result (count_from_yields_List c.take_while.result _ c.count.ensures.ran
    (YieldsList-from_take_while _ (λ (p : ℕ × ℕ). p.0 == p.1)
    (YieldsList-at c.take_while.ensures.source (YieldsList-from_zip (YieldsList-at c.zip.ensures.first (YieldsList-from_slice a.a.now c.iter.ensures.rest)) (YieldsList-from_slice a.b.now (cc))))
    c.take_while.ensures.closure c.take_while.ensures.done (λ x b q k. search (rules, tests))))
