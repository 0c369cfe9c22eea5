use borrow.Author.Rules.{rules}
use mathlib.Core.Path.{ap}
use native.Mathlib.Omega.{arith}
use lib.ListN.{length}
use Rattle.own_entries.proofs.Own.{count_next, own-done}
use Rattle.pending.proofs.One.{one-number}
use Rattle.pending.proofs.count_of.Goals as goal

pub loop-word-init : goal.loop-word-init
loop-word-init c = (search rules, omega arith)

pub loop-word-preserved : goal.loop-word-preserved
loop-word-preserved c =
    let l = c.loop-word in
    let a = c.args in
    let one = one-number a.office _ c.from-count.result c.is_of.result (search rules) c.is_of.ensures in
    (omega (arith, one.1), omega (arith, one.0, count_next a.office a.words.now l.word-index (search rules)))

pub returns : goal.returns
returns c = let l = c.loop-word in let a = c.args in (omega (arith, ap length (own-done a.office a.words.now l.word-index (search rules))), omega arith)
