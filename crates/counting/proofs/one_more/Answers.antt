use borrow.Author.Rules.{rules}
use native.Mathlib.Omega.{arith}
use mathlib.Core.Path.{◌≡◌, refl, ◌∙◌}
use mathlib.Core.List.{[], ◌∷◌}
use lib.ListN.{length}
use Rattle.counting.proofs.Counting.{one_entry, after_one, counts-here, counts-next, counts-done}
use Rattle.counting.proofs.one_more.Goals.{Start}
use Rattle.counting.proofs.one_more.Goals as goal

pub loop-k-init : goal.loop-k-init
loop-k-init c = refl

eight : (s : Start) → length s.args.counts ≡ 8
eight s = search rules

pub overflow_add-count : goal.overflow_add-count
overflow_add-count c =
    let l = c.loop-k in
    omega (arith, counts-here c.args.counts (c.args.word ∷ []) l.count-items l.k (eight (goal.at.overflow_add-count c).Start) l.invariant (omega arith), c.requires l.k, c.one_of.ensures.1)

pub loop-k-preserved : goal.loop-k-preserved
loop-k-preserved c =
    let l = c.loop-k in
    counts-next c.args.counts (c.args.word ∷ []) l.count-items l.k (eight (goal.at.loop-k-preserved c).Start) l.invariant
    (omega arith) c.one_of.result (c.one_of.ensures.0 ∙ one_entry l.k c.args.word)

pub returns : goal.returns
returns c =
    let l = c.loop-k in
    counts-done c.args.counts (c.args.word ∷ []) l.count-items l.k (eight (goal.at.returns c).Start) l.invariant (omega arith) ∙ after_one c.args.counts c.args.word
