use borrow.Author.Rules.{rules}
use mathlib.Core.List.{[], ◌∷◌}
use native.Mathlib.Omega.{arith}
use lib.ListN.{get_or}
use Rattle.lists.proofs.Stores.{left-all, left-next, left-none}
use Rattle.own_entries.specs.Parts.{entries_of}
use Rattle.own_entries.proofs.Own.{own-next, own-done, count_next}
use Rattle.pending.proofs.write_of.Goals as goal

pub loop-word-init : goal.loop-word-init
loop-word-init c = left-all _ _ _

pub put-at-requires : goal.put-at-requires
put-at-requires c =
    let l = c.loop-word in
    let a = c.args in
    omega (arith, l.invariant.place, l.invariant.long, count_next a.office a.words.now l.word-index (search rules))

pub loop-word-preserved : goal.loop-word-preserved
loop-word-preserved c =
    let l = c.loop-word in
    let a = c.args in
    let put = c.put-at in
    left-next l.invariant (entries_of a.office (get_or a.words.now l.word-index 0 ∷ [])) (own-next a.office a.words.now l.word-index (search rules)) put.ensures.0 put.ensures.1

pub returns : goal.returns
returns c =
    let l = c.loop-word in
    let a = c.args in
    (left-none l.invariant (own-done a.office a.words.now l.word-index (search rules))).1

pub shape_of-out : goal.shape_of-out
shape_of-out c = c.loop-word.invariant.long
