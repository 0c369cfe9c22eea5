use borrow.Author.Rules.{rules}
use mathlib.Core.Path.{◌∙◌}
use Rattle.lists.specs.Tests.{both}
use Rattle.entries.specs.Carries.{is_coding, no_carry}
use Rattle.lists.proofs.Walk.{with-done}
use Rattle.entries.proofs.Carries.{no-carry-zero, raised-next}
use Rattle.entries.proofs.all_coding.Goals as goal

pub loop-word-init : goal.loop-word-init
unfolding both
loop-word-init c = rw no-carry-zero

pub loop-word-preserved : goal.loop-word-preserved
loop-word-preserved c =
    let l = c.loop-word in
    let a = c.args in
    raised-next a.words.now l.bits l.word-index c.raised-bits.result (search rules) a.n l.invariant c.raised-bits.ensures.1

pub returns : goal.returns
returns c =
    let l = c.loop-word in
    let a = c.args in
    c.no_carry.ensures ∙ with-done (is_coding a.n) 0 a.words.now (no_carry l.bits) l.word-index l.invariant (search rules)
