use borrow.Author.Rules.{rules}
use mathlib.Core.Path.{refl, sym, ◌∙◌}
use Rattle.lists.specs.Tests.{both}
use Rattle.lists.proofs.Tests.{all-mono}
use Rattle.lists.proofs.Walk.{with-next, with-done}
use Rattle.protocol.specs.Entry.{is_entry}
use Rattle.entries.specs.Carries.{is_coding}
use Rattle.entries.proofs.Word.{coding-entry}
use Rattle.entries.proofs.all_entries.Goals as goal

pub returns-then-all_coding : goal.returns-then-all_coding
returns-then-all_coding c =
    let a = c.args in
    sym (all-mono (is_coding a.n) (is_entry a.n) (coding-entry a.n) a.words.now (sym c.all_coding.ensures ∙ c.if-all_coding.true))

pub loop-word-init : goal.loop-word-init
unfolding both
loop-word-init c = refl

pub loop-word-preserved : goal.loop-word-preserved
loop-word-preserved c =
    let l = c.loop-word in
    let a = c.args in
    with-next (is_entry a.n) 0 a.words.now l.good l.word-index l.invariant (search rules) c.is_entry-good.result c.is_entry-good.ensures

pub returns : goal.returns
returns c =
    let l = c.loop-word in
    let a = c.args in
    with-done (is_entry a.n) 0 a.words.now l.good l.word-index l.invariant (search rules)
