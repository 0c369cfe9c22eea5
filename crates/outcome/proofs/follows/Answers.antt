-- Each test of the definition in its turn; the last one decides.
use mathlib.Core.Path.{sym, ◌∙◌}
use native.Mathlib.Omega.{arith}
use Rattle.lists.proofs.Same.{same_true, same_not, same_still}
use Rattle.outcome.proofs.Facts.{follows-not, follows-other, follows-last}
use Rattle.outcome.proofs.follows.Goals as goal

pub returns-then-before-after : goal.returns-then-before-after
returns-then-before-after c = follows-not _ _ (λ F. c.if-before-after.true F.offices)

pub returns-then-before-after-2 : goal.returns-then-before-after-2
returns-then-before-after-2 c = follows-not _ _ (λ F. c.if-before-after-2.true F.own)

pub returns-then-ne : goal.returns-then-ne
returns-then-ne c = follows-other _ _ (same_not _ _ (sym c.ne.ensures ∙ c.if-ne.true))

pub returns-then-settled-after : goal.returns-then-settled-after
returns-then-settled-after c = follows-not _ _ (λ F. omega (arith, F.longer, c.if-settled-after.true))

pub returns-then-settled-after-2 : goal.returns-then-settled-after-2
returns-then-settled-after-2 c = follows-not _ _ (λ F. omega (arith, F.was_settled, c.if-settled-after-2.true))

pub returns-then-dropped-settled : goal.returns-then-dropped-settled
returns-then-dropped-settled c = follows-not _ _ (λ F. omega (arith, F.within, c.if-dropped-settled.true))

pub returns-then-held-gt-PATH : goal.returns-then-held-gt-PATH
returns-then-held-gt-PATH c = follows-not _ _ (λ F. omega (arith, F.most, c.if-held-gt-PATH.true))

pub fine-requires : goal.fine-requires
fine-requires c = (omega arith, (omega arith, omega arith))

pub returns : goal.returns
returns c =
    follows-last _ _ _ c.fine.ensures (omega arith) (omega arith)
    (same_true _ _ (same_still _ _ (sym c.ne.ensures ∙ c.if-ne.false))) (omega arith) (omega arith) (omega arith) (omega arith)
