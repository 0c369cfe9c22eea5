-- A turn takes the next record off the front of what is left.
use mathlib.Core.Logic.{inl, inr}
use mathlib.Core.Path.{sym, ap, subst, ◌∙◌}
use native.Mathlib.Omega.{arith}
use Rattle.std.specs.Slice.Iter.{chunks_exact_rest, chunks_exact_size}
use Rattle.households.proofs.Walk.{no-mark, no_line, refused-length, refused-many, Pooling, pooling-begins, pooling-again, pooling-fails, pooling-ends}
use Rattle.households.proofs.pool.Goals.{then-s-ne0-via-then-s-ne0, then-s-ne0-via-else-s-ne0+then-s-gt-MOST}
use Rattle.households.proofs.pool.Goals as goal

pub returns-then-s-ne0 : goal.returns-then-s-ne0
returns-then-s-ne0 c =
    elim c.then-s-ne0.branch [
      | then-s-ne0-via-then-s-ne0 w ↦ refused-length _ w.if-s-ne0.true
      | then-s-ne0-via-else-s-ne0+then-s-gt-MOST w ↦ refused-many _ w.if-s-gt-MOST.true
    ]

pub loop-household-init : goal.loop-household-init
loop-household-init c =
    let s = c.args.s.now in
    let e = c.into_iter-household-iterator.ensures.into_iter_gives in (
      ap (λ it. chunks_exact_size it) e ∙ c.chunks_exact-household-items.ensures.size,
      subst (Pooling s _ _) (sym (ap (λ it. chunks_exact_rest it) e ∙ c.chunks_exact-household-items.ensures.rest)) (pooling-begins s (λ i. omega (arith, c.type_inv.s i))),
    )

pub returns-then-read_at-ne18514 : goal.returns-then-read_at-ne18514
returns-then-read_at-ne18514 c =
    let l = c.loop-household in
    let steps = c.in-Some.ensures.steps in
    let x = c.in-Some.household.now in
    let inv = subst (Pooling c.args.s.now l.met l.totals) steps.1.0 l.invariant.1 in
    pooling-fails _ _ (steps.1.1 ∙ l.invariant.0) inv
    (elim c.then-read_at-ne18514.either [ inl n ↦ no-mark x (λ e. n (c.read_at.ensures ∙ e)) | inr h ↦ no_line x (omega (arith, h.1, c.from-line.ensures)) ])

pub loop-household-preserved : goal.loop-household-preserved
loop-household-preserved c =
    let l = c.loop-household in
    let steps = c.in-Some.ensures.steps in
    let inv = subst (Pooling c.args.s.now l.met l.totals) steps.1.0 l.invariant.1 in (
      steps.0 ∙ l.invariant.0,
      pooling-again _ _ (steps.1.1 ∙ l.invariant.0) inv (sym c.read_at.ensures ∙ c.if-read_at-ne18514.false) c.from-line.ensures (c.from.ensures ∙ c.read_at-in-loop-household.ensures)
          (omega (arith, c.from.ensures, c.read_at-in-loop-household.type_inv)) (omega (arith, c.from-line.ensures, c.if-line-ge-LINES.false)),
    )

pub returns : goal.returns
returns c =
    let l = c.loop-household in
    pooling-ends l.invariant.1 (omega (arith, c.in-None.ensures.steps.1.0, l.invariant.0)) c.if-s-ne0.false c.if-s-gt-MOST.false
