-- The tests in the order of the contract.
use mathlib.Core.Path.{◌≡◌, sym, ◌∙◌}
use mathlib.Core.Bool.{false, true≢false}
use mathlib.Core.Logic.{inl, inr}
use lib.Dec.{leb}
use borrow.Author.Tests.{le-leb, lt-leb}
use Rattle.lists.specs.Tests.{both}
use Rattle.lists.proofs.Tests.{both-then, both-else}
use Rattle.soundness.proofs.numbers_fine.Goals.{then-head_fine, else-head_fine}
use Rattle.soundness.proofs.numbers_fine.Goals as goal

pub returns-then-dropped-settled : goal.returns-then-dropped-settled
unfolding both
returns-then-dropped-settled c =
    c.noted_fine.ensures ∙ sym (rw (sym c.head_fine.ensures ∙ c.if-dropped-settled.true.0, le-leb c.args.dropped c.args.settled c.if-dropped-settled.true.1))

pub returns-else-dropped-settled : goal.returns-else-dropped-settled
returns-else-dropped-settled c = elim c.if-head_fine.branch [
  | then-head_fine w ↦
      let more : leb c.args.dropped c.args.settled ≡ false = elim c.if-dropped-settled.either [
        | inl h ↦ lt-leb c.args.dropped c.args.settled h.1
        | inr e ↦ absurd (true≢false (sym w.if-head_fine.true ∙ e))
      ] in
      w.t-8-is ∙ both-else _ more ∙ both-then (sym (w.if-head_fine.ensures))
  | else-head_fine w ↦ w.t-8-is ∙ c.head_fine.ensures ∙ both-else _ (sym (w.if-head_fine.ensures))
]
