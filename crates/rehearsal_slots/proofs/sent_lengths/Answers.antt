-- The test that led to each return is the one by which the definition picks; nothing is stored past the last slot.
use mathlib.Core.Path.{◌≡◌, sym}
use native.Mathlib.Omega.{arith}
use lib.ListN.{length}
use lib.Seq.{set_out}
use borrow.Author.Rules.{rules}
use borrow.Author.Tests.{eq-eqb, ne_eqb}
use Rattle.lists.specs.Tests.{pick}
use Rattle.rehearsal_slots.proofs.sent_lengths.Goals as goal
use Rattle.rehearsal_slots.proofs.sent_lengths.Goals.{else-number-eq0-via-then-number-eq0+else-m-lt-SLOTS, else-number-eq0-via-else-number-eq0}

pub returns-then-m-lt-SLOTS : goal.returns-then-m-lt-SLOTS
unfolding pick
returns-then-m-lt-SLOTS c = rw (eq-eqb c.args.number 0 c.if-number-eq0.true)

pub returns-else-number-eq0 : goal.returns-else-number-eq0
unfolding pick
returns-else-number-eq0 c =
    let a = c.args in
    let h : length a.lengths ≡ 4 = search rules in
    elim c.else-number-eq0.branch [
      | else-number-eq0-via-then-number-eq0+else-m-lt-SLOTS w ↦
          rw (eq-eqb a.number 0 w.if-number-eq0.true) (sym (set_out a.lengths a.m a.size (omega (arith, h, w.if-m-lt-SLOTS.false))))
      | else-number-eq0-via-else-number-eq0 w ↦ rw (ne_eqb a.number 0 w.if-number-eq0.false)
    ]
