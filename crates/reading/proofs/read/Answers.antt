use Prim.Native.Nat.{ℕ, ◌-◌, ◌≤◌}
use mathlib.Core.Bool.{true}
use mathlib.Core.List.{List}
use mathlib.Core.Path.{◌≡◌, refl, sym, ap, ◌∙◌}
use native.Mathlib.Omega.{arith}
use lib.ListN.{drop, length, replicate, take}
use Rattle.ballots.specs.Ballots.{no_ballot}
use Rattle.readings.specs.declared.Reading.{Reading}
use Rattle.message_heads.specs.Heads.{head_said, head_within}
use Rattle.message_heads.proofs.Heads.{Within, head_passed, settled-fits, within-facts}
use Rattle.reading.proofs.Ballots.{again, all-stored, begins-left, ended, fails, not-ended, skipped}
use Rattle.reading.proofs.Whole.{Parts, fine-shapes, no-ballots, no-head, no_lengths, no-log, no-tails, read_all, rest-at, said-beside}
use Rattle.reading.proofs.read.Goals.{In_ok-m, then-step-gt0, else-step-gt0}
use Rattle.reading.proofs.read.Goals as goal

-- ── what is known behind the head's test ──
passed : (c : In_ok-m) → (head_within c.args.msg.now ≡ true) × (c.in_ok-m.m ≡ head_said c.args.msg.now (replicate 8 no_ballot))
passed c = head_passed c.args.msg.now c.in_ok-m.m c.in_ok-m.ensures

facts : (c : In_ok-m) → Within c.args.msg.now
facts c = within-facts c.args.msg.now (passed c).0

-- what stands behind the head
abbrev rest : In_ok-m → List ℕ
rest c = take (length c.args.msg.now - c.in_ok-m.m.head) (drop c.in_ok-m.m.head c.args.msg.now)

parts : (c : In_ok-m) → Parts c.args.msg.now c.in_ok-m.m.n c.in_ok-m.m.held (rest c)
parts c =
    let e = (passed c).1 in record {
      bytes = λ i. omega (arith, c.type_inv.msg i);
      within = (passed c).0;
      count = ap (λ (r : Reading). r.n) e;
      held = ap (λ (r : Reading). r.held) e;
      rest-is = rest-at c.args.msg.now c.in_ok-m.m.head (ap (λ (r : Reading). r.head) e);
    }

few : (c : In_ok-m) → c.in_ok-m.m.n ≤ 8
few c = omega (arith, facts c, (parts c).count)

-- ── the goals ──
pub returns-in_err-m : goal.returns-in_err-m
returns-in_err-m c = c.from_residual.ensures ∙ no-head _ (λ i. omega (arith, c.type_inv.msg i)) c.in_err-m.ensures

pub slice_bounds-rest-count : goal.slice_bounds-rest-count
slice_bounds-rest-count c =
    let at = (goal.at.slice_bounds-rest-count c).In_ok-m in omega (arith, ap (λ (r : Reading). r.head) (passed at).1, (facts at).layout)

pub slice_bounds-rest-start : goal.slice_bounds-rest-start
slice_bounds-rest-start = slice_bounds-rest-count

pub returns-then-not-log_within : goal.returns-then-not-log_within
returns-then-not-log_within c = no-log _ _ _ _ (parts (goal.at.returns-then-not-log_within c).In_ok-m) (sym c.log_within.ensures ∙ c.if-not-log_within.true)

pub overflow_mul-at : goal.overflow_mul-at
overflow_mul-at c = let at = (goal.at.overflow_mul-at c).In_ok-m in omega (arith, (facts at).held-few, (parts at).held)

pub loop-o-init : goal.loop-o-init
loop-o-init c =
    let e = (passed (goal.at.loop-o-init c).In_ok-m).1 in
    let b = ap (λ (r : Reading). r.ballots) e in
    (e ∙ ap (head_said _) (sym b), rw b (begins-left refl))

pub returns-in_err-step : goal.returns-in_err-step
returns-in_err-step c =
    let at-record = rw (c.new.ensures.0, c.new.ensures.1) at c.in_err-step.ensures in
    c.from_residual-in_err-step.ensures ∙ no-ballots _ _ _ _ (parts (goal.at.returns-in_err-step c).In_ok-m) (fails c.loop-o.invariant.1 c.loop-o-test.true at-record)

pub bounds-m-o : goal.bounds-m-o
bounds-m-o c = omega (arith, few (goal.at.bounds-m-o c).In_ok-m)

pub offset_bounds-m-o : goal.offset_bounds-m-o
offset_bounds-m-o c = omega (arith, few (goal.at.offset_bounds-m-o c).In_ok-m)

pub loop-o-preserved : goal.loop-o-preserved
loop-o-preserved c =
    let l = c.loop-o in
    let here = c.loop-o-test.true in
    let at-record = rw (c.new.ensures.0, c.new.ensures.1) at c.in_ok-step.ensures in
    elim c.if-step-gt0.branch [
      | then-step-gt0 w ↦ rw w.m-is (said-beside _ l.m _ l.invariant.0, again l.invariant.1 here at-record)
      | else-step-gt0 w ↦ rw w.m-is (l.invariant.0, skipped l.invariant.1 here at-record (omega (arith, w.if-step-gt0.false)))
    ]

pub returns-in_err-end : goal.returns-in_err-end
returns-in_err-end c =
    let at-record = rw (c.new-2.ensures.0, c.new-2.ensures.1) at c.in_err-end.ensures in
    c.from_residual-in_err-end.ensures ∙ no-ballots _ _ _ _ (parts (goal.at.returns-in_err-end c).In_ok-m) (not-ended c.loop-o.invariant.1 c.loop-o-test.false at-record)

-- n is at most 8, and at most 1024 entries are held
pub fine-requires : goal.fine-requires
fine-requires c =
    let f = facts (goal.at.fine-requires c).In_ok-m in
    let e = c.loop-o.invariant.0 in
    let n = ap (λ (r : Reading). r.n) e in
    let held = ap (λ (r : Reading). r.held) e in
    (omega (arith, f, n), (omega (arith, f, n), omega (arith, f.held-few, held)))

pub returns-then-not-fine : goal.returns-then-not-fine
returns-then-not-fine c =
    let at = (goal.at.returns-then-not-fine c).In_ok-m in
    no-tails _ _ _ _ (parts at) _ c.loop-o.invariant.0 (all-stored c.loop-o.invariant.1 c.loop-o-test.false (few at)) (sym c.fine.ensures ∙ c.if-not-fine.true)

pub overflow_add-m : goal.overflow_add-m
overflow_add-m c =
    let at = (goal.at.overflow_add-m c).In_ok-m in
    let e = c.loop-o.invariant.0 in
    omega (arith, ap (λ (r : Reading). r.dropped) e, ap (λ (r : Reading). r.held) e, settled-fits c.args.msg.now (parts at).bytes (facts at))

pub within-requires : goal.within-requires
within-requires c = fine-shapes _ _ _ (sym c.fine.ensures ∙ c.if-not-fine.false)

pub returns-then-not-within : goal.returns-then-not-within
returns-then-not-within c =
    let at = (goal.at.returns-then-not-within c).In_ok-m in
    no_lengths _ _ _ _ (parts at) _ c.loop-o.invariant.0 (all-stored c.loop-o.invariant.1 c.loop-o-test.false (few at)) (sym c.within.ensures ∙ c.if-not-within.true)

pub returns : goal.returns
returns c =
    let at = (goal.at.returns c).In_ok-m in
    let at-record = rw (c.new-2.ensures.0, c.new-2.ensures.1) at c.in_ok-end.ensures in
    read_all _ _ _ _ (parts at) _ c.loop-o.invariant.0 (all-stored c.loop-o.invariant.1 c.loop-o-test.false (few at))
    (sym c.log_within.ensures ∙ c.if-not-log_within.false) (ended c.loop-o.invariant.1 c.loop-o-test.false at-record)
    (sym c.fine.ensures ∙ c.if-not-fine.false) (sym c.within.ensures ∙ c.if-not-within.false)
