use mathlib.Core.List.{List}
use mathlib.Core.Path.{◌≡◌, sym, ap, ◌∙◌}
use native.Mathlib.Omega.{arith}
use Prim.Native.Nat.{ℕ, ◌+◌, ◌<◌}
use lib.ListN.{length, get_or, take}
use lib.Seq.{length-take-le}
use borrow.Author.Rules.{rules}
use Rattle.protocol.specs.Limits.{length_limit}
use Rattle.protocol.specs.Counts.{counted, counts_after}
use Rattle.protocol_laws.proofs.Counts.{counts-length}
use Rattle.frame.specs.State.{held_length}
use Rattle.frame.specs.Soundness.{Sound}
use Rattle.frame.specs.declared.Record.{Record}
use Rattle.frame.proofs.Sound.{sound}
use Rattle.frame.proofs.State.{electable}
use Rattle.frame.proofs.Steps.{Run, run-start, stepping, run-place, run_room, run_more, run_long, run_end}
use Rattle.frame.proofs.Elect.{elect-unsound, elect-made}
use Rattle.frame.proofs.Record.elect.Goals.{Else-not-sound, At-loop-now, Else-now-before}
use Rattle.frame.proofs.Record.elect.Goals as goal

-- The same facts are known at three places: behind the test of soundness, at a turn's beginning, and where a step settled an entry.
sounds : (c : Else-not-sound) → Sound c.args.self c.args.log.now
sounds c = sound _ _ (sym c.sound.ensures ∙ c.if-not-sound.false)

-- the held part of the log is as long as it is held
part_length : (r : Record) (words : List ℕ) → Sound r words → (start : ℕ) → start ≡ held_length r → start ≡ length (take start words)
part_length r words S start e = sym (length-take-le _ _ (omega (arith, e, S.most, S.room)))

-- the run so far, from the record's own counts and its held entries
begun : (r : Record) (words : List ℕ) (start : ℕ) (counts : List ℕ) → start ≡ held_length r → counts ≡ counts_after r.kept.counts (take start words)
    → counts ≡ counts_after r.kept.counts (take (held_length r) words)
begun r words start counts e m = m ∙ ap (λ (n : ℕ). counts_after r.kept.counts (take n words)) e

run : (c : At-loop-now) → let l = c.loop-now in Run c.args.self c.args.log.now l.now l.log l.counts l.count
run c =
    c.loop-now.invariant (sound _ _ (sym c.sound.ensures ∙ c.if-not-sound.false))
    (begun c.args.self c.args.log.now _ _ c.held-start.ensures c.counts_after-counts.ensures)

-- where a step's entry was written
place : (c : Else-now-before) → (c.held-start.result + c.loop-now.count < 1024) × (length c.step-now.new.log ≡ length c.args.log.now)
place c =
    let S = sound _ _ (sym c.sound.ensures ∙ c.if-not-sound.false) in
    let R = c.loop-now.invariant S (begun c.args.self c.args.log.now _ _ c.held-start.ensures c.counts_after-counts.ensures) in
    let p = run-place _ _ S _ _ _ _ R _ c.step-now.ensures.0 _ c.step-now.ensures.1 c.if-now-before.false in
    (omega (arith, p.0, c.held-start.ensures), p.1)

pub returns-then-not-sound : goal.returns-then-not-sound
returns-then-not-sound c = rw c.number.ensures (elect-unsound _ _ (sym c.sound.ensures ∙ c.if-not-sound.true))

pub held-start-requires : goal.held-start-requires
held-start-requires c = (sounds (goal.at.held-start-requires c).Else-not-sound).within

pub slice_bounds-counts_after-end : goal.slice_bounds-counts_after-end
slice_bounds-counts_after-end c =
    let S = sounds (goal.at.slice_bounds-counts_after-end c).Else-not-sound in omega (arith, c.held-start.ensures, S.most, S.room)

pub slice_bounds-counts_after-end-2 : goal.slice_bounds-counts_after-end-2
slice_bounds-counts_after-end-2 c =
    part_length _ _ (sounds (goal.at.slice_bounds-counts_after-end-2 c).Else-not-sound) _ c.held-start.ensures

pub counts_after-counts-requires : goal.counts_after-counts-requires
unfolding length_limit
counts_after-counts-requires c =
    let S = sounds (goal.at.counts_after-counts-requires c).Else-not-sound in
    let l = part_length _ _ S _ c.held-start.ensures in
    (omega (arith, c.held-start.ensures, S.most), λ k. omega (arith, (electable _ _ S).countable k, c.held-start.ensures, S.most))

pub loop-now-init : goal.loop-now-init
loop-now-init c S b = run-start _ _ S _ b

pub step-now-requires : goal.step-now-requires
step-now-requires c =
    stepping _ _ (sounds (goal.at.step-now-requires c).Else-not-sound) _ _ _ _ (run (goal.at.step-now-requires c).At-loop-now)

pub bounds-log-start : goal.bounds-log-start
bounds-log-start c =
    let p = place (goal.at.bounds-log-start c).Else-now-before in
    omega (arith, p.0, p.1, (sounds (goal.at.bounds-log-start c).Else-not-sound).room)

pub overflow_add-start : goal.overflow_add-start
overflow_add-start c = omega (arith, (place (goal.at.overflow_add-start c).Else-now-before).0)

pub offset_bounds-log-start : goal.offset_bounds-log-start
offset_bounds-log-start c = omega (arith, (place (goal.at.offset_bounds-log-start c).Else-now-before).0)

pub count-requires : goal.count-requires
count-requires c =
    let R = run (goal.at.count-requires c).At-loop-now in
    let eight : length c.args.self.kept.counts ≡ 8 = search rules in (
      ap length R.tally ∙ counts-length _ _ ∙ eight,
      run_room _ _ (sounds (goal.at.count-requires c).Else-not-sound) _ _ _ _ R _ c.step-now.ensures.0 _ c.step-now.ensures.1 c.if-now-before.false _,
    )

pub overflow_add-count : goal.overflow_add-count
overflow_add-count c = omega (arith, (place (goal.at.overflow_add-count c).Else-now-before).0)

pub loop-now-smaller : goal.loop-now-smaller
loop-now-smaller c = omega (arith, (place (goal.at.loop-now-smaller c).Else-now-before).0)

pub loop-now-preserved : goal.loop-now-preserved
loop-now-preserved c S b =
    let l = c.loop-now in
    run_more _ _ S _ _ _ _ (l.invariant S b) _ c.step-now.ensures.0 _ c.step-now.ensures.1 c.if-now-before.false _
    (c.count.ensures ∙ ap (λ (k : ℕ). counted l.counts (get_or c.step-now.new.log (k + l.count) 0)) c.held-start.ensures)

pub shape_of-log : goal.shape_of-log
shape_of-log c =
    let at = goal.at.shape_of-log c in
    run_long _ _ (sounds at.Else-not-sound) _ _ _ _ (run at.At-loop-now) _ c.step-now.ensures.0 _ c.step-now.ensures.1 c.if-now-before.true

pub returns : goal.returns
returns c =
    let at = goal.at.returns c in
    let m = run_end _ _ (sounds at.Else-not-sound) _ _ _ _ (run at.At-loop-now) _ c.step-now.ensures.0 _ c.step-now.ensures.1 c.if-now-before.true in
    elect-made _ _ (sym c.sound.ensures ∙ c.if-not-sound.false) m.0 m.1 _ m.2 _ m.3 _ m.4
