-- Soundness, then whether the one record could follow the other; then the own tail before is compared with the log and the own tail after.
use mathlib.Core.Path.{sym, ap, ◌∙◌}
use Rattle.std.specs.Prelude.{Result}
use Rattle.refusals.specs.declared.Refusal.{Refusal}
use Rattle.own_entries.specs.declared.Told.{Told}
use Rattle.own_entries.specs.Told.{telling_of}
use Rattle.outcome.specs.Outcome.{outcome_is}
use Rattle.outcome.specs.declared.Outcome.{Outcome}
use Prim.Native.Nat.{◌-◌, ◌<◌, ◌≤◌}
use lib.ListN.{length}
use native.Mathlib.Omega.{arith}
use lib.Seq.{length-take-le}
use Rattle.frame.specs.Soundness.{Sound}
use Rattle.frame.proofs.Sound.{sound}
use Rattle.outcome.proofs.Facts.{Follows, followed}
use Rattle.outcome.proofs.Answer.{report-unsound, report-stray, report-made, member, was-fine, is-fine, begins, fits}
use Rattle.outcome.proofs.report.Goals as goal

abbrev answered : Result Told Refusal → Outcome
answered told = outcome_is (telling_of told)

pub returns-then-not-sound : goal.returns-then-not-sound
returns-then-not-sound c = let both = report-unsound _ _ _ (sym c.sound.ensures ∙ c.if-not-sound.true) _ in record { report = c.refused.ensures ∙ both.0; words = both.1 }

pub follows-requires : goal.follows-requires
follows-requires c =
    let sounds : Sound c.args.after c.args.log.now = sound _ _ (sym c.sound.ensures ∙ c.if-not-sound.false) in
    let S = sounds in (S.head.some, S.head.most)

pub returns-then-not-follows : goal.returns-then-not-follows
returns-then-not-follows c = let both = report-stray _ _ _ (sym (sym c.follows.ensures ∙ c.if-not-follows.true)) _ in record { report = c.refused-then-not-follows.ensures ∙ both.0; words = both.1 }

-- what is known behind both tests
pub shared_ref_as_front-tail : goal.shared_ref_as_front-tail
shared_ref_as_front-tail c =
    let sounds : Sound c.args.after c.args.log.now = sound _ _ (sym c.sound.ensures ∙ c.if-not-sound.false) in
    let follow : Follows c.args.before c.args.after = followed _ _ (sym c.follows.ensures ∙ c.if-not-follows.false) in
    let b = was-fine _ _ _ sounds follow in omega (arith, b.len, b.cells)

pub shared_ref_as_front-tell : goal.shared_ref_as_front-tell
shared_ref_as_front-tell c =
    let sounds : Sound c.args.after c.args.log.now = sound _ _ (sym c.sound.ensures ∙ c.if-not-sound.false) in
    let follow : Follows c.args.before c.args.after = followed _ _ (sym c.follows.ensures ∙ c.if-not-follows.false) in
    let b = is-fine _ _ _ sounds follow in omega (arith, b.len, b.cells)

pub slice_bounds-tell-end-2 : goal.slice_bounds-tell-end-2
slice_bounds-tell-end-2 c =
    let sounds : Sound c.args.after c.args.log.now = sound _ _ (sym c.sound.ensures ∙ c.if-not-sound.false) in
    let follow : Follows c.args.before c.args.after = followed _ _ (sym c.follows.ensures ∙ c.if-not-follows.false) in
    let b = is-fine _ _ _ sounds follow in sym (length-take-le _ _ (omega (arith, b.len, b.cells)))

pub returns-in-Ok : goal.returns-in-Ok
returns-in-Ok c =
    let sounds : Sound c.args.after c.args.log.now = sound _ _ (sym c.sound.ensures ∙ c.if-not-sound.false) in
    let follow : Follows c.args.before c.args.after = followed _ _ (sym c.follows.ensures ∙ c.if-not-follows.false) in
    let both = report-made _ _ _ sounds follow _ _ c.tell.ensures.told _ c.tell.ensures.words in
    record { report = ap answered (sym c.in-Ok.is) ∙ both.0; words = both.1 }

pub returns-in-Err : goal.returns-in-Err
returns-in-Err c =
    let sounds : Sound c.args.after c.args.log.now = sound _ _ (sym c.sound.ensures ∙ c.if-not-sound.false) in
    let follow : Follows c.args.before c.args.after = followed _ _ (sym c.follows.ensures ∙ c.if-not-follows.false) in
    let both = report-made _ _ _ sounds follow _ _ c.tell.ensures.told _ c.tell.ensures.words in
    record { report = c.refused-in-Err.ensures ∙ ap answered (sym c.in-Err.is) ∙ both.0; words = both.1 }

pub offset_bounds-before-own : goal.offset_bounds-before-own
offset_bounds-before-own c =
    let sounds : Sound c.args.after c.args.log.now = sound _ _ (sym c.sound.ensures ∙ c.if-not-sound.false) in
    let follow : Follows c.args.before c.args.after = followed _ _ (sym c.follows.ensures ∙ c.if-not-follows.false) in
    let element : c.args.before.own < 8 = member _ _ _ sounds follow in
    omega (arith, element)

pub bounds-before-own : goal.bounds-before-own
bounds-before-own c =
    let sounds : Sound c.args.after c.args.log.now = sound _ _ (sym c.sound.ensures ∙ c.if-not-sound.false) in
    let follow : Follows c.args.before c.args.after = followed _ _ (sym c.follows.ensures ∙ c.if-not-follows.false) in
    let element : c.args.before.own < 8 = member _ _ _ sounds follow in
    element

pub offset_bounds-after-own : goal.offset_bounds-after-own
offset_bounds-after-own c =
    let sounds : Sound c.args.after c.args.log.now = sound _ _ (sym c.sound.ensures ∙ c.if-not-sound.false) in
    let follow : Follows c.args.before c.args.after = followed _ _ (sym c.follows.ensures ∙ c.if-not-follows.false) in
    let element : c.args.before.own < 8 = member _ _ _ sounds follow in
    omega (arith, element)

pub bounds-after-own : goal.bounds-after-own
bounds-after-own c =
    let sounds : Sound c.args.after c.args.log.now = sound _ _ (sym c.sound.ensures ∙ c.if-not-sound.false) in
    let follow : Follows c.args.before c.args.after = followed _ _ (sym c.follows.ensures ∙ c.if-not-follows.false) in
    let element : c.args.before.own < 8 = member _ _ _ sounds follow in
    element

pub overflow_sub-from : goal.overflow_sub-from
overflow_sub-from c =
    let follow : Follows c.args.before c.args.after = followed _ _ (sym c.follows.ensures ∙ c.if-not-follows.false) in
    follow.was_settled

pub overflow_sub-held : goal.overflow_sub-held
overflow_sub-held c =
    let sounds : Sound c.args.after c.args.log.now = sound _ _ (sym c.sound.ensures ∙ c.if-not-sound.false) in
    sounds.within

pub offset_bounds-log-from : goal.offset_bounds-log-from
offset_bounds-log-from c =
    let sounds : Sound c.args.after c.args.log.now = sound _ _ (sym c.sound.ensures ∙ c.if-not-sound.false) in
    let follow : Follows c.args.before c.args.after = followed _ _ (sym c.follows.ensures ∙ c.if-not-follows.false) in
    let from-begins : let a = c.args in a.before.settled - a.after.kept.dropped ≤ a.after.settled - a.after.kept.dropped = begins _ _ _ sounds follow in
    let held_fits : let a = c.args in a.after.settled - a.after.kept.dropped ≤ length a.log.now = fits _ _ _ sounds follow in
    omega (arith, from-begins, held_fits)

pub slice_bounds-tell-count : goal.slice_bounds-tell-count
slice_bounds-tell-count c =
    let sounds : Sound c.args.after c.args.log.now = sound _ _ (sym c.sound.ensures ∙ c.if-not-sound.false) in
    let follow : Follows c.args.before c.args.after = followed _ _ (sym c.follows.ensures ∙ c.if-not-follows.false) in
    let from-begins : let a = c.args in a.before.settled - a.after.kept.dropped ≤ a.after.settled - a.after.kept.dropped = begins _ _ _ sounds follow in
    from-begins

pub slice_bounds-tell-start : goal.slice_bounds-tell-start
slice_bounds-tell-start c =
    let sounds : Sound c.args.after c.args.log.now = sound _ _ (sym c.sound.ensures ∙ c.if-not-sound.false) in
    let follow : Follows c.args.before c.args.after = followed _ _ (sym c.follows.ensures ∙ c.if-not-follows.false) in
    let from-begins : let a = c.args in a.before.settled - a.after.kept.dropped ≤ a.after.settled - a.after.kept.dropped = begins _ _ _ sounds follow in
    from-begins

pub slice_bounds-tell-end : goal.slice_bounds-tell-end
slice_bounds-tell-end c =
    let sounds : Sound c.args.after c.args.log.now = sound _ _ (sym c.sound.ensures ∙ c.if-not-sound.false) in
    let follow : Follows c.args.before c.args.after = followed _ _ (sym c.follows.ensures ∙ c.if-not-follows.false) in
    let held_fits : let a = c.args in a.after.settled - a.after.kept.dropped ≤ length a.log.now = fits _ _ _ sounds follow in
    held_fits
