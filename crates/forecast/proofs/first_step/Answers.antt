-- The refusals in the order of their numbers; then the winner by the votes of the ballots and the counts of the settled log.
use mathlib.Core.Bool.{true}
use mathlib.Core.Path.{◌≡◌, sym, ◌∙◌}
use Rattle.bounds.specs.Bounds.{fits}
use Rattle.frame.specs.Soundness.{sound_b, Sound}
use Rattle.frame.proofs.Sound.{sound}
use Rattle.frame.proofs.State.{log-length}
use Rattle.forecast.specs.Forecast.{bounds_of}
use Rattle.forecast.proofs.Answer.{forecast-unsound, forecast-unfit, forecast-done, votes-silent, counts-room}
use Rattle.forecast.proofs.first_step.Goals as goal

pub returns-then-not-sound : goal.returns-then-not-sound
returns-then-not-sound c = let a = c.args in forecast-unsound a.office a.log.now a.lowest a.highest (sym c.sound.ensures ∙ c.if-not-sound.true)

pub returns-then-not-fit : goal.returns-then-not-fit
returns-then-not-fit c =
    let passed : sound_b c.args.office c.args.log.now ≡ true = sym c.sound.ensures ∙ c.if-not-sound.false in
    let a = c.args in
    forecast-unfit a.office a.log.now a.lowest a.highest passed (sym c.fit.ensures ∙ c.if-not-fit.true)

pub counts_after-counts-requires : goal.counts_after-counts-requires
counts_after-counts-requires c =
    let passed : sound_b c.args.office c.args.log.now ≡ true = sym c.sound.ensures ∙ c.if-not-sound.false in
    let sounds : Sound c.args.office c.args.log.now = sound _ _ passed in
    let a = c.args in
    counts-room a.office a.log.now a.lowest a.highest sounds

pub sure_winner-requires : goal.sure_winner-requires
sure_winner-requires c =
    let passed : sound_b c.args.office c.args.log.now ≡ true = sym c.sound.ensures ∙ c.if-not-sound.false in
    let sounds : Sound c.args.office c.args.log.now = sound _ _ passed in
    let a = c.args in
    votes-silent a.office a.log.now a.lowest a.highest sounds c.of_ballots-votes.result c.of_ballots-votes.ensures

pub returns : goal.returns
returns c =
    let passed : sound_b c.args.office c.args.log.now ≡ true = sym c.sound.ensures ∙ c.if-not-sound.false in
    let sounds : Sound c.args.office c.args.log.now = sound _ _ passed in
    let fitted : let a = c.args in fits (bounds_of a.office a.lowest) (bounds_of a.office a.highest) ≡ true = sym c.fit.ensures ∙ c.if-not-fit.false in
    let a = c.args in
    forecast-done a.office a.log.now a.lowest a.highest passed fitted _ c.counts_after-counts.ensures _ c.of_ballots-votes.ensures _ c.sure_winner.ensures

pub fit-requires : goal.fit-requires
fit-requires c =
    let passed : sound_b c.args.office c.args.log.now ≡ true = sym c.sound.ensures ∙ c.if-not-sound.false in
    let sounds : Sound c.args.office c.args.log.now = sound _ _ passed in
    sounds.head.most

pub overflow_sub-held : goal.overflow_sub-held
overflow_sub-held c =
    let passed : sound_b c.args.office c.args.log.now ≡ true = sym c.sound.ensures ∙ c.if-not-sound.false in
    let sounds : Sound c.args.office c.args.log.now = sound _ _ passed in
    sounds.within

pub slice_bounds-counts_after-end : goal.slice_bounds-counts_after-end
slice_bounds-counts_after-end c =
    let passed : sound_b c.args.office c.args.log.now ≡ true = sym c.sound.ensures ∙ c.if-not-sound.false in
    let sounds : Sound c.args.office c.args.log.now = sound _ _ passed in
    sym (log-length _ _ sounds)
