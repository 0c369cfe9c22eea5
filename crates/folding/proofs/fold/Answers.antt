-- Soundness first; the entries that every office is known to have go, and the rest moves to the front.
use native.Mathlib.Omega.{arith}
use mathlib.Core.Path.{◌≡◌, sym, ◌∙◌}
use mathlib.Core.Bool.{true}
use Rattle.frame.specs.Soundness.{sound_b, Sound}
use Rattle.frame.proofs.Sound.{sound}
use Rattle.frame.proofs.State.{room-for}
use Rattle.folding.proofs.Folds.{fold-unsound, gone_of, gone-is, gone-within, fold-made}
use Rattle.folding.proofs.fold.Goals as goal

pub returns-then-not-sound : goal.returns-then-not-sound
returns-then-not-sound c =
    let told = fold-unsound c.args.office c.args.log.now (sym c.sound.ensures ∙ c.if-not-sound.true) in
    (rw c.number.ensures told.0, told.1)

pub drop_first-after-requires : goal.drop_first-after-requires
drop_first-after-requires c =
    let passed : let a = c.args in sound_b a.office a.log.now ≡ true = sym c.sound.ensures ∙ c.if-not-sound.false in
    let sounds : let a = c.args in Sound a.office a.log.now = sound _ _ passed in
    let gone : let a = c.args in c.known-count.result ≡ gone_of a.office a.log.now = gone-is _ _ sounds _ c.known-count.ensures in
    let S = sounds in
    let g = gone in
    let w = gone-within _ _ S in
    (room-for _ _ S _ (omega (arith, g, w)), (omega (arith, g, w), omega (arith, S.most, S.room)))

pub returns : goal.returns
returns c =
    let passed : let a = c.args in sound_b a.office a.log.now ≡ true = sym c.sound.ensures ∙ c.if-not-sound.false in
    let sounds : let a = c.args in Sound a.office a.log.now = sound _ _ passed in
    let gone : let a = c.args in c.known-count.result ≡ gone_of a.office a.log.now = gone-is _ _ sounds _ c.known-count.ensures in
    let a = c.args in
    fold-made a.office a.log.now passed _ gone _ c.drop_first-after.ensures.kept _ c.drop_first-after.ensures.words

pub overflow_sub-held : goal.overflow_sub-held
overflow_sub-held c =
    let passed : let a = c.args in sound_b a.office a.log.now ≡ true = sym c.sound.ensures ∙ c.if-not-sound.false in
    let sounds : let a = c.args in Sound a.office a.log.now = sound _ _ passed in
    omega (arith, sounds.within)

pub known-count-requires : goal.known-count-requires
known-count-requires c =
    let passed : let a = c.args in sound_b a.office a.log.now ≡ true = sym c.sound.ensures ∙ c.if-not-sound.false in
    let sounds : let a = c.args in Sound a.office a.log.now = sound _ _ passed in
    sounds.head.most
