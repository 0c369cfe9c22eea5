-- The refusals in the order of their numbers; what the leaf requires is in every sound record, and in bytes that are a vector.
use mathlib.Core.Path.{◌≡◌, ap, sym, ◌∙◌}
use mathlib.Core.Bool.{true}
use Rattle.versions.specs.Versions.{is_vector, nine}
use Rattle.versions.proofs.Order.{sized}
use Rattle.frame.specs.Soundness.{Sound, sound_b}
use Rattle.frame.proofs.Sound.{sound}
use Rattle.archive.proofs.Writing.{countable}
use Rattle.archive.proofs.Comparison.{same-versions, compare-unsound, compare-no-vector, compare-done}
use Rattle.archive.proofs.compare.Goals as goal

pub returns-then-not-sound : goal.returns-then-not-sound
returns-then-not-sound c = c.refused.ensures ∙ compare-unsound _ _ _ (sym c.sound.ensures ∙ c.if-not-sound.true)

pub is_vector-requires : goal.is_vector-requires
is_vector-requires c =
    let passed : let a = c.args in sound_b a.office a.log.now ≡ true = sym c.sound.ensures ∙ c.if-not-sound.false in
    let sounds : let a = c.args in Sound a.office a.log.now = sound _ _ passed in
    sounds.head.most

pub returns-then-not-is_vector : goal.returns-then-not-is_vector
returns-then-not-is_vector c =
    let passed : let a = c.args in sound_b a.office a.log.now ≡ true = sym c.sound.ensures ∙ c.if-not-sound.false in
    c.refused-then-not-is_vector.ensures ∙ compare-no-vector _ _ _ passed (sym c.is_vector.ensures ∙ c.if-not-is_vector.true)

pub versions_of-requires : goal.versions_of-requires
versions_of-requires c = sound _ _ (sym c.sound.ensures ∙ c.if-not-sound.false)

pub answers-requires : goal.answers-requires
answers-requires c =
    let passed : let a = c.args in sound_b a.office a.log.now ≡ true = sym c.sound.ensures ∙ c.if-not-sound.false in
    let sounds : let a = c.args in Sound a.office a.log.now = sound _ _ passed in
    let vector : let a = c.args in is_vector a.office.n a.vector.now ≡ true = sym c.is_vector.ensures ∙ c.if-not-is_vector.false in
    let e = c.versions_of.ensures in
    rw (e.0, e.1.0, e.1.1.0, e.1.1.1) (countable _ _ sounds, sized _ _ vector)

pub returns : goal.returns
returns c =
    let passed : let a = c.args in sound_b a.office a.log.now ≡ true = sym c.sound.ensures ∙ c.if-not-sound.false in
    let vector : let a = c.args in is_vector a.office.n a.vector.now ≡ true = sym c.is_vector.ensures ∙ c.if-not-is_vector.false in
    let e = c.versions_of.ensures in
    let a = c.args in
    compare-done _ _ _ passed vector (c.answers.ensures ∙ ap nine (same-versions a.office a.log.now a.vector.now _ _ _ _ e.0 e.1.0 e.1.1.0 e.1.1.1))
