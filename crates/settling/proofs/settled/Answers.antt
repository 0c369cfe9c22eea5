-- The part is the settled log of a sound record.
use native.Mathlib.Omega.{arith}
use mathlib.Core.Path.{◌≡◌, sym, ◌∙◌}
use mathlib.Core.Bool.{true}
use lib.Seq.{length-take-le}
use Rattle.lists.specs.Tests.{pick}
use Rattle.frame.proofs.Sound.{sound}
use Rattle.frame.specs.Soundness.{sound_b}
use Rattle.settling.specs.Settling.{settled_of, settled_number}
use Rattle.settling.proofs.settled.Goals as goal

pub returns-then-not-sound : goal.returns-then-not-sound
unfolding settled_of settled_number pick
returns-then-not-sound c = let q = sym c.sound.ensures ∙ c.if-not-sound.true in (simp q, simp (c.number.ensures, q))

pub slice_bounds-result-end-2 : goal.slice_bounds-result-end-2
slice_bounds-result-end-2 c =
    let passed : let a = c.args in sound_b a.office a.log.now ≡ true = sym c.sound.ensures ∙ c.if-not-sound.false in
    let S = sound _ _ passed in
    sym (length-take-le _ _ (omega (arith, S.most, S.room)))

pub returns : goal.returns
unfolding settled_of settled_number pick
returns c =
    let passed : let a = c.args in sound_b a.office a.log.now ≡ true = sym c.sound.ensures ∙ c.if-not-sound.false in
    let q = passed in
    (simp q, simp q)

pub overflow_sub-held : goal.overflow_sub-held
overflow_sub-held c =
    let passed : let a = c.args in sound_b a.office a.log.now ≡ true = sym c.sound.ensures ∙ c.if-not-sound.false in
    omega (arith, (sound _ _ passed).within)
