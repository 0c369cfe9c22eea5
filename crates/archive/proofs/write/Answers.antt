-- Soundness is tested once; what the leaf requires is in every sound record.
use mathlib.Core.Path.{sym, ◌∙◌}
use Rattle.frame.specs.Soundness.{Sound}
use Rattle.frame.proofs.Sound.{sound}
use Rattle.archive.proofs.Writing.{countable, write-unsound, write-short, write_done}
use Rattle.archive.proofs.write.Goals as goal

pub returns-then-not-sound-clause-answer : goal.returns-then-not-sound-clause-answer
returns-then-not-sound-clause-answer c = let a = c.args in c.refused.ensures ∙ (write-unsound a.office a.log.now a.out.now (sym c.sound.ensures ∙ c.if-not-sound.true)).0

pub returns-then-not-sound-clause-output : goal.returns-then-not-sound-clause-output
returns-then-not-sound-clause-output c = let a = c.args in (write-unsound a.office a.log.now a.out.now (sym c.sound.ensures ∙ c.if-not-sound.true)).1

pub versions_of-versions-requires : goal.versions_of-versions-requires
versions_of-versions-requires c = sound _ _ (sym c.sound.ensures ∙ c.if-not-sound.false)

pub write-requires : goal.write-requires
write-requires c =
    let passed : let a = c.args in Sound a.office a.log.now = sound _ _ (sym c.sound.ensures ∙ c.if-not-sound.false) in
    let e = c.versions_of-versions.ensures in
    rw (e.0, e.1.0, e.1.1.0, e.1.1.1) (countable _ _ passed)

pub returns-in-None-clause-answer : goal.returns-in-None-clause-answer
returns-in-None-clause-answer c =
    let a = c.args in
    let passed : let a = c.args in Sound a.office a.log.now = sound _ _ (sym c.sound.ensures ∙ c.if-not-sound.false) in
    let e = c.versions_of-versions.ensures in
    let told = rw (e.0, e.1.0, e.1.1.0, e.1.1.1) at c.write.ensures in
    c.refused-in-None.ensures ∙ (write-short a.office a.log.now passed a.out.now told.0 told.1 (sym c.in-None.is)).0

pub returns-in-None-clause-output : goal.returns-in-None-clause-output
returns-in-None-clause-output c =
    let a = c.args in
    let passed : let a = c.args in Sound a.office a.log.now = sound _ _ (sym c.sound.ensures ∙ c.if-not-sound.false) in
    let e = c.versions_of-versions.ensures in
    let told = rw (e.0, e.1.0, e.1.1.0, e.1.1.1) at c.write.ensures in
    (write-short a.office a.log.now passed a.out.now told.0 told.1 (sym c.in-None.is)).1

pub returns-in-Some-clause-answer : goal.returns-in-Some-clause-answer
returns-in-Some-clause-answer c =
    let a = c.args in
    let passed : let a = c.args in Sound a.office a.log.now = sound _ _ (sym c.sound.ensures ∙ c.if-not-sound.false) in
    let e = c.versions_of-versions.ensures in
    let told = rw (e.0, e.1.0, e.1.1.0, e.1.1.1) at c.write.ensures in
    (write_done a.office a.log.now passed a.out.now told.0 told.1 c.in-Some.length (sym c.in-Some.is)).0

pub returns-in-Some-clause-output : goal.returns-in-Some-clause-output
returns-in-Some-clause-output c =
    let a = c.args in
    let passed : let a = c.args in Sound a.office a.log.now = sound _ _ (sym c.sound.ensures ∙ c.if-not-sound.false) in
    let e = c.versions_of-versions.ensures in
    let told = rw (e.0, e.1.0, e.1.1.0, e.1.1.1) at c.write.ensures in
    (write_done a.office a.log.now passed a.out.now told.0 told.1 c.in-Some.length (sym c.in-Some.is)).1
