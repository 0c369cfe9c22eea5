-- Soundness is tested once; what the writer requires is in every sound record.
use mathlib.Core.Path.{sym, ◌∙◌}
use Rattle.frame.specs.Soundness.{Sound}
use Rattle.frame.proofs.Sound.{sound}
use Rattle.frame.proofs.State.{log-length}
use Rattle.sending.proofs.Sends.{message_with, send-unsound, send-short, send-done, writable}
use Rattle.sending.proofs.send.Goals as goal

pub returns-then-not-sound : goal.returns-then-not-sound
returns-then-not-sound c = let a = c.args in rw c.refused.ensures (send-unsound a.office a.log.now a.out.now (sym c.sound.ensures ∙ c.if-not-sound.true))

pub overflow_sub-message : goal.overflow_sub-message
overflow_sub-message c =
    let passed : let a = c.args in Sound a.office a.log.now = sound _ _ (sym c.sound.ensures ∙ c.if-not-sound.false) in
    passed.within

pub slice_bounds-message-end : goal.slice_bounds-message-end
slice_bounds-message-end c =
    let passed : let a = c.args in Sound a.office a.log.now = sound _ _ (sym c.sound.ensures ∙ c.if-not-sound.false) in
    sym (log-length _ _ passed)

pub write-requires : goal.write-requires
write-requires c =
    let passed : let a = c.args in Sound a.office a.log.now = sound _ _ (sym c.sound.ensures ∙ c.if-not-sound.false) in
    writable _ _ passed

pub returns-in-None : goal.returns-in-None
returns-in-None c =
    let passed : let a = c.args in Sound a.office a.log.now = sound _ _ (sym c.sound.ensures ∙ c.if-not-sound.false) in
    let a = c.args in
    rw c.refused-in-None.ensures
    (send-short a.office a.log.now passed a.out.now (message_with a.office a.log.now (log-length _ _ passed)) c.write.ensures.0 c.write.ensures.1 (sym c.in-None.is))

pub returns-in-Some : goal.returns-in-Some
returns-in-Some c =
    let passed : let a = c.args in Sound a.office a.log.now = sound _ _ (sym c.sound.ensures ∙ c.if-not-sound.false) in
    let a = c.args in
    send-done a.office a.log.now passed a.out.now (message_with a.office a.log.now (log-length _ _ passed)) c.write.ensures.0 c.write.ensures.1 c.in-Some.length (sym c.in-Some.is)
