-- A record that is not sound is refused; of one that is, each part of the answer is that of the votes its ballots cast.
use Rattle.std.proofs.Common.{sym, ◌∙◌}
use Rattle.frame.proofs.Sound.{sound}
use Rattle.standing.proofs.Answer.{standing-unsound, standing-done}
use Rattle.standing.proofs.next_place.Goals as goal

pub returns-then-not-sound : goal.returns-then-not-sound
returns-then-not-sound c =
    let a = c.args in
    rw c.number.ensures (standing-unsound a.office a.log.now (sym c.sound.ensures ∙ c.if-not-sound.true))

pub silent-silent-requires : goal.silent-silent-requires
silent-silent-requires c = (sound _ _ (sym c.sound.ensures ∙ c.if-not-sound.false)).head.most

pub returns : goal.returns
returns c =
    let a = c.args in
    standing-done a.office a.log.now (sym c.sound.ensures ∙ c.if-not-sound.false) _ c.of_ballots-votes.ensures _ c.of_votes-count.ensures
    _ c.weight_for-unheard.ensures.0 _ c.silent-silent.ensures
