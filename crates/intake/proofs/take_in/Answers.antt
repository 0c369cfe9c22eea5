-- What the drop and the take at one beginning make is the protocol's folded take by `intaken`.
use Rattle.intake.proofs.Dropping.{droppable, aligned, intaken}
use Rattle.intake.proofs.take_in.Goals as goal

pub drop_first-remains-requires : goal.drop_first-remains-requires
drop_first-remains-requires c =
    let a = c.args in
    droppable a.log.now a.state a.kept a.own a.rest.now a.m.now c.requires _ _ c.later-ahead.ensures c.later-behind.ensures

pub take_aligned-next-requires : goal.take_aligned-next-requires
take_aligned-next-requires c =
    let a = c.args in
    aligned a.log.now a.state a.kept a.own a.rest.now a.m.now c.requires _ _ c.later-ahead.ensures c.later-behind.ensures _ c.drop_first-remains.ensures.words

pub returns : goal.returns
returns c =
    let both = let a = c.args in
    intaken a.log.now a.state a.kept a.own a.rest.now a.m.now c.requires _ _ c.later-ahead.ensures c.later-behind.ensures _ c.drop_first-remains.ensures.words
    _ c.drop_first-remains.ensures.kept _ _ c.take_aligned-next.ensures.state c.take_aligned-next.ensures.words in record { made = both.0; words = both.1 }
