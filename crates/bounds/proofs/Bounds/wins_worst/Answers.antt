-- An entry wins under its worst choice exactly if it is the winner by it.
use Rattle.std.proofs.Common.{◌≡◌, ◌∙◌, length, rules}
use Rattle.bounds.proofs.Walks.{worst-won}
use Rattle.bounds.proofs.Bounds.wins_worst.Goals as goal

pub returns : goal.returns
returns c =
    let a = c.args in
    let b = a.self.now in
    let xs8 : length a.votes.now ≡ 8 = search rules in
    let lo8 : length b.lowest ≡ 8 = search rules in
    let hi8 : length b.highest ≡ 8 = search rules in
    c.eq.ensures ∙ worst-won a.n c.requires.0 b.lowest b.highest lo8 hi8 a.votes.now xs8 a.entry a.counts c.requires _ c.worst-weights.ensures _ c.winner.ensures
