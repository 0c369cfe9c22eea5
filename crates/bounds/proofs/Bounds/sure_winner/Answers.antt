-- The vote at the index is one of the first n; it is silent, or for an entry, which wins under its worst choice or does not.
use Rattle.std.proofs.Common.{◌≡◌, ◌<◌, refl, sym, ◌∙◌, length, take, rules, arith}
use Rattle.std.specs.Prelude.{None}
use lib.Seq.{length-take-le, get_or-take}
use Rattle.protocol.specs.Counts.{quieter_by}
use Rattle.tallies.specs.Tallies.{votes_in}
use Rattle.tallies.proofs.Walks.{first-silent, first-next, first-stop, first-done}
use Rattle.bounds.specs.Bounds.{wins_worst, sure_winner}
use Rattle.bounds.proofs.Bounds.sure_winner.Goals as goal
use Rattle.bounds.proofs.Bounds.sure_winner.Goals.{At-loop-vote, in-Some+else-wins_worst, in_default}

-- the walk ends at n, as the bounds do
last : (c : At-loop-vote) → let a = c.args in (length (take a.n a.votes.now) ≡ a.n) × (length (take a.n a.self.now.lowest) ≡ a.n)
last c =
    let a = c.args in
    let few = c.requires.0 in
    let h : length a.votes.now ≡ 8 = search rules in
    let l : length a.self.now.lowest ≡ 8 = search rules in
    (length-take-le a.n a.votes.now (omega arith), length-take-le a.n a.self.now.lowest (omega arith))

pub loop-vote-init : goal.loop-vote-init
unfolding sure_winner
loop-vote-init c = refl

pub returns-then-wins_worst : goal.returns-then-wins_worst
returns-then-wins_worst c =
    let a = c.args in
    let l = c.loop-vote in
    let h : length a.votes.now ≡ 8 = search rules in
    let few = c.requires.0 in
    let n = last (goal.at.returns-then-wins_worst c).At-loop-vote in
    let i : l.vote-index < a.n = omega (arith, n.0, c.loop-vote-test.true) in
    first-stop (wins_worst (take a.n a.self.now.lowest) (take a.n a.self.now.highest) (quieter_by a.counts) (votes_in a.votes.now)) _ a.votes.now (take a.n a.self.now.lowest) l.vote-index l.invariant
    (omega arith) (omega (arith, n.1)) _ (sym (get_or-take a.n a.votes.now l.vote-index None i) ∙ c.in-Some.is) (sym c.wins_worst.ensures ∙ c.if-wins_worst.true)

pub loop-vote-preserved : goal.loop-vote-preserved
loop-vote-preserved c =
    let a = c.args in
    let l = c.loop-vote in
    let h : length a.votes.now ≡ 8 = search rules in
    let few = c.requires.0 in
    let n = last (goal.at.loop-vote-preserved c).At-loop-vote in
    let i : l.vote-index < a.n = omega (arith, n.0, c.loop-vote-test.true) in
    let here = sym (get_or-take a.n a.votes.now l.vote-index None i) in
    let test = wins_worst (take a.n a.self.now.lowest) (take a.n a.self.now.highest) (quieter_by a.counts) (votes_in a.votes.now) in
    elim c.match-vote.branch [
      | in-Some+else-wins_worst w ↦ first-next test _ a.votes.now (take a.n a.self.now.lowest) l.vote-index l.invariant
          (omega arith) (omega (arith, n.1)) _ (here ∙ w.in-Some.is) (sym w.wins_worst.ensures ∙ w.if-wins_worst.false)
      | in_default w ↦ first-silent test _ a.votes.now (take a.n a.self.now.lowest) l.vote-index l.invariant (omega arith) (omega (arith, n.1)) (here ∙ w.in_default.is)
    ]

pub returns : goal.returns
returns c =
    let a = c.args in
    let l = c.loop-vote in
    let n = last (goal.at.returns c).At-loop-vote in
    first-done (wins_worst (take a.n a.self.now.lowest) (take a.n a.self.now.highest) (quieter_by a.counts) (votes_in a.votes.now)) _ a.votes.now (take a.n a.self.now.lowest) l.vote-index l.invariant
    a.n c.requires (omega (arith, n.0, c.loop-vote-test.false, l.auto.vote-index-end))
