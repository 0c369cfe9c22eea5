-- The vote at the index is one of the first n; it is silent, or for an entry, which wins or does not.
use Rattle.std.proofs.Common.{◌≡◌, ◌<◌, refl, sym, ◌∙◌, length, take, rules, arith}
use Rattle.std.specs.Prelude.{None}
use lib.Seq.{length-take-le, get_or-take}
use Rattle.protocol.specs.Counts.{quieter_by}
use Rattle.protocol.specs.Vote.{wins, winner}
use Rattle.tallies.specs.Tallies.{votes_in}
use Rattle.tallies.proofs.Walks.{first-silent, first-next, first-stop, first-done}
use Rattle.tallies.proofs.Step.winner.Goals as goal
use Rattle.tallies.proofs.Step.winner.Goals.{At-loop-vote, in-Some+else-wins, in_default}

-- the walk ends at n
last : (c : At-loop-vote) → let s = c.args.self.now in length (take s.n s.votes) ≡ s.n
last c = let s = c.args.self.now in let h : length s.votes ≡ 8 = search rules in length-take-le s.n s.votes (let f = s.silent.0 in omega arith)

pub loop-vote-init : goal.loop-vote-init
unfolding winner
loop-vote-init c = refl

pub returns-then-wins : goal.returns-then-wins
returns-then-wins c =
    let s = c.args.self.now in
    let l = c.loop-vote in
    let h : length s.votes ≡ 8 = search rules in
    let w : length s.weights ≡ 8 = search rules in
    let f = s.silent.0 in
    let n = last (goal.at.returns-then-wins c).At-loop-vote in
    let i : l.vote-index < s.n = omega (arith, n, c.loop-vote-test.true) in
    first-stop (wins s.weights (quieter_by s.counts) (votes_in s.votes)) _ s.votes s.weights l.vote-index l.invariant (omega arith) (omega arith) _
    (sym (get_or-take s.n s.votes l.vote-index None i) ∙ c.in-Some.is) (sym c.wins.ensures ∙ c.if-wins.true)

pub loop-vote-preserved : goal.loop-vote-preserved
loop-vote-preserved c =
    let s = c.args.self.now in
    let l = c.loop-vote in
    let h : length s.votes ≡ 8 = search rules in
    let w : length s.weights ≡ 8 = search rules in
    let f = s.silent.0 in
    let n = last (goal.at.loop-vote-preserved c).At-loop-vote in
    let i : l.vote-index < s.n = omega (arith, n, c.loop-vote-test.true) in
    let here = sym (get_or-take s.n s.votes l.vote-index None i) in
    elim c.match-vote.branch [
      | in-Some+else-wins w ↦ first-next (wins s.weights (quieter_by s.counts) (votes_in s.votes)) _ s.votes s.weights l.vote-index l.invariant (omega arith) (omega arith) _
          (here ∙ w.in-Some.is) (sym w.wins.ensures ∙ w.if-wins.false)
      | in_default w ↦ first-silent (wins s.weights (quieter_by s.counts) (votes_in s.votes)) _ s.votes s.weights l.vote-index l.invariant (omega arith) (omega arith) (here ∙ w.in_default.is)
    ]

pub returns : goal.returns
returns c =
    let s = c.args.self.now in
    let l = c.loop-vote in
    let n = last (goal.at.returns c).At-loop-vote in
    first-done (wins s.weights (quieter_by s.counts) (votes_in s.votes)) _ s.votes s.weights l.vote-index l.invariant s.n s.silent (omega (arith, n, c.loop-vote-test.false, l.auto.vote-index-end))
