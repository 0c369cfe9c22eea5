-- T is compared with U first; then the entry is compared with each of the first n votes.
use Rattle.std.proofs.Common.{◌≡◌, length, rules, sym, ◌∙◌}
use Rattle.std.specs.Prelude.{None}
use Rattle.protocol.specs.Counts.{quieter_by}
use Rattle.lists.proofs.Walk.{all-next, all-stop, all_done}
use Rattle.tallies.specs.Tallies.{votes_in}
use Rattle.tallies.proofs.Walks.{wins-unheard, wins-beats, beats-votes}
use Rattle.tallies.proofs.Step.wins.Goals as goal

pub returns-then-te-u : goal.returns-then-te-u
returns-then-te-u c = let s = c.args.self.now in wins-unheard (quieter_by s.counts) s.weights (votes_in s.votes) c.args.entry _ _ c.weight_for-te.ensures.0 c.requires.0 c.if-te-u.true

pub loop-vote-init : goal.loop-vote-init
loop-vote-init c =
    let s = c.args.self.now in
    let h : length s.votes ≡ 8 = search rules in
    let w : length s.weights ≡ 8 = search rules in
    beats-votes (quieter_by s.counts) s.weights (votes_in s.votes) c.args.entry s.n s.votes s.weights (h ∙ sym w) s.silent.1

pub loop-vote-preserved : goal.loop-vote-preserved
loop-vote-preserved c =
    all-next _ None _ c.loop-vote.vote-index c.loop-vote.invariant c.loop-vote-test.true (sym c.beats.ensures ∙ c.if-not-beats.false)

pub returns-then-not-beats : goal.returns-then-not-beats
returns-then-not-beats c =
    let s = c.args.self.now in
    wins-beats (quieter_by s.counts) s.weights (votes_in s.votes) c.args.entry _ _ c.weight_for-te.ensures.0 c.requires.0 c.if-te-u.false _
    (all-stop _ None _ c.loop-vote.vote-index c.loop-vote.invariant c.loop-vote-test.true (sym c.beats.ensures ∙ c.if-not-beats.true))

pub returns : goal.returns
returns c =
    let s = c.args.self.now in
    wins-beats (quieter_by s.counts) s.weights (votes_in s.votes) c.args.entry _ _ c.weight_for-te.ensures.0 c.requires.0 c.if-te-u.false _
    (all_done _ None _ c.loop-vote.vote-index c.loop-vote.invariant c.loop-vote-test.false)
