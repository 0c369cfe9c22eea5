-- No vote and an entry that has its row leave the rows; another entry's row is written behind them.
use Rattle.tallies.specs.Tallies.{votes_in, weight_for}
use Rattle.rows.proofs.Walks.{vote-none, vote-again, vote-new}
use Rattle.rows.proofs.with_vote.Goals as goal

pub returns-in_default : goal.returns-in_default
returns-in_default c = let a = c.args in vote-none a.rows (weight_for a.weights.now (votes_in a.votes.now)) a.vote c.in_default.is

pub returns-then-has_row : goal.returns-then-has_row
returns-then-has_row c = let a = c.args in vote-again a.rows (weight_for a.weights.now (votes_in a.votes.now)) a.vote _ c.in-Some.is _ c.has_row.ensures c.if-has_row.true

pub returns : goal.returns
returns c = let a = c.args in vote-new a.rows (weight_for a.weights.now (votes_in a.votes.now)) a.vote _ c.in-Some.is _ c.has_row.ensures c.if-has_row.false _ c.weight_for.ensures.0
