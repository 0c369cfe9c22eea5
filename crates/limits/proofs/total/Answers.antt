use Rattle.std.proofs.Common.{rules, ◌≡◌}
use Rattle.std.proofs.iter.runs.Sources.{sums}
use Rattle.std.proofs.iter.runs.Made.{chains}
use Rattle.std.specs.List.{sum}
use mathlib.Core.Path.{◌∙◌}
use Rattle.limits.proofs.Sums.{sum_is}
use Rattle.limits.proofs.total.Goals as goal

pub sum-requires-clause-fits : goal.sum-requires-clause-fits
sum-requires-clause-fits c = search (rules, sums)

pub returns : goal.returns
returns c = let e : c.sum.result ≡ sum c.args.weights = search (rules, chains) in e ∙ sum_is c.args.weights
