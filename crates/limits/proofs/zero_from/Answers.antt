use Rattle.std.proofs.Common.{rules, eqb}
use Rattle.std.proofs.lemmas.Iterator.{YieldsList-from_slice}
use Rattle.std.proofs.lemmas.Iterator.Adapters.{YieldsList-from_skip}
use Rattle.std.proofs.lemmas.Iterator.Search.{all_from_yields_List}
use borrow.Author.Tests.{tests}
use Rattle.lists.proofs.Chains.{zeros_are}
use Rattle.limits.proofs.zero_from.Goals as goal

pub returns : goal.returns
returns c = zeros_are _ (all_from_yields_List (λ x. eqb x 0) _ _ _ c.all.ensures.ran (YieldsList-from_skip c.args.n (YieldsList-from_slice c.args.weights (cc)) (cc)) (λ x b q k. search (rules, tests)))
