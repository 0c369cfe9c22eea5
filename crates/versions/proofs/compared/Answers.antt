-- Each case is what was found both ways.
use mathlib.Core.Bool.{true, false}
use Rattle.versions.specs.Versions.{stands}
use Rattle.versions.proofs.Order.{both-ways}
use Rattle.versions.proofs.compared.Goals as goal

pub returns-in-true-true : goal.returns-in-true-true
unfolding stands
returns-in-true-true c = both-ways _ _ c.requires true true c.in-true-true.ensures c.in-true-true.ensures'

pub returns-in-true-false : goal.returns-in-true-false
unfolding stands
returns-in-true-false c = both-ways _ _ c.requires true false c.in-true-false.ensures c.in-true-false.ensures'

pub returns-in-false-true : goal.returns-in-false-true
unfolding stands
returns-in-false-true c = both-ways _ _ c.requires false true c.in-false-true.ensures c.in-false-true.ensures'

pub returns-in-false-false : goal.returns-in-false-false
unfolding stands
returns-in-false-false c = both-ways _ _ c.requires false false c.in-false-false.ensures c.in-false-false.ensures'
