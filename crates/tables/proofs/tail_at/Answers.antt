-- Place 0 has no entry, places 1 to 3 have one and places 4 to 12 two.
use native.Mathlib.Omega.{arith}
use mathlib.Core.Path.{ap, ◌∙◌}
use Rattle.ballots.specs.Ballots.{pushed}
use Rattle.ballots.specs.declared.Ballot.{Ballot}
use Rattle.tables.proofs.Made.{made_none, made-past, made_one, made-two}
use Rattle.tables.proofs.tail_at.Goals as goal

pub returns-then-place-eq0 : goal.returns-then-place-eq0
returns-then-place-eq0 c = made_none _ _ c.none-none.ensures c.if-place-eq0.true

pub returns-then-place-ge-TAILS : goal.returns-then-place-ge-TAILS
returns-then-place-ge-TAILS c = made-past _ _ c.none-none.ensures c.if-place-ge-TAILS.true

pub returns-then-place-lt4 : goal.returns-then-place-lt4
returns-then-place-lt4 c =
    let none = c.none-none in
    made_one _ _ none.ensures _ _ c.entry_of.ensures c.push.ensures (omega arith) c.if-place-lt4.true

pub returns : goal.returns
returns c =
    let none = c.none-none in
    made-two _ _ none.ensures _ _ _ c.entry_of-2.ensures c.entry_of-3.ensures
    (c.push-3.ensures ∙ ap (λ (b : Ballot). pushed b c.entry_of-3.result) c.push-2.ensures) (omega arith) (omega arith)
