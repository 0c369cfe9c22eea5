-- A longer log is written past the held length; any other leaves the words.
use native.Mathlib.Omega.{arith}
use mathlib.Core.Path.{◌∙◌}
use Rattle.intake.proofs.Caught.{keeps, grows}
use Rattle.intake.proofs.catch_up.Goals as goal

pub returns-then-k-held : goal.returns-then-k-held
returns-then-k-held c = let both = let a = c.args in keeps a.log.now a.rest.now a.held a.k (omega arith) in record { reached = both.0; words = both.1 }

pub returns : goal.returns
returns c =
    let a = c.args in
    let g = grows a.log.now a.rest.now a.held a.k (omega arith) in record { reached = g.0; words = c.extend.ensures ∙ g.1 }
