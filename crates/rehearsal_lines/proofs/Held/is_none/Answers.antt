-- The cells are 129, so that the line is empty only where its length is 0.
use borrow.Author.Rules.{rules}
use mathlib.Core.Path.{◌≡◌}
use lib.ListN.{length}
use Rattle.rehearsal_lines.proofs.Holding.{none-held}
use Rattle.rehearsal_lines.proofs.Held.is_none.Goals as goal

pub returns : goal.returns
returns c = let a = c.args.self in let h : length a.bytes ≡ 129 = search rules in none-held a.length a.bytes h
