-- An empty ballot has no bytes; another has four, and four for each value.
use mathlib.Core.Path.{◌≡◌, sym}
use native.Mathlib.Omega.{arith}
use lib.ListN.{length}
use borrow.Author.Rules.{rules}
use Rattle.writer.proofs.Ballots.{bytes-none, size-some}
use Rattle.writer.proofs.ballot_size.Goals as goal

pub returns-then-b-eq0 : goal.returns-then-b-eq0
returns-then-b-eq0 c = (λ o. rw (bytes-none o c.args.b.now c.if-b-eq0.true), omega arith)

pub returns-else-b-eq0 : goal.returns-else-b-eq0
returns-else-b-eq0 c =
    let full : length c.args.b.now.cells ≡ 32 = search rules in
    (λ o. sym (size-some o c.args.b.now full c.requires c.if-b-eq0.false), omega (arith, c.requires))
