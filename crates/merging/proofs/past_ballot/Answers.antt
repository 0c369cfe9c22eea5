-- Where the tail extends the words, it is longer; and what is past them is held anew.
use borrow.Author.Rules.{rules}
use mathlib.Core.Path.{sym, ◌∙◌}
use Prim.Native.Nat.{◌<◌}
use native.Mathlib.Omega.{arith}
use lib.ListN.{length}
use Rattle.merging.proofs.Walks.{past-none, past-some, past_room}
use Rattle.merging.proofs.past_ballot.Goals as goal

pub returns-then-not-extends : goal.returns-then-not-extends
returns-then-not-extends c = c.none.ensures ∙ past-none _ c.args.b _ c.tail-tail.ensures (sym c.extends.ensures ∙ c.if-not-extends.true)

pub slice_bounds-ballot_of-count : goal.slice_bounds-ballot_of-count
slice_bounds-ballot_of-count c = omega (arith, past_room _ c.args.b _ c.tail-tail.ensures (sym c.extends.ensures ∙ c.if-not-extends.false))

pub slice_bounds-ballot_of-start : goal.slice_bounds-ballot_of-start
slice_bounds-ballot_of-start c =
    let room : length c.args.words.now < length c.tail-tail.result.now = past_room _ c.args.b _ c.tail-tail.ensures (sym c.extends.ensures ∙ c.if-not-extends.false) in
    let r = room in search rules

pub returns : goal.returns
returns c = c.ballot_of.ensures ∙ past-some _ c.args.b _ c.tail-tail.ensures (sym c.extends.ensures ∙ c.if-not-extends.false)
