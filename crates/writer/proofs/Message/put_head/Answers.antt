-- Four bytes, the weights, the settled length and the dropped count are stored one after the other.
use mathlib.Core.Path.{◌≡◌}
use native.Mathlib.Omega.{arith}
use lib.ListN.{length, take}
use lib.Seq.{length-take-le}
use borrow.Author.Rules.{rules}
use Rattle.writer.proofs.Whole.{head-stores}
use Rattle.writer.proofs.Message.put_head.Goals as goal

pub returns : goal.returns
returns c =
    let m = c.args.self.now in
    let full : length c.args.self.now.weights ≡ 8 = search rules in
    let some : length (take c.args.self.now.n c.args.self.now.weights) ≡ c.args.self.now.n = length-take-le _ _ (omega (arith, full)) in
    let place = c.put_run-p.ensures.0 in
    (omega (arith, place, some), head-stores m.sender m.n _ _ m.dropped c.args.out.now some (omega (arith, place, some)) c.put_run-p.ensures.1 c.put.ensures c.put-2.ensures)
