-- The log records are stored where the head ends.
use mathlib.Core.Path.{◌≡◌}
use native.Mathlib.Omega.{arith}
use lib.ListN.{length, take}
use lib.Seq.{length-take-le, take_all}
use borrow.Author.Rules.{rules}
use Rattle.writer.proofs.Whole.{front-stores}
use Rattle.writer.proofs.Message.put_front.Goals as goal

pub returns : goal.returns
returns c =
    let m = c.args.self.now in
    let full : length c.args.self.now.weights ≡ 8 = search rules in
    let some : length (take c.args.self.now.n c.args.self.now.weights) ≡ c.args.self.now.n = length-take-le _ _ (omega (arith, full)) in
    let whole : take (length c.args.self.now.log.now) c.args.self.now.log.now ≡ c.args.self.now.log.now = take_all _ _ (omega arith) in
    let head = c.put_head-p in (
      omega (arith, head.ensures.0, c.put_run.ensures.0),
      rw whole (front-stores m.sender m.n _ _ m.dropped _ c.args.out.now some head.ensures.0 head.ensures.1 c.put_run.ensures.1),
    )
