-- The part of the log behind the entries that are held is lent and filled; it comes back as stores into the whole.
use Rattle.extending.proofs.Logs.{extend-stores}
use Rattle.extending.proofs.extend.Goals as goal

pub returns : goal.returns
returns c = extend-stores c.args.held c.args.k c.args.log.now c.fill.new.part c.args.rest.now c.requires.0 c.requires.1.0 c.fill.ensures
