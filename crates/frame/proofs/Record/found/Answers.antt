-- The log's room is tested first, then the head.
use mathlib.Core.Path.{sym, ◌∙◌}
use Rattle.frame.proofs.Found.{found-short, found-unfit, found-made}
use Rattle.frame.proofs.Record.found.Goals as goal

pub returns-then-log-lt-LOG : goal.returns-then-log-lt-LOG
returns-then-log-lt-LOG c = found-short _ _ _ _ _ c.refused.ensures c.if-log-lt-LOG.true

pub returns-then-not-head_fine : goal.returns-then-not-head_fine
returns-then-not-head_fine c = found-unfit _ _ _ _ _ c.refused-then-not-head_fine.ensures c.if-log-lt-LOG.false (sym c.head_fine.ensures ∙ c.if-not-head_fine.true)

pub returns : goal.returns
returns c = found-made _ _ _ _ _ c.fresh.ensures c.if-log-lt-LOG.false (sym c.head_fine.ensures ∙ c.if-not-head_fine.false)
