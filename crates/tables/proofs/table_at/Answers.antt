-- The places of the three tails are the digits of the table's place, to base 13.
use Rattle.tables.proofs.Made.{made-last, made_table}
use Rattle.tables.proofs.table_at.Goals as goal

pub returns-then-place-ge-TABLES : goal.returns-then-place-ge-TABLES
returns-then-place-ge-TABLES c = made-last _ _ c.none.ensures c.if-place-ge-TABLES.true

pub returns : goal.returns
returns c =
    made_table _ _ _ _ c.if-place-ge-TABLES.false c.tail_at-first.ensures c.tail_at-second.ensures c.tail_at-third.ensures
