-- The invariant: the number so far with the digits that are left is the number of the whole field.
use mathlib.Core.Path.{◌≡◌}
use lib.ListN.{drop}
use Rattle.decimal.specs.Number.{digits_of}
use Rattle.decimal.proofs.number.digits_of.Given as goal

abbrev pub invariant-loop-byte : goal.invariant-loop-byte
invariant-loop-byte l = digits_of l.most l.so_far (drop l.byte-index l.field) ≡ digits_of l.most 0 l.field
