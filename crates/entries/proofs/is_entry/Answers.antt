-- The tests of the definition, for at most 256 offices: the office's, and that of the line and the code.
use native.Mathlib.Omega.{arith}
use mathlib.Core.Path.{sym, ap, ◌∙◌}
use Prim.Native.Nat.{◌/◌}
use lib.Dec.{ltb}
use Rattle.lists.specs.Tests.{both}
use Rattle.lists.proofs.Walk.{and_both}
use Rattle.entries.proofs.Word.{entry-tests}
use Rattle.entries.proofs.is_entry.Goals as goal

pub returns : goal.returns
returns c =
    let a = c.args in
    and_both (ltb (a.word / 16777216) c.offices-m.result) c.proper.result ∙
    ap (both (ltb (a.word / 16777216) c.offices-m.result)) c.proper.ensures ∙ sym (entry-tests a.n _ a.word c.offices-m.ensures (omega arith))
