-- Where the log's words end within the tail, what is behind them is compared with the tail behind the log; else the log decides.
use mathlib.Core.Path.{refl, sym, ap, ◌∙◌}
use mathlib.Core.List.{List}
use Prim.Native.Nat.{ℕ}
use native.Mathlib.Omega.{arith}
use lib.ListN.{length, length-drop}
use Rattle.lists.proofs.Walk.{rest_part}
use Rattle.own_entries.specs.Parts.{common}
use Rattle.own_entries.proofs.Common.{common-short, kept_more}
use Rattle.pending.proofs.kept.Goals as goal

pub returns-then-settled-log : goal.returns-then-settled-log
returns-then-settled-log c =
    let a = c.args in
    (c.requires.0 ∙ sym (common-short a.tail.now a.log.now a.after.now (omega arith)), (omega arith, c.requires.1))

pub returns : goal.returns
returns c =
    let a = c.args in
    let part = rest_part (length a.tail.now) a.settled a.tail.now refl in (
      omega (arith, kept_more a.tail.now a.log.now a.after.now a.settled c.requires.0 (omega arith), c.alike.ensures.0, ap (λ (l : List ℕ). length (common l a.after.now)) part),
      (omega arith, omega (arith, c.alike.ensures.1, ap length part, length-drop a.settled a.tail.now)),
    )
