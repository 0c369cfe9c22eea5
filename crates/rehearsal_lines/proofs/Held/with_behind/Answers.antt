-- As many bytes as there is room for are stored at once.
use borrow.Author.Rules.{rules}
use native.Mathlib.Omega.{arith}
use mathlib.Core.Path.{◌≡◌, ap, ◌∙◌}
use mathlib.Core.List.{List, ◌++◌}
use Prim.Native.Nat.{ℕ, ◌+◌, ◌-◌}
use lib.ListN.{length, take}
use Rattle.rehearsal_lines.specs.Held.{line_held, held_of}
use Rattle.rehearsal_lines.proofs.Holding.{held-begins, held-put, take_within}
use Rattle.rehearsal_lines.proofs.Held.with_behind.Goals as goal

pub returns : goal.returns
returns c =
    let a = c.args in
    let h : length a.self.bytes ≡ 129 = search rules in
    let begun : take c.min-start.result a.self.bytes ≡ line_held a.self = ap (λ (k : ℕ). take k a.self.bytes) c.min-start.ensures ∙ take_within a.self.length 129 a.self.bytes h in
    held-put c.min.result (c.min-start.result + c.min.result - c.min-start.result) c.copy_from_slice.new.self
    (held-begins a.self a.more.now c.min-start.result h c.requires c.min-start.ensures) c.min.ensures (omega arith) c.copy_from_slice.ensures.after
    ∙ ap (λ (t : List ℕ). held_of (t ++ a.more.now)) begun
