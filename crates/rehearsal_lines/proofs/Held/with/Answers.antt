-- The line that was held is put into cells of zeros, and then the bytes behind it.
use borrow.Author.Rules.{rules}
use mathlib.Core.Path.{◌≡◌, sym, ap, ◌∙◌}
use mathlib.Core.List.{List, [], ◌++◌}
use native.Mathlib.Nat.{min-le_right}
use Prim.Native.Nat.{ℕ, ◌≤◌}
use lib.ListN.{length, take}
use lib.Seq.{length-take-le}
use Rattle.rehearsal_lines.specs.declared.Held.{Held}
use Rattle.rehearsal_lines.specs.Held.{line_held, held_of}
use Rattle.rehearsal_lines.proofs.Holding.{held-again, held_more, take_within}
use Rattle.rehearsal_lines.proofs.Held.with.Goals as goal

pub with_behind-requires : goal.with_behind-requires
with_behind-requires c = held-again _ (line_held c.none.result ++ take c.min-size.result c.args.self.bytes) c.with_behind-line.ensures

pub returns : goal.returns
returns c =
    let bytes-129 : length c.args.self.bytes ≡ 129 = search rules in
    let a = c.args in
    let size = c.min-size in
    let t : take size.result a.self.bytes ≡ line_held a.self =
    ap (λ (k : ℕ). take k a.self.bytes) size.ensures ∙ take_within a.self.length 129 a.self.bytes bytes-129 in
    c.with_behind.ensures ∙ held_more c.with_behind-line.result (line_held c.none.result ++ take size.result a.self.bytes) c.with_behind-line.ensures a.more.now ∙
    ap (λ (h : Held). held_of ((line_held h ++ take size.result a.self.bytes) ++ a.more.now)) c.none.ensures ∙ ap (λ (l : List ℕ). held_of (l ++ a.more.now)) t

pub slice_bounds-with_behind-end : goal.slice_bounds-with_behind-end
slice_bounds-with_behind-end c =
    let bytes-129 : length c.args.self.bytes ≡ 129 = search rules in
    let inside : c.min-size.result ≤ length c.args.self.bytes = rw (c.min-size.ensures, bytes-129) (min-le_right c.args.self.length 129) in
    sym (length-take-le c.min-size.result c.args.self.bytes inside)

pub with_behind-line-requires : goal.with_behind-line-requires
with_behind-line-requires c = held-again _ [] c.none.ensures
