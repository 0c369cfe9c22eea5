use Prim.Native.Nat.{◌+◌, ◌-◌, ◌<◌}
use mathlib.Core.Path.{◌≡◌, ◌∙◌}
use borrow.Author.Rules.{rules}
use native.Mathlib.Omega.{arith}
use lib.ListN.{length}
use Rattle.tabulation.proofs.LinesFrom.{no_lines, line-room, line-pooled, line-passed}
use Rattle.tabulation.proofs.tabulate.Goals as goal

pub loop-i-init : goal.loop-i-init
loop-i-init c =
    let lengths : (length c.args.codes ≡ 64) × ((length c.args.met ≡ 64) × (length c.args.totals ≡ 64)) = (search rules, (search rules, search rules)) in
    c.no_rows-sheet.ensures ∙ no_lines c.args.codes c.args.met c.args.totals lengths.0

pub pool-sheet-requires : goal.pool-sheet-requires
pool-sheet-requires c =
    let lengths : (length c.args.codes ≡ 64) × ((length c.args.met ≡ 64) × (length c.args.totals ≡ 64)) = (search rules, (search rules, search rules)) in
    let down : let i = c.loop-i.i in (i ≡ i - 1 + 1) × (i - 1 < 64) = (omega arith, omega arith) in
    let l = c.loop-i in
    let n = lengths in
    line-room c.args.codes c.args.met c.args.totals n.0 n.1.0 n.1.1 (l.i - 1) l.sheet l.i down.0 down.1 l.invariant c.if-met-i.true c.requires

pub loop-i-preserved-then-met-i : goal.loop-i-preserved-then-met-i
loop-i-preserved-then-met-i c =
    let lengths : (length c.args.codes ≡ 64) × ((length c.args.met ≡ 64) × (length c.args.totals ≡ 64)) = (search rules, (search rules, search rules)) in
    let down : let i = c.loop-i.i in (i ≡ i - 1 + 1) × (i - 1 < 64) = (omega arith, omega arith) in
    let l = c.loop-i in
    let n = lengths in
    c.pool-sheet.ensures ∙ line-pooled c.args.codes c.args.met c.args.totals n.0 n.1.0 n.1.1 (l.i - 1) l.sheet l.i down.0 down.1 l.invariant c.if-met-i.true

pub loop-i-preserved : goal.loop-i-preserved
loop-i-preserved c =
    let lengths : (length c.args.codes ≡ 64) × ((length c.args.met ≡ 64) × (length c.args.totals ≡ 64)) = (search rules, (search rules, search rules)) in
    let down : let i = c.loop-i.i in (i ≡ i - 1 + 1) × (i - 1 < 64) = (omega arith, omega arith) in
    let l = c.loop-i in
    let n = lengths in
    line-passed c.args.codes c.args.met c.args.totals n.0 n.1.0 n.1.1 (l.i - 1) l.sheet l.i down.0 down.1 l.invariant c.if-met-i.false
