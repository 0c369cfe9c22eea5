use borrow.Author.Rules.{rules}
use native.Mathlib.Omega.{arith}
use mathlib.Core.Path.{◌≡◌, refl, sym, ap, ap₂, ◌∙◌}
use mathlib.Core.List.{List, [], ◌∷◌}
use Prim.Native.Nat.{ℕ}
use lib.ListN.{length, set}
use borrow.Author.Tests.{eqb-true}
use Rattle.lists.proofs.Fold.{fold_next, fold_done}
use Rattle.protocol.specs.Codes.{coded, codes_after}
use Rattle.settled_codes.proofs.Cells.{codes-made}
use Rattle.settled_codes.proofs.codes_after.Goals as goal

pub loop-word-preserved : goal.loop-word-preserved
loop-word-preserved c =
    let l = c.loop-word in
    fold_next coded c.widened-wide.result c.args.words.now l.wide l.word-index
    l.invariant (search rules) _ (ap₂ (set l.wide) c.line_of.ensures.0 c.cell_of.ensures)

pub returns-then-is_empty : goal.returns-then-is_empty
unfolding codes_after
returns-then-is_empty c = let a = c.args in sym (ap (codes_after a.codes) (empty a.words.now (eqb-true _ _ (sym c.is_empty.ensures ∙ c.if-is_empty.true))))
  where
    empty : (l : List ℕ) → length l ≡ 0 → l ≡ []
    empty [] h = refl
    empty (x ∷ l) h = absurd (omega arith)

pub returns : goal.returns
returns c =
    let l = c.loop-word in
    let s = c.widened-wide in
    let a = c.args in
    let h : length a.codes ≡ 64 = search rules in
    c.narrowed.ensures ∙ codes-made a.codes s.result l.wide a.words.now h s.ensures (fold_done coded s.result a.words.now l.wide l.word-index l.invariant (omega arith))
