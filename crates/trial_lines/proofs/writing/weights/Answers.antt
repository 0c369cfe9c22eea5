use Rattle.std.proofs.Common.{◌≡◌, ℕ, ◌+◌, ◌<◌, min, List, length, get_or, take, drop, set, replicate, sym, ap, ◌∙◌, ap₂, arith, length-drop, length-take-le, get_or-drop, get_or-take, rules}
use native.Mathlib.Nat.{min-le_right}
use lib.ListN.{length-map, get_or-map}
use Rattle.lists.proofs.Fill.{fill_step}
use Rattle.trial_lines.specs.declared.line.Line.{Line}
use Rattle.trial_lines.specs.Writing.{low16, weights_from}
use Rattle.trial_lines.proofs.writing.weights.Goals as goal

eight : (l : Line) (from : ℕ) → length l.numbers ≡ 25 → length (weights_from l from) ≡ 8
eight l from h =
    length-map (take 8 (drop (min from 17) l.numbers)) low16 ∙
    length-take-le 8 (drop (min from 17) l.numbers) (rw length-drop (omega (arith, min-le_right from 17)))

weight-at : (l : Line) (from i : ℕ) → i < 8 → get_or (weights_from l from) i 0 ≡ low16 (get_or l.numbers (min from 17 + i) 0)
weight-at l from i h =
    get_or-map low16 (take 8 (drop (min from 17) l.numbers)) i 0 ∙
    ap low16 (get_or-take 8 (drop (min from 17) l.numbers) i 0 h ∙ get_or-drop (min from 17) l.numbers i 0)

pub loop-i-preserved : goal.loop-i-preserved
loop-i-preserved c =
    let a = c.args in
    let i = c.loop-i.i in
    let h : length a.line.numbers ≡ 25 = search rules in
    let w : low16 (get_or a.line.numbers (c.min-start.result + i) 0) ≡ get_or (weights_from a.line a.from) i 0 =
    rw c.min-start.ensures (sym (weight-at a.line a.from i c.loop-i-test.true)) in
    ap₂ (λ (x : List ℕ) (v : ℕ). set x i v) c.loop-i.invariant (c.low_part.ensures ∙ w) ∙ fill_step 0 (weights_from a.line a.from) (replicate 8 0) (eight a.line a.from h) i c.loop-i-test.true
