use borrow.Author.Rules.{rules}
use native.Mathlib.Omega.{arith}
use mathlib.Core.Bool.{true}
use mathlib.Core.Path.{◌≡◌, ap, ◌∙◌}
use Prim.Native.Nat.{ℕ, ◌-◌, ◌≤◌}
use lib.ListN.{length}
use Rattle.eight_ballots.specs.Fours.{mask_words, unused_zero}
use Rattle.eight_ballots.proofs.Fours.{four-none, four-tests, mask-length, masked-next, unused-begins, unused-ends, unused-none}
use Rattle.eight_ballots.proofs.four_unused.Goals as goal

-- the facts on numbers, away from the places of the code
none_yet : 0 ≤ 32
none_yet = omega arith

at_most : (len : ℕ) → 32 - len ≤ 32
at_most len = omega arith

pub returns-then-j-k : goal.returns-then-j-k
returns-then-j-k c =
    let full : (length c.args.a.cells ≡ 32) × ((length c.args.b.cells ≡ 32) × ((length c.args.c.cells ≡ 32) × (length c.args.d.cells ≡ 32))) = search rules in
    let a = c.args in
    let f = full in
    let t = four-none (32 - a.a.len) (32 - a.b.len) (32 - a.c.len) (32 - a.d.len) c.if-j-k.true in
    four-tests unused_zero _ _ _ _ true true true true (unused-none _ f.0 t.0) (unused-none _ f.1.0 t.1.0)
    (unused-none _ f.1.1.0 t.1.1.0) (unused-none _ f.1.1.1 t.1.1.1)

pub loop-i-preserved : goal.loop-i-preserved
loop-i-preserved c =
    let full : (length c.args.a.cells ≡ 32) × ((length c.args.b.cells ≡ 32) × ((length c.args.c.cells ≡ 32) × (length c.args.d.cells ≡ 32))) = search rules in
    let masks-are : c.args.masks.now ≡ mask_words = c.requires.0 in
    let l = c.loop-i in
    let f = full in
    let h = c.loop-i-test.true in
    let a = c.args in
    let v = l.invariant.1 in (
      omega (arith, h),
      (
        masked-next _ _ _ l.p l.i _ masks-are f.0 h (at_most a.a.len) v.0 c.masked-p.ensures,
        (
          masked-next _ _ _ l.q l.i _ masks-are f.1.0 h (at_most a.b.len) v.1.0 c.masked-q.ensures,
          (
            masked-next _ _ _ l.r l.i _ masks-are f.1.1.0 h (at_most a.c.len) v.1.1.0 c.masked-r.ensures,
            masked-next _ _ _ l.s l.i _ masks-are f.1.1.1 h (at_most a.d.len) v.1.1.1 c.masked-s.ensures,
          ),
        ),
      ),
    )

pub returns : goal.returns
returns c =
    let full : (length c.args.a.cells ≡ 32) × ((length c.args.b.cells ≡ 32) × ((length c.args.c.cells ≡ 32) × (length c.args.d.cells ≡ 32))) = search rules in
    let l = c.loop-i in
    let f = full in
    let few = c.requires.1 in
    let e = c.loop-i-test.false in
    let v = l.invariant.1 in
    four-tests unused_zero _ _ _ _ _ _ _ _ (unused-ends _ l.p l.i f.0 few.0 v.0 e) (unused-ends _ l.q l.i f.1.0 few.1.0 v.1.0 e)
    (unused-ends _ l.r l.i f.1.1.0 few.1.1.0 v.1.1.0 e) (unused-ends _ l.s l.i f.1.1.1 few.1.1.1 v.1.1.1 e)

pub loop-i-init : goal.loop-i-init
loop-i-init c =
    let a = c.args in (
      none_yet,
      (
        unused-begins a.a.cells (32 - a.a.len),
        (unused-begins a.b.cells (32 - a.b.len), (unused-begins a.c.cells (32 - a.c.len), unused-begins a.d.cells (32 - a.d.len))),
      ),
    )

pub bounds-masks-j : goal.bounds-masks-j
bounds-masks-j c =
    let masks-are : c.args.masks.now ≡ mask_words = c.requires.0 in
    let long : length c.args.masks.now ≡ 64 = ap length masks-are ∙ mask-length in
    omega (arith, c.loop-i-test.true, long)

pub bounds-masks-k : goal.bounds-masks-k
bounds-masks-k c =
    let masks-are : c.args.masks.now ≡ mask_words = c.requires.0 in
    let long : length c.args.masks.now ≡ 64 = ap length masks-are ∙ mask-length in
    omega (arith, c.loop-i-test.true, long)

pub bounds-masks-l : goal.bounds-masks-l
bounds-masks-l c =
    let masks-are : c.args.masks.now ≡ mask_words = c.requires.0 in
    let long : length c.args.masks.now ≡ 64 = ap length masks-are ∙ mask-length in
    omega (arith, c.loop-i-test.true, long)

pub bounds-masks-m : goal.bounds-masks-m
bounds-masks-m c =
    let masks-are : c.args.masks.now ≡ mask_words = c.requires.0 in
    let long : length c.args.masks.now ≡ 64 = ap length masks-are ∙ mask-length in
    omega (arith, c.loop-i-test.true, long)
