use borrow.Author.Rules.{rules}
use native.Mathlib.Omega.{arith}
use mathlib.Core.Path.{◌≡◌, ◌∙◌}
use Prim.Native.Nat.{ℕ, ◌+◌, ◌<◌, ◌≤◌}
use mathlib.Core.List.{List}
use lib.Bits.{bit_or}
use lib.ListN.{length, get_or}
use Rattle.lists.specs.Tests.{both}
use Rattle.entries.specs.Carries.{is_coding, no_carry}
use Rattle.entries.proofs.Carries.{no-carry-zero, raised-next}
use Rattle.lists.proofs.Walk.{with-done}
use Rattle.eight_ballots.specs.Fours.{coding_cells}
use Rattle.ballots.specs.declared.Ballot.{Ballot}
use Rattle.eight_ballots.proofs.Fours.{all-cells, four-tests}
use Rattle.eight_ballots.proofs.four_coding.Invariants.{Joined}
use Rattle.eight_ballots.proofs.four_coding.Goals as goal

none_yet : 0 ≤ 32
none_yet = omega arith

begins : (n : ℕ) (cells : List ℕ) → Joined n cells 0 0
unfolding both
begins n cells = rw no-carry-zero

next : (n : ℕ) (cells : List ℕ) (bits i v : ℕ) → length cells ≡ 32 → i < 32 → Joined n cells bits i → no_carry v ≡ is_coding n (get_or cells i 0) → Joined n cells (bit_or bits v) (i + 1)
next n cells bits i v full h inv e = raised-next cells bits i v (omega arith) n inv e

pub loop-i-preserved : goal.loop-i-preserved
loop-i-preserved c =
    let full : (length c.args.a.cells ≡ 32) × ((length c.args.b.cells ≡ 32) × ((length c.args.c.cells ≡ 32) × (length c.args.d.cells ≡ 32))) = search rules in
    let l = c.loop-i in
    let f = full in
    let h = c.loop-i-test.true in
    let v = l.invariant.1 in (
      omega (arith, h),
      (
        next _ _ _ _ _ f.0 h v.0 c.raised-p.ensures.1,
        (
          next _ _ _ _ _ f.1.0 h v.1.0 c.raised-q.ensures.1,
          (next _ _ _ _ _ f.1.1.0 h v.1.1.0 c.raised-r.ensures.1, next _ _ _ _ _ f.1.1.1 h v.1.1.1 c.raised-s.ensures.1),
        ),
      ),
    )

-- a walk at its end
done : (n : ℕ) (b : Ballot) (bits i : ℕ) → length b.cells ≡ 32 → 32 ≤ i → Joined n b.cells bits i → no_carry bits ≡ coding_cells n b
done n b bits i h e inv = with-done (is_coding n) 0 b.cells (no_carry bits) i inv (omega arith) ∙ all-cells (is_coding n) b h

pub returns : goal.returns
returns c =
    let full : (length c.args.a.cells ≡ 32) × ((length c.args.b.cells ≡ 32) × ((length c.args.c.cells ≡ 32) × (length c.args.d.cells ≡ 32))) = search rules in
    let l = c.loop-i in
    let f = full in
    let v = l.invariant.1 in
    let e = c.loop-i-test.false in
    four-tests _ _ _ _ _ _ _ _ _ (c.no_carry.ensures ∙ done _ _ _ l.i f.0 e v.0) (c.no_carry-2.ensures ∙ done _ _ _ l.i f.1.0 e v.1.0)
    (c.no_carry-3.ensures ∙ done _ _ _ l.i f.1.1.0 e v.1.1.0) (c.no_carry-4.ensures ∙ done _ _ _ l.i f.1.1.1 e v.1.1.1)

pub loop-i-init : goal.loop-i-init
loop-i-init c = (none_yet, (begins _ _, (begins _ _, (begins _ _, begins _ _))))
