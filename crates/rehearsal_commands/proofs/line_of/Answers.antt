-- The tests that led to each return are those by which the definition picks.
use borrow.Author.Tests.{lt-ltb, le-ltb, eq-eqb, eqb-true}
use native.Mathlib.Omega.{arith}
use mathlib.Core.Path.{◌≡◌, refl, ◌∙◌}
use Prim.Native.Nat.{◌-◌}
use lib.ListN.{length, get_or, take, drop, length-drop}
use lib.Dec.{eqb, ltb}
use lib.Seq.{take_all}
use Rattle.std.specs.Prelude.{Option, None}
use Rattle.lists.specs.Tests.{pick}
use Rattle.lists.proofs.Tests.{pick-cases}
use Rattle.rehearsal_commands.specs.declared.Command.{Command}
use Rattle.rehearsal_commands.specs.Command.{line_of, line_from}
use Rattle.rehearsal_commands.proofs.line_of.Goals as goal

pub returns-in-32 : goal.returns-in-32
unfolding line_of pick
returns-in-32 c =
    let s = c.args.bytes.now in
    let b : get_or s 1 0 ≡ 32 = omega arith in
    let w : take (length s - 2) (drop 2 s) ≡ drop 2 s = take_all (length s - 2) (drop 2 s) (simp length-drop (omega arith)) in
    c.line_from.ensures ∙ rw (le-ltb 128 (length s) (omega arith), le-ltb (length s) 2 (omega arith), eq-eqb (get_or s 1 0) 32 b, w)

pub returns-in_default : goal.returns-in_default
unfolding line_of pick
returns-in_default c = let s = c.args.bytes.now in rw (le-ltb 128 (length s) (omega arith), lt-ltb (length s) 2 (omega arith))

pub returns-in_default-2 : goal.returns-in_default-2
unfolding line_of pick
returns-in_default-2 c = let s = c.args.bytes.now in rw (lt-ltb 128 (length s) (omega arith))

-- the second byte is no space: a line longer than 128 bytes is none either
pub returns-in_default-3 : goal.returns-in_default-3
unfolding line_of
returns-in_default-3 c =
    let s = c.args.bytes.now in
    let P : Option Command → Type 0 = λ o. None ≡ o in
    pick-cases P (ltb 128 (length s)) _ _ (λ z. refl)
    (λ z. pick-cases P (ltb (length s) 2) _ _ (λ y. refl)
    (λ y. pick-cases P (eqb (get_or s 1 0) 32) _ _ (λ x. let b = eqb-true (get_or s 1 0) 32 x in absurd (omega arith)) (λ x. refl)))
