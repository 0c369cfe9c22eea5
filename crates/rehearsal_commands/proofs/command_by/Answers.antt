-- Each arm's letter and count are those by which the definition picks; no others make a command.
use borrow.Author.Tests.{eq-eqb, eqb-true}
use native.Mathlib.Omega.{arith}
use mathlib.Core.Path.{◌≡◌, refl, sym}
use mathlib.Core.List.{List}
use Prim.Native.Nat.{ℕ}
use lib.Dec.{eqb}
use Rattle.std.specs.Prelude.{Option, None}
use Rattle.lists.specs.Tests.{pick}
use Rattle.lists.proofs.Tests.{pick-cases}
use Rattle.rehearsal_commands.specs.declared.Command.{Command}
use Rattle.rehearsal_commands.specs.Command.{command_by, with_one, with_two, with_three}
use Rattle.rehearsal_commands.proofs.command_by.Goals as goal

pub returns-in-102-default : goal.returns-in-102-default
unfolding command_by pick
returns-in-102-default c = rw (eq-eqb c.args.letter 102 c.in-102-default.is-0, c.from-k.ensures)

pub returns-in-101-eq0 : goal.returns-in-101-eq0
unfolding command_by with_one pick
returns-in-101-eq0 c = rw (c.in-101-eq0.is-0, c.in-101-eq0.is-1, c.from-k.ensures)

pub returns-in-115-eq1 : goal.returns-in-115-eq1
unfolding command_by with_two pick
returns-in-115-eq1 c = rw (c.in-115-eq1.is-0, c.in-115-eq1.is-1, c.from-k.ensures, c.from.ensures)

pub returns-in-116-eq1 : goal.returns-in-116-eq1
unfolding command_by with_two pick
returns-in-116-eq1 c = rw (c.in-116-eq1.is-0, c.in-116-eq1.is-1, c.from-k.ensures, c.from-in-116-eq1.ensures)

pub returns-in-118-eq1 : goal.returns-in-118-eq1
unfolding command_by with_two pick
returns-in-118-eq1 c = rw (c.in-118-eq1.is-0, c.in-118-eq1.is-1, c.from-k.ensures, c.from-in-118-eq1.ensures)

pub returns-in-105-eq2 : goal.returns-in-105-eq2
unfolding command_by with_three pick
returns-in-105-eq2 c = rw (c.in-105-eq2.is-0, c.in-105-eq2.is-1, c.from-k.ensures, c.from-in-105-eq2.ensures, c.from-in-105-eq2-2.ensures)

no_command : (letter first count : ℕ) (cells : List ℕ) → (letter ≡ 102 → ⊥) → (letter ≡ 101 → count ≡ 0 → ⊥) → (letter ≡ 115 → count ≡ 1 → ⊥)
    → (letter ≡ 116 → count ≡ 1 → ⊥) → (letter ≡ 118 → count ≡ 1 → ⊥) → (letter ≡ 105 → count ≡ 2 → ⊥) → command_by letter first count cells ≡ None
unfolding command_by with_one with_two with_three
no_command letter first count cells f e s t v i =
    let P : Option Command → Type 0 = λ o. o ≡ None in
    pick-cases P (eqb letter 102) _ _ (λ z. absurd (f (eqb-true letter 102 z)))
    (λ z. pick-cases P (eqb count 0) _ _ (λ y. pick-cases P (eqb letter 101) _ _ (λ x. absurd (e (eqb-true letter 101 x) (eqb-true count 0 y))) (λ x. refl))
    (λ z. pick-cases P (eqb count 1) _ _
    (λ y. pick-cases P (eqb letter 115) _ _ (λ x. absurd (s (eqb-true letter 115 x) (eqb-true count 1 y)))
    (λ x. pick-cases P (eqb letter 116) _ _ (λ x. absurd (t (eqb-true letter 116 x) (eqb-true count 1 y)))
    (λ x. pick-cases P (eqb letter 118) _ _ (λ x. absurd (v (eqb-true letter 118 x) (eqb-true count 1 y))) (λ x. refl))))
    (λ z. pick-cases P (eqb count 2) _ _ (λ y. pick-cases P (eqb letter 105) _ _ (λ x. absurd (i (eqb-true letter 105 x) (eqb-true count 2 y))) (λ x. refl))
    (λ z. refl))))

pub returns-in_default : goal.returns-in_default
returns-in_default c =
    sym (no_command _ _ _ _ (λ z. omega arith) (λ z y. omega arith) (λ z y. omega arith) (λ z y. omega arith) (λ z y. omega arith) (λ z y. omega arith))

pub returns-in_default-2 : goal.returns-in_default-2
returns-in_default-2 c =
    sym (no_command _ _ _ _ (λ z. omega arith) (λ z y. omega arith) (λ z y. omega arith) (λ z y. omega arith) (λ z y. omega arith) (λ z y. omega arith))

pub returns-in_default-3 : goal.returns-in_default-3
returns-in_default-3 c =
    sym (no_command _ _ _ _ (λ z. omega arith) (λ z y. omega arith) (λ z y. omega arith) (λ z y. omega arith) (λ z y. omega arith) (λ z y. omega arith))

pub returns-in_default-4 : goal.returns-in_default-4
returns-in_default-4 c =
    sym (no_command _ _ _ _ (λ z. omega arith) (λ z y. omega arith) (λ z y. omega arith) (λ z y. omega arith) (λ z y. omega arith) (λ z y. omega arith))

pub returns-in_default-5 : goal.returns-in_default-5
returns-in_default-5 c =
    sym (no_command _ _ _ _ (λ z. omega arith) (λ z y. omega arith) (λ z y. omega arith) (λ z y. omega arith) (λ z y. omega arith) (λ z y. omega arith))

pub returns-in_default-6 : goal.returns-in_default-6
returns-in_default-6 c =
    sym (no_command _ _ _ _ (λ z. omega arith) (λ z y. omega arith) (λ z y. omega arith) (λ z y. omega arith) (λ z y. omega arith) (λ z y. omega arith))
