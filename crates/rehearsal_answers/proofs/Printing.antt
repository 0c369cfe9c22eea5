-- Items written one behind the other.
--     item-short, printed-short      how many bytes they take
--     printed-room, printed-none     whether there is room
--     print-whole                    a letter, three items, a newline
-- Assumes nothing.
use mathlib.Core.Path.{◌≡◌, refl}
use mathlib.Core.List.{List, [], ◌∷◌}
use Prim.Native.Nat.{ℕ, ◌+◌, ◌<◌, ◌≤◌, zero-le}
use native.Mathlib.Omega.{arith}
use lib.Dec.{leb}
use lib.ListN.{length, set, length-append}
use lib.Seq.{sets}
use borrow.Author.Tests.{le-leb, lt-leb}
use Rattle.lists.proofs.Tests.{pick_true, pick-false}
use Rattle.lists.proofs.Stores.{Left, left-all, left-next, left-none}
use Rattle.rehearsal_answers.specs.declared.Answer.{Answer}
use Rattle.rehearsal_answers.specs.declared.Item.{Item}
use Rattle.rehearsal_answers.specs.declared.Item.TheVariants.{Number, Dash, Nothing}
use Rattle.rehearsal_answers.specs.Answer.{spaced_item, printed_of, printed_in}
use Rattle.printing.specs.Printing.{Puts}
use Rattle.printing.proofs.Digits.{decimal-short}

pub item-short : (i : Item) → length (spaced_item i) ≤ 21
item-short (Number n) = omega (arith, decimal-short 20 n)
item-short Dash = omega arith
item-short Nothing = zero-le

pub printed-short : (a : Answer) → length (printed_of a) ≤ 65
unfolding printed_of
printed-short a = simp length-append (omega (arith, item-short a.first, item-short a.second, item-short a.third))

pub printed-room : (size at : ℕ) (a : Answer) → at + 65 ≤ size → printed_in size at a ≡ printed_of a
unfolding printed_in
printed-room size at a h = pick_true (leb (at + 65) size) (printed_of a) [] (le-leb (at + 65) size h)

pub printed-none : (size at : ℕ) (a : Answer) → size < at + 65 → printed_in size at a ≡ []
unfolding printed_in
printed-none size at a h = pick-false (leb (at + 65) size) (printed_of a) [] (lt-leb (at + 65) size h)

-- each item behind the one before it
pub print-whole : (a : Answer) (at behind next last : ℕ) (out o₁ o₂ o₃ : List ℕ)
    → behind ≡ at + 1 + length (spaced_item a.first) → o₁ ≡ sets (set out at a.letter) (at + 1) (spaced_item a.first)
    → next ≡ behind + length (spaced_item a.second) → o₂ ≡ sets o₁ behind (spaced_item a.second)
    → last ≡ next + length (spaced_item a.third) → o₃ ≡ sets o₂ next (spaced_item a.third)
    → Puts out at (printed_of a) (last + 1) (set o₃ last 10)
unfolding printed_of
print-whole a at behind next last out o₁ o₂ o₃ e₁ s₁ e₂ s₂ e₃ s₃ =
    let all : Left out at (printed_of a) out at (printed_of a) = left-all out at (printed_of a) in
    let lettered = left-next all (a.letter ∷ []) {l' = set out at a.letter} {p' = at + 1} refl refl refl in
    let one = left-next lettered (spaced_item a.first) {l' = o₁} {p' = behind} refl e₁ s₁ in
    let two = left-next one (spaced_item a.second) {l' = o₂} {p' = next} refl e₂ s₂ in
    let three = left-next two (spaced_item a.third) {l' = o₃} {p' = last} refl e₃ s₃ in
    let whole = left-none (left-next three (10 ∷ []) {rest' = []} {l' = set o₃ last 10} {p' = last + 1} refl refl refl) refl in
    record { end = whole.0; output = whole.1 }
