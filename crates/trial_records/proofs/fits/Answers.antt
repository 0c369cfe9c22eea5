-- At each letter the definition picks what the arm asks for.
use borrow.Author.Rules.{rules}
use native.Mathlib.Nat.{eq-or-lt_of_le}
use native.Mathlib.Omega.{arith}
use mathlib.Core.Logic.{◌⊎◌, inl, inr}
use mathlib.Core.Path.{◌≡◌, sym, ◌∙◌}
use Prim.Native.Nat.{ℕ, ◌≤◌, ◌<◌}
use Rattle.trial_lines.proofs.Putting.{room-test}
use Rattle.trial_records.proofs.Letters.{fits-64, fits_8, fits-32, fits-any}
use Rattle.trial_records.proofs.fits.Goals as goal

pub returns-in-110 : goal.returns-in-110
returns-in-110 c = c.is_some.ensures ∙ room-test _ _ _ _ _ c.room_for.ensures ∙ sym (fits_8 _ c.in-110.is)

pub returns-in-97 : goal.returns-in-97
returns-in-97 c = c.is_some-in-97.ensures ∙ room-test _ _ _ _ _ c.room_for-in-97.ensures ∙ sym (fits-32 _ c.in-97.is)

-- from 106 up to 107 there are two numbers
two : (x : ℕ) → 106 ≤ x → x < 108 → (x ≡ 106) ⊎ (x ≡ 107)
two x a b = elim (eq-or-lt_of_le a) [ inl e ↦ inl (sym e) | inr h ↦ inr (omega arith) ]

pub returns-in-106 : goal.returns-in-106
returns-in-106 c = c.is_some-in-106.ensures ∙ room-test _ _ _ _ _ c.room_for-in-106.ensures ∙ sym (fits-64 _ (two _ (omega arith) (omega arith)))

pub returns-in_default : goal.returns-in_default
returns-in_default c = sym (fits-any _ (λ e. omega arith) (λ e. omega arith) (λ e. omega arith) (λ e. omega arith) (λ e. omega arith))

pub returns-in_default-2 : goal.returns-in_default-2
returns-in_default-2 c = sym (fits-any _ (λ e. omega arith) (λ e. omega arith) (λ e. search rules) (λ e. search rules) (λ e. omega arith))
