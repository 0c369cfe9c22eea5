-- The number of a take by the logs, and the places of their comparison, each way out in the order of the definitions.
--     by-none, by-compared          the answer with a number that came to no comparison, and with one that did
--     past, inside, apart, meets    16, 17, 10 and 0
-- Assumes nothing.
use mathlib.Core.Path.{◌≡◌, sym, ap, ◌∙◌}
use mathlib.Core.Bool.{true, false}
use mathlib.Core.List.{List}
use Prim.Native.Nat.{ℕ, ◌+◌, ◌-◌, ◌<◌, ◌≤◌}
use native.Mathlib.Omega.{arith}
use lib.Dec.{ltb}
use lib.ListN.{length, drop}
use borrow.Author.Tests.{lt-ltb, le-ltb}
use Rattle.lists.specs.Tests.{pick}
use Rattle.lists.proofs.Tests.{pick_true, pick-false}
use Rattle.protocol.specs.Beginning.{comparable}
use Rattle.shared_places.specs.FromEnd.{compares, places_from_end}
use Rattle.comparing.specs.Checking.{Checked, checked_in, logs_refusal, checked_by}
use Rattle.comparing.specs.declared.Refused.{Refused}
use Rattle.std.specs.Prelude.{Err}
use Rattle.refusals.specs.Refusals.{number_of}
use Rattle.refusals.specs.declared.Refusal.{Refusal}

module _ (dropped : ℕ) (log : List ℕ) (other : ℕ) (theirs : List ℕ) where
  -- both logs from where both have entries
  abbrev own_part : List ℕ
  own_part = drop (other - dropped) log

  abbrev their_part : List ℕ
  their_part = drop (dropped - other) theirs

  answer : (k p number : ℕ) → k ≡ number → p ≡ pick (compares k) (places_from_end own_part their_part) 0 → ◌≡◌ {A = Checked} (record { number = k; places = p }) (checked_by number dropped log other theirs)
  unfolding checked_by
  answer k p number e q = λ i. record { number = e i; places = (q ∙ ap (λ (z : ℕ). pick (compares z) (places_from_end own_part their_part) 0) e) i }

  pub by-none : (r : Refused) (f : Refusal) (number : ℕ) → r ≡ record { refusal = f; places = 0 } → compares (number_of f) ≡ false → number_of f ≡ number
      → checked_in (Err r) ≡ checked_by number dropped log other theirs
  by-none r f number is c e =
      ap (λ (x : Refused). checked_in (Err x)) is
      ∙ answer (number_of f) 0 number e (sym (pick-false (compares (number_of f)) (places_from_end own_part their_part) 0 c))

  pub by-compared : (k p number : ℕ) → compares k ≡ true → k ≡ number → p ≡ places_from_end own_part their_part
      → ◌≡◌ {A = Checked} (record { number = k; places = p }) (checked_by number dropped log other theirs)
  by-compared k p number c e q = answer k p number e (q ∙ sym (pick_true (compares k) (places_from_end own_part their_part) 0 c))

  pub past : length log < other - dropped → 16 ≡ logs_refusal dropped log other theirs
  unfolding logs_refusal pick
  past h = rw (lt-ltb (dropped + length log) other (omega arith))

  module _ (h : other - dropped ≤ length log) where
    abbrev begins-within : ltb (dropped + length log) other ≡ false
    begins-within = le-ltb (dropped + length log) other (omega arith)

    pub inside : length theirs < dropped - other → 17 ≡ logs_refusal dropped log other theirs
    unfolding logs_refusal pick
    inside l = rw (begins-within, lt-ltb (other + length theirs) dropped (omega arith))

    module _ (l : dropped - other ≤ length theirs) where
      abbrev ends-past : ltb (other + length theirs) dropped ≡ false
      ends-past = le-ltb (other + length theirs) dropped (omega arith)

      pub apart : comparable own_part their_part ≡ false → 10 ≡ logs_refusal dropped log other theirs
      unfolding logs_refusal pick
      apart c = rw (begins-within, ends-past, c)

      pub meets : comparable own_part their_part ≡ true → 0 ≡ logs_refusal dropped log other theirs
      unfolding logs_refusal pick
      meets c = rw (begins-within, ends-past, c)
