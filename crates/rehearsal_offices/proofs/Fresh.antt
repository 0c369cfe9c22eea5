-- The records of a founding, one by one. Assumes nothing.
use mathlib.Core.Path.{◌≡◌, refl, sym, ap, ◌∙◌}
use mathlib.Core.List.{List, [], ◌∷◌}
use Prim.Native.Nat.{ℕ, zero, suc, ◌+◌, ◌<◌, ◌≤◌}
use native.Mathlib.Nat.{not-suc-le-zero, le_of_suc-le-suc, add-zero, add-suc, suc-add}
use native.Mathlib.Omega.{arith}
use lib.ListN.{length, get_or, set, take}
use borrow.Author.Tests.{eq-eqb, ne_eqb}
use Rattle.lists.specs.Tests.{pick}
use Rattle.rehearsal_commands.specs.Command.{letter_f}
use Rattle.rehearsal_answers.specs.declared.Answer.{Answer}
use Rattle.rehearsal_replies.specs.Answers.{says_one}
use Rattle.lists.proofs.Fill.{filled, fill_step, fill_end}
use Rattle.frame.specs.declared.Record.{Record}
use Rattle.frame.specs.State.{zero_record}
use Rattle.frame.specs.declared.founding.Founded.{Founded}
use Rattle.frame.specs.Founding.{found_of}
use Rattle.rehearsal_offices.specs.declared.Offices.{Offices}
use Rattle.rehearsal_offices.specs.declared.founding.Reply.{Reply}
use Rattle.rehearsal_offices.specs.Founding.{fresh_at, fresh_from, found_number, found_offices}

module _ (n : ℕ) (ws logs : List ℕ) where
  fresh-length : (count k : ℕ) → length (fresh_from n ws logs count k) ≡ count
  unfolding fresh_from
  fresh-length zero k = refl
  fresh-length (suc count) k = ap suc (fresh-length count (suc k))

  fresh-get : (count k i : ℕ) → i < count → get_or (fresh_from n ws logs count k) i zero_record ≡ fresh_at n ws logs (k + i)
  unfolding fresh_from
  fresh-get zero k i h = absurd (not-suc-le-zero h)
  fresh-get (suc count) k zero h = rw add-zero
  fresh-get (suc count) k (suc i) h = fresh-get count (suc k) i (le_of_suc-le-suc h) ∙ ap (fresh_at n ws logs) (suc-add k i ∙ sym (add-suc k i))

  -- the loop: the first k records are fresh
  abbrev pub fresh_to : List Record → ℕ → List Record
  fresh_to records k = filled (fresh_from n ws logs 8 0) records k

  module _ (records : List Record) (eight : length records ≡ 8) where
    pub fresh-next : (k : ℕ) (r : Record) → k < 8 → r ≡ fresh_at n ws logs k → set (fresh_to records k) k r ≡ fresh_to records (k + 1)
    fresh-next k r h e =
        ap (set (fresh_to records k) k) (e ∙ sym (fresh-get 8 0 k h ∙ ap (fresh_at n ws logs) (omega arith))) ∙
        fill_step zero_record (fresh_from n ws logs 8 0) records (fresh-length 8 0 ∙ sym eight) k (omega arith)

    pub fresh-ends : (k : ℕ) → 8 ≤ k → fresh_to records k ≡ fresh_from n ws logs 8 0
    fresh-ends k h = fill_end zero_record (fresh_from n ws logs 8 0) records (fresh-length 8 0 ∙ sym eight) k (omega arith)

-- a founding by what Found answered at office 0
module _ (offices : Offices) (n : ℕ) (ws logs : List ℕ) (f : Founded) (a : Answer)
    (ef : f ≡ found_of n 0 ws (take 1024 logs)) (ea : a ≡ says_one letter_f f.number) where
  number_is : f.number ≡ found_number n ws logs
  number_is = ap (λ (x : Founded). x.number) ef

  pub found-refused : (f.number ≡ 0 → ⊥) → ◌≡◌ {A = Reply} (record { offices = offices; answer = a }) (found_offices offices n ws logs)
  unfolding found_offices pick
  found-refused h = rw (ea, number_is, ne_eqb (found_number n ws logs) 0 (λ z. h (number_is ∙ z)))

  pub found-done : (fresh : List Record) → f.number ≡ 0 → fresh ≡ fresh_from n ws logs 8 0
      → ◌≡◌ {A = Reply} (record { offices = record { count = n; records = fresh; lengths = 0 ∷ 0 ∷ 0 ∷ 0 ∷ [] }; answer = a }) (found_offices offices n ws logs)
  unfolding found_offices pick
  found-done fresh h e = rw (ea, e, number_is, eq-eqb (found_number n ws logs) 0 (sym number_is ∙ h))
