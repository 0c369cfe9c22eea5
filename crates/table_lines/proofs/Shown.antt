-- Entries as they are printed.
--     shown-dash, shown-some      `-`, or a digit for each
--     shown-short                 of few entries there are at most six bytes
--     DigitsRest, digits-next, digits-ends      the loop over the entries
--     put_last                    a byte behind what was written
-- Assumes nothing.
use mathlib.Core.Path.{◌≡◌, refl, sym, ap, ◌∙◌}
use mathlib.Core.Bool.{Bool, true}
use mathlib.Core.List.{List, [], ◌∷◌, ◌++◌}
use Prim.Native.Nat.{ℕ, ◌+◌, ◌<◌, ◌≤◌}
use native.Mathlib.Omega.{arith}
use lib.Dec.{ltb}
use lib.ListN.{length, get_or, drop, set, length-append, length-map, drop_of_length-le}
use lib.Seq.{sets}
use borrow.Author.Tests.{leb-true, ltb-true, le-leb}
use Rattle.lists.specs.Tests.{all_b}
use Rattle.lists.proofs.Tests.{both-0, both-1, both_true, all-at}
use Rattle.lists.proofs.Walk.{rest-step}
use Rattle.lists.proofs.Stores.{Left, left-next, left-none}
use Rattle.protocol.specs.Entry.{office_of}
use Rattle.printing.specs.Printing.{glyph, printed_at}
use Rattle.printing.proofs.Digits.{digits-one, printed-all, put-behind}
use Rattle.table_lines.specs.Lines.{digits, shown, few}

-- an office of one digit
abbrev pub one_digit : ℕ → Bool
one_digit e = ltb (office_of e) 10

-- few entries, as facts by name
pub record Few (t : List ℕ) : Type 0 where
  pub most : length t ≤ 6
  pub offices : all_b one_digit t ≡ true

pub few-true : (t : List ℕ) → few t ≡ true → Few t
unfolding few
few-true t e = record { most = leb-true (length t) 6 (both-0 _ _ e); offices = both-1 _ _ e }

pub few-of : (t : List ℕ) → length t ≤ 6 → all_b one_digit t ≡ true → few t ≡ true
unfolding few
few-of t h a = both_true _ _ (le-leb (length t) 6 h) a

pub shown-dash : (t : List ℕ) → length t ≡ 0 → shown t ≡ 45 ∷ []
unfolding shown
shown-dash [] h = refl
shown-dash (e ∷ t) h = absurd (omega (arith, h))

pub shown-some : (t : List ℕ) → (length t ≡ 0 → ⊥) → shown t ≡ digits t
unfolding shown
shown-some [] h = absurd (h refl)
shown-some (e ∷ t) h = refl

pub shown-short : (t : List ℕ) → few t ≡ true → length (shown t) ≤ 6
unfolding shown
shown-short [] h = omega arith
shown-short (e ∷ t) h = omega (arith, (few-true (e ∷ t) h).most, length-map t (λ (x : ℕ). glyph (office_of x)))

-- the loop over the entries: the digits of those from place i on are left to write
pub record DigitsRest (t first : List ℕ) (at : ℕ) (out : List ℕ) (next i : ℕ) : Type 0 where
  pub within : i ≤ length t
  pub place : next ≡ at + i
  pub left : Left first at (digits t) out next (digits (drop i t))

module _ {t first : List ℕ} {at : ℕ} {out : List ℕ} {next i : ℕ} (inv : DigitsRest t first at out next i) where
  -- there is room for the next number
  pub digits-room : few t ≡ true → at + 26 ≤ length first → i < length t → next + 20 ≤ length out
  digits-room f room h = omega (arith, inv.place, inv.left.long, (few-true t f).most)

  pub digits-next : few t ≡ true → at + 26 ≤ length first → i < length t
      → (v : ℕ) {r : ℕ} {last : List ℕ} → v ≡ office_of (get_or t i 0) → r ≡ next + length (printed_at out next v) → last ≡ sets out next (printed_at out next v)
      → DigitsRest t first at last r (i + 1)
  digits-next f room h v {r} {last} ev er el =
      let low : office_of (get_or t i 0) < 10 = ltb-true (office_of (get_or t i 0)) 10 (all-at one_digit 0 t i (few-true t f).offices h) in
      let one : printed_at out next v ≡ glyph (office_of (get_or t i 0)) ∷ [] =
      printed-all out next v (digits-room f room h) ∙ digits-one 20 v (omega arith) (omega arith) ∙ ap (λ (o : ℕ). glyph o ∷ []) ev in
      let rest : digits (drop i t) ≡ glyph (office_of (get_or t i 0)) ∷ digits (drop (i + 1) t) = ap digits (rest-step 0 t i h) in
      record {
        within = omega arith;
        place = omega (arith, er, ap length one, inv.place);
        left = left-next inv.left (printed_at out next v) (rest ∙ ap (λ (p : List ℕ). p ++ digits (drop (i + 1) t)) (sym one)) er el;
      }

  pub digits-ends : (length t ≡ 0 → ⊥) → length t ≤ i → (next ≡ at + length (shown t)) × (out ≡ sets first at (shown t))
  digits-ends some h = rw (shown-some t some) (left-none inv.left (ap digits (drop_of_length-le t h)))

-- no entries
pub put-dash : (t out : List ℕ) (at : ℕ) → length t ≡ 0 → (at + 1 ≡ at + length (shown t)) × (set out at 45 ≡ sets out at (shown t))
put-dash t out at h = rw (shown-dash t h) (refl, refl)

-- a byte behind what was written
pub put_last : (out last xs : List ℕ) (at next b : ℕ) → next ≡ at + length xs → last ≡ sets out at xs
    → (next + 1 ≡ at + length (xs ++ (b ∷ []))) × (set last next b ≡ sets out at (xs ++ (b ∷ [])))
put_last out last xs at next b en el = (simp length-append (omega arith), rw (en, el) (put-behind out at b xs))
