-- What stands at each place of the two lists.
--     tails-13, tables-2197      how many
--     table_is                   the table at a place, by the places of its tails
--     tail-one, tail-two         the tails of one and of two entries
-- Assumes nothing.
use mathlib.Core.Path.{◌≡◌, refl, ap, ◌∙◌}
use mathlib.Core.List.{List, [], ◌∷◌, map, flat_map}
use Prim.Native.Nat.{ℕ, zero, suc, ◌+◌, ◌-◌, ◌*◌, ◌/◌, ◌%◌, ◌≤◌, ◌<◌}
use native.Mathlib.Nat.{not-suc-le-zero, le_of_suc-le-suc, suc-mul}
use native.Mathlib.Omega.{arith}
use lib.ListN.{length, get_or, get_or-append}
use lib.Seq.{get_or-append-add}
use Rattle.protocol.specs.Entry.{value}
use Rattle.tables.specs.Tables.{tails, tables, tail_at}

pub tails-13 : length tails ≡ 13
unfolding tails flat_map
tails-13 = refl

pub tables-2197 : length tables ≡ 2197
unfolding tables tails flat_map
tables-2197 = refl

-- ── lists made of blocks ──
map_at : {A B : Type 0} (f : A → B) (a : A) (b : B) (xs : List A) (r : ℕ) → r < length xs → get_or (map f xs) r b ≡ f (get_or xs r a)
map_at f a b [] r h = absurd (not-suc-le-zero h)
map_at f a b (x ∷ xs) zero h = refl
map_at f a b (x ∷ xs) (suc r) h = map_at f a b xs r (le_of_suc-le-suc h)

-- blocks of m elements each
flat-at : {A B : Type 0} (f : A → List B) (m : ℕ) → ((x : A) → length (f x) ≡ m) → (a : A) (b : B) (xs : List A) (q r : ℕ) → q < length xs → r < m
    → get_or (flat_map f xs) (q * m + r) b ≡ get_or (f (get_or xs q a)) r b
unfolding flat_map
flat-at f m each a b [] q r h k = absurd (not-suc-le-zero h)
flat-at f m each a b (x ∷ xs) zero r h k =
    let here : 0 * m + r ≡ r = omega arith in
    rw here (get_or-append (f x) (flat_map f xs) b r (rw (each x) k))
flat-at f m each a b (x ∷ xs) (suc q) r h k =
    let there : suc q * m + r ≡ length (f x) + (q * m + r) = omega (arith, suc-mul q m, each x) in
    rw there (get_or-append-add (f x) (flat_map f xs) (q * m + r) b ∙ flat-at f m each a b xs q r (le_of_suc-le-suc h) k)

-- the 13 tables with two given tails, and the 169 with one
abbrev pub with_two : List ℕ → List ℕ → List (List (List ℕ))
with_two x y = map (λ (z : List ℕ). x ∷ y ∷ z ∷ []) tails

abbrev pub with_one : List ℕ → List (List (List ℕ))
with_one x = flat_map (with_two x) tails

two-13 : (x y : List ℕ) → length (with_two x y) ≡ 13
unfolding tails flat_map
two-13 x y = refl

one-169 : (x : List ℕ) → length (with_one x) ≡ 169
unfolding tails flat_map
one-169 x = refl

module _ (d : List (List ℕ)) where
  at-parts : (p q r : ℕ) → p < 13 → q < 13 → r < 13 → get_or tables (p * 169 + (q * 13 + r)) d ≡ tail_at p ∷ tail_at q ∷ tail_at r ∷ []
  unfolding tables
  at-parts p q r hp hq hr =
      flat-at with_one 169 one-169 [] d tails p (q * 13 + r) (rw tails-13 hp) (omega arith)
      ∙ flat-at (with_two (tail_at p)) 13 (two-13 (tail_at p)) [] d tails q r (rw tails-13 hq) hr
      ∙ map_at (λ (z : List ℕ). tail_at p ∷ tail_at q ∷ z ∷ []) [] d tails r (rw tails-13 hr)

  pub table_is : (i : ℕ) → i < 2197 → get_or tables i d ≡ tail_at (i / 169) ∷ tail_at (i / 13 % 13) ∷ tail_at (i % 13) ∷ []
  table_is i h =
      let split : i ≡ i / 169 * 169 + (i / 13 % 13 * 13 + i % 13) = omega arith in
      ap (λ (n : ℕ). get_or tables n d) split ∙ at-parts (i / 169) (i / 13 % 13) (i % 13) (omega arith) (omega arith) (omega arith)

-- ── the tails by their places ──
-- the three of one entry, from place 1 on
one_entry : (k : ℕ) → k < 3 → tail_at (suc k) ≡ value k 0 0 ∷ []
unfolding tails flat_map
one_entry zero h = refl
one_entry (suc zero) h = refl
one_entry (suc (suc zero)) h = refl
one_entry (suc (suc (suc k))) h = absurd (omega arith)

-- the nine of two, from place 4 on
two-entries : (k : ℕ) → k < 9 → tail_at (4 + k) ≡ value (k / 3) 0 0 ∷ value (k % 3) 0 0 ∷ []
unfolding tails flat_map
two-entries zero h = refl
two-entries (suc zero) h = refl
two-entries (suc (suc zero)) h = refl
two-entries (suc (suc (suc zero))) h = refl
two-entries (suc (suc (suc (suc zero)))) h = refl
two-entries (suc (suc (suc (suc (suc zero))))) h = refl
two-entries (suc (suc (suc (suc (suc (suc zero)))))) h = refl
two-entries (suc (suc (suc (suc (suc (suc (suc zero))))))) h = refl
two-entries (suc (suc (suc (suc (suc (suc (suc (suc zero)))))))) h = refl
two-entries (suc (suc (suc (suc (suc (suc (suc (suc (suc k))))))))) h = absurd (omega arith)

pub tail-one : (j : ℕ) → 1 ≤ j → j < 4 → tail_at j ≡ value (j - 1) 0 0 ∷ []
tail-one j l h =
    let s : j ≡ suc (j - 1) = omega arith in
    ap tail_at s ∙ one_entry (j - 1) (omega arith)

pub tail-two : (j : ℕ) → 4 ≤ j → j < 13 → tail_at j ≡ value ((j - 4) / 3) 0 0 ∷ value ((j - 4) % 3) 0 0 ∷ []
tail-two j l h =
    let s : j ≡ 4 + (j - 4) = omega arith in
    ap tail_at s ∙ two-entries (j - 4) (omega arith)
