-- A small table, taken apart.
--     three         its three tails, each small
--     few-small     a small tail has few entries
--     small_any     the table at any place is small
-- Assumes nothing.
use mathlib.Core.Path.{◌≡◌, refl, sym, ap}
use mathlib.Core.Bool.{true, true≢false}
use mathlib.Core.List.{List, [], ◌∷◌}
use Prim.Native.Nat.{ℕ, ◌≤◌, ◌<◌}
use native.Mathlib.Decide.{dec_lt}
use native.Mathlib.Omega.{arith}
use lib.ListN.{length, get_or-eq_default}
use borrow.Author.Tests.{leb-true, ltb-true, lt-ltb, eqb-true}
use Rattle.lists.specs.Tests.{both, all_b}
use Rattle.lists.proofs.Tests.{both-0, both-1, all-mono}
use Rattle.protocol.specs.Entry.{office_of}
use Rattle.tables.specs.Tables.{tables, table_at}
use Rattle.tables.specs.Listed.{small_entry, small_tail, small_table}
use Rattle.tables.proofs.Places.{tables-2197}
use Rattle.tables.proofs.Listed.{small_at}
use Rattle.table_lines.specs.Lines.{few}
use Rattle.table_lines.proofs.Shown.{one_digit, few-of}

pub record Three (t : List (List ℕ)) : Type 0 where
  pub x : List ℕ
  pub y : List ℕ
  pub z : List ℕ
  pub are : t ≡ x ∷ y ∷ z ∷ []
  pub small-x : small_tail x ≡ true
  pub small-y : small_tail y ≡ true
  pub small-z : small_tail z ≡ true

pub three : (t : List (List ℕ)) → small_table t ≡ true → Three t
unfolding small_table all_b
three (x ∷ y ∷ z ∷ []) h =
    let a = both-1 _ _ h in
    let b = both-1 _ _ a in
    record { x = x; y = y; z = z; are = refl; small-x = both-0 _ _ a; small-y = both-0 _ _ b; small-z = both-0 _ _ (both-1 _ _ b) }
three [] h = absurd (true≢false (sym (both-0 _ _ h)))
three (x ∷ []) h = absurd (true≢false (sym (both-0 _ _ h)))
three (x ∷ y ∷ []) h = absurd (true≢false (sym (both-0 _ _ h)))
three (x ∷ y ∷ z ∷ w ∷ t) h = absurd (omega (arith, eqb-true (length (x ∷ y ∷ z ∷ w ∷ t)) 3 (both-0 _ _ h)))

pub small-two : (t : List ℕ) → small_tail t ≡ true → length t ≤ 2
unfolding small_tail
small-two t h = leb-true (length t) 2 (both-0 _ _ h)

small-digit : (e : ℕ) → small_entry e ≡ true → one_digit e ≡ true
unfolding small_entry
small-digit e h = lt-ltb (office_of e) 10 (omega (arith, ltb-true (office_of e) 3 (both-0 _ _ h)))

pub few-small : (t : List ℕ) → small_tail t ≡ true → few t ≡ true
unfolding small_tail
few-small t h = few-of t (omega (arith, small-two t h)) (all-mono small_entry one_digit small-digit t (both-1 _ _ h))

-- past the list's end there are three empty tails
pub small_any : (i : ℕ) → small_table (table_at i) ≡ true
unfolding small_table small_tail both all_b
small_any i = go (dec_lt i 2197)
  where
    go : Dec (i < 2197) → small_table (table_at i) ≡ true
    go (yes h) = small_at ([] ∷ [] ∷ [] ∷ []) i h
    go (no h) = ap small_table (get_or-eq_default tables ([] ∷ [] ∷ [] ∷ []) {n = i} (omega (arith, tables-2197)))
