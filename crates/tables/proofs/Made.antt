-- The ballots that hold the tails of the list, as they are made.
--     made_none, made-past, made_one, made-two      by the place of the tail
--     made_table, made-last      three tails of a table, and those past the end
-- Assumes nothing.
use mathlib.Core.Path.{◌≡◌, refl, sym, ap, ◌∙◌}
use mathlib.Core.List.{[], ◌∷◌, map, flat_map}
use Prim.Native.Nat.{ℕ, ◌-◌, ◌/◌, ◌%◌, ◌≤◌, ◌<◌}
use lib.ListN.{get_or-eq_default}
use Rattle.lists.specs.Tests.{pick}
use Rattle.protocol.specs.Entry.{value}
use Rattle.ballots.specs.Ballots.{ballot_of, no_ballot, pushed}
use Rattle.ballots.specs.declared.Ballot.{Ballot}
use Rattle.tables.specs.Tables.{tails, tables, tail_at, table_at}
use Rattle.tables.proofs.Places.{tails-13, tables-2197, table_is, tail-one, tail-two}

-- one and two entries pushed to no ballot
push-one : (x : ℕ) → pushed no_ballot x ≡ ballot_of (x ∷ [])
unfolding pushed pick
push-one x = refl

push-two : (x y : ℕ) → pushed (pushed no_ballot x) y ≡ ballot_of (x ∷ y ∷ [])
unfolding pushed pick
push-two x y = refl

module _ (j : ℕ) (none : Ballot) (n : none ≡ no_ballot) where
  pub made_none : j ≡ 0 → none ≡ ballot_of (tail_at j)
  unfolding tails flat_map
  made_none z = n ∙ rw z refl

  pub made-past : 13 ≤ j → none ≡ ballot_of (tail_at j)
  made-past h = n ∙ ap ballot_of (sym (get_or-eq_default tails [] {n = j} (rw tails-13 h)))

  pub made_one : (x : ℕ) (b : Ballot) → x ≡ value (j - 1) 0 0 → b ≡ pushed none x → 1 ≤ j → j < 4 → b ≡ ballot_of (tail_at j)
  made_one x b e p l h = rw (p, n, e, tail-one j l h) (push-one (value (j - 1) 0 0))

  pub made-two : (x y : ℕ) (b : Ballot) → x ≡ value ((j - 4) / 3) 0 0 → y ≡ value ((j - 4) % 3) 0 0 → b ≡ pushed (pushed none x) y → 4 ≤ j → j < 13 → b ≡ ballot_of (tail_at j)
  made-two x y b e f p l h = rw (p, n, e, f, tail-two j l h) (push-two (value ((j - 4) / 3) 0 0) (value ((j - 4) % 3) 0 0))

-- the three tails of a table
module _ (i : ℕ) where
  pub made-last : (none : Ballot) → none ≡ no_ballot → 2197 ≤ i → none ∷ none ∷ none ∷ [] ≡ map ballot_of (table_at i)
  made-last none n h = rw (n, get_or-eq_default tables ([] ∷ [] ∷ [] ∷ []) {n = i} (rw tables-2197 h)) refl

  pub made_table : (a b c : Ballot) → i < 2197 → a ≡ ballot_of (tail_at (i / 169)) → b ≡ ballot_of (tail_at (i / 13 % 13)) → c ≡ ballot_of (tail_at (i % 13))
      → a ∷ b ∷ c ∷ [] ≡ map ballot_of (table_at i)
  made_table a b c h x y z = rw (x, y, z, table_is ([] ∷ [] ∷ [] ∷ []) i h) refl
