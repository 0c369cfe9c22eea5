-- The tests of one word.
--     at-most-256      the offices that a word is tested for
--     few              a limit above 256 tests a word's part as 256 does
--     entry-tests      the tests of an entry as the code makes them
--     coding-entry     an entry that codes a line is an entry
-- Assumes nothing.
use mathlib.Core.Path.{◌≡◌, refl, sym, ◌∙◌}
use mathlib.Core.Bool.{true}
use Prim.Native.Nat.{ℕ, ◌+◌, ◌<◌, ◌≤◌}
use native.Mathlib.Omega.{arith}
use lib.Dec.{leb, ltb}
use borrow.Author.Tests.{leb-true, leb-false, lt-ltb}
use Rattle.lists.specs.Tests.{both, pick}
use Rattle.lists.proofs.Tests.{both-0, both-1, both_true, pick_true, pick-cases}
use Rattle.protocol.specs.Entry.{office_of, line_of, code_of, is_entry, proper}
use Rattle.entries.specs.Carries.{is_coding}

pub at-most-256 : (n : ℕ) → pick (leb n 256) n 256 ≤ 256
at-most-256 n = pick-cases (λ (k : ℕ). k ≤ 256) (leb n 256) n 256 (leb-true n 256) (λ e. omega arith)

-- a word's office and line are below 256; f is the limit that n offices make
pub few : (n x : ℕ) (f : ℕ → ℕ) → ((k : ℕ) → k ≤ f k) → x < 256 → ltb x (f (pick (leb n 256) n 256)) ≡ ltb x (f n)
few n x f up h =
    pick-cases (λ (m : ℕ). ltb x (f m) ≡ ltb x (f n)) (leb n 256) n 256 (λ _. refl)
    (λ e. lt-ltb x (f 256) (omega (arith, up 256)) ∙ sym (lt-ltb x (f n) (omega (arith, leb-false n 256 e, up n))))

-- the office, and what it may have
pub entry-tests : (n m v : ℕ) → m ≡ pick (leb n 256) n 256 → v < 4294967296 → is_entry n v ≡ both (ltb (office_of v) m) (proper m (line_of v) (code_of v))
unfolding is_entry proper
entry-tests n m v e h =
    rw (e, sym (few n (office_of v) (λ (k : ℕ). k) (λ k. omega arith) (omega arith)), sym (few n (line_of v) (λ (k : ℕ). 64 + k) (λ k. omega arith) (omega arith)))

pub coding-entry : (n v : ℕ) → is_coding n v ≡ true → is_entry n v ≡ true
unfolding is_coding is_entry proper
coding-entry n v e = both_true _ _ (both-0 _ _ e) (pick_true _ _ _ (both-0 _ _ (both-1 _ _ e)) ∙ both-1 _ _ (both-1 _ _ e))
