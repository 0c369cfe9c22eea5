-- The reading is strict: it accepts the bytes of up to 1,000,000 households and no others.
--     read-spelled       what is written is read back
--     spelled-read       what is read is what was written
-- Assumes nothing.
use mathlib.Core.Path.{◌≡◌, refl, ap₂}
use mathlib.Core.Bool.{true}
use mathlib.Core.List.{List, [], ◌∷◌}
use Prim.Native.Nat.{ℕ, zero, suc, ◌*◌, ◌/◌, ◌%◌, ◌≤◌}
use native.Mathlib.Omega.{arith}
use lib.ListN.{length}
use borrow.Author.Tests.{eq-eqb, eqb-true, le-leb, ltb-true}
use Rattle.lists.specs.Tests.{all_b}
use Rattle.lists.proofs.Tests.{both-0, both-1, both_true}
use Rattle.numbers.specs.Numbers.{Bytes, bytes32, be32, run_ok}
use Rattle.numbers.proofs.Numbers.{be32-bytes32, bytes32-be32}
use Rattle.households.specs.Households.{Household, record_here, households_at, are_households, households_in}
use Rattle.households.specs.Spelling.{spelled, is_household}

-- ── written, then read ──
seven : (hs : List Household) → length (spelled hs) ≡ 7 * length hs
unfolding spelled bytes32
seven [] = refl
seven (h ∷ hs) = omega (arith, seven hs)

run-read : (hs : List Household) → all_b is_household hs ≡ true → (run_ok 7 record_here (length hs) (spelled hs) ≡ true) × (households_at (length hs) (spelled hs) ≡ hs)
unfolding all_b is_household spelled run_ok record_here households_at bytes32
run-read [] all = (refl, refl)
run-read (h ∷ hs) all =
    let again = run-read hs (both-1 _ _ all) in (
      both_true _ _ (both_true _ _ refl (both_true _ _ refl (both-0 _ _ (both-0 _ _ all)))) again.0,
      ap₂ (λ (w : ℕ) (l : List Household). record { line = h.line; weight = w } ∷ l)
          (be32-bytes32 h.weight (spelled hs) (ltb-true h.weight 4294967296 (both-1 _ _ (both-0 _ _ all)))) again.1,
    )

pub read-spelled : (hs : List Household) → all_b is_household hs ≡ true → length hs ≤ 1000000 → (are_households (spelled hs) ≡ true) × (households_in (spelled hs) ≡ hs)
unfolding are_households
read-spelled hs all few =
    let long = seven hs in
    let records : length (spelled hs) / 7 ≡ length hs = omega arith in
    let whole : length (spelled hs) % 7 ≡ 0 = omega arith in
    let run = run-read hs all in
    (both_true _ _ (eq-eqb (length (spelled hs) % 7) 0 whole) (both_true _ _ (le-leb (length (spelled hs) / 7) 1000000 (omega arith)) (rw records run.0)), rw records run.1)

-- ── read, then written ──
run-spelled : (k : ℕ) (s : List ℕ) → Bytes s → length s ≡ 7 * k → run_ok 7 record_here k s ≡ true → spelled (households_at k s) ≡ s
unfolding run_ok record_here households_at spelled
run-spelled zero [] b n e = refl
run-spelled zero (x ∷ s) b n e = absurd (omega arith)
run-spelled (suc k) (m0 ∷ m1 ∷ line ∷ w0 ∷ w1 ∷ w2 ∷ w3 ∷ s) b n e =
    let here = both-0 _ _ e in
    let first : m0 ≡ 0x48 = eqb-true m0 0x48 (both-0 _ _ here) in
    let second : m1 ≡ 0x52 = eqb-true m1 0x52 (both-0 _ _ (both-1 _ _ here)) in
    let again : spelled (households_at k s) ≡ s = run-spelled k s (λ i. b (suc (suc (suc (suc (suc (suc (suc i)))))))) (omega arith) (both-1 _ _ e) in
    let weight : bytes32 (be32 (w0 ∷ w1 ∷ w2 ∷ w3 ∷ s)) ≡ w0 ∷ w1 ∷ w2 ∷ w3 ∷ [] = bytes32-be32 w0 w1 w2 w3 s (b 3) (b 4) (b 5) (b 6) in
    rw (first, second, weight, again)
run-spelled (suc k) [] b n e = absurd (omega arith)
run-spelled (suc k) (a ∷ []) b n e = absurd (omega arith)
run-spelled (suc k) (a ∷ c ∷ []) b n e = absurd (omega arith)
run-spelled (suc k) (a ∷ c ∷ d ∷ []) b n e = absurd (omega arith)
run-spelled (suc k) (a ∷ c ∷ d ∷ f ∷ []) b n e = absurd (omega arith)
run-spelled (suc k) (a ∷ c ∷ d ∷ f ∷ g ∷ []) b n e = absurd (omega arith)
run-spelled (suc k) (a ∷ c ∷ d ∷ f ∷ g ∷ h ∷ []) b n e = absurd (omega arith)

pub spelled-read : (s : List ℕ) → Bytes s → are_households s ≡ true → spelled (households_in s) ≡ s
unfolding are_households
spelled-read s b e = run-spelled (length s / 7) s b (omega (arith, eqb-true (length s % 7) 0 (both-0 _ _ e))) (both-1 _ _ (both-1 _ _ e))
