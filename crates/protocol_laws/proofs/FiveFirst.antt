-- Request (iv): "Number 5 is to be tested before 4. The only old answer that changes is a proper issue at exactly 992 and 32, which was 4 and is 5."
--     only-at-both      the old number and the new one differ exactly there, for every settled length and every length of the own tail
--     was-4-is-5        and there it was 4 and is 5
--     boundaries        lengths of 991, 992 and 993 with tails of 31 and 32, computed
-- Both orders are this request's alone: request (v) tests 11 where 4 stands, and the definition of a call (Issue) has no 4.
-- Assumes nothing.
use mathlib.Core.Path.{◌≡◌, refl, sym, ◌∙◌}
use mathlib.Core.Bool.{Bool, true, false, not}
use mathlib.Core.Logic.{◌↔◌}
use Prim.Native.Nat.{ℕ, ◌+◌}
use native.Mathlib.Omega.{arith}
use lib.Dec.{eqb}
use borrow.Author.Tests.{eqb-true}
use Rattle.lists.specs.Tests.{both, pick}
use Rattle.protocol.specs.Entry.{proper}

-- document 01's order of the three refusals
unfoldable pub four_first : ℕ → ℕ → ℕ → ℕ → ℕ → ℕ
four_first n line code settled len =
    pick (not (proper n line code)) 3
    (pick (eqb len 32) 4
    (pick (eqb (settled + len) 1024) 5 0))

-- request (iv)'s order
unfoldable pub five_first : ℕ → ℕ → ℕ → ℕ → ℕ → ℕ
five_first n line code settled len =
    pick (not (proper n line code)) 3
    (pick (eqb (settled + len) 1024) 5
    (pick (eqb len 32) 4 0))

-- "a proper issue at exactly 992 and 32"
pub record AtBoth (n line code settled len : ℕ) : Type 0 where
  pub limits : proper n line code ≡ true
  pub length-is : settled ≡ 992
  pub tail-is : len ≡ 32

module _ (n line code settled len : ℕ) where
  -- "which was 4 and is 5"
  pub was-4-is-5 : AtBoth n line code settled len → (four_first n line code settled len ≡ 4) × (five_first n line code settled len ≡ 5)
  unfolding four_first five_first pick
  was-4-is-5 b = rw (b.limits, b.length-is, b.tail-is) (refl, refl)

  -- "the only old answer that changes"
  pub only-at-both : (four_first n line code settled len ≡ five_first n line code settled len → ⊥) ↔ AtBoth n line code settled len
  unfolding four_first five_first pick
  only-at-both = (λ h. go (proper n line code) refl (eqb len 32) refl (eqb (settled + len) 1024) refl h, λ b e. same (was-4-is-5 b) e)
    where
      same : (four_first n line code settled len ≡ 4) × (five_first n line code settled len ≡ 5) → four_first n line code settled len ≡ five_first n line code settled len → ⊥
      same s e = let x : ◌≡◌ {A = ℕ} 4 5 = sym s.0 ∙ e ∙ s.1 in omega arith

      go : (a : Bool) → proper n line code ≡ a → (b : Bool) → eqb len 32 ≡ b → (c : Bool) → eqb (settled + len) 1024 ≡ c
          → (◌≡◌ {A = ℕ} (pick (not a) 3 (pick b 4 (pick c 5 0))) (pick (not a) 3 (pick c 5 (pick b 4 0))) → ⊥) → AtBoth n line code settled len
      go false p b q c r x = absurd (x refl)
      go true p true q true r x =
          let tail-is : len ≡ 32 = eqb-true len 32 q in
          record { limits = p; length-is = omega (arith, eqb-true (settled + len) 1024 r); tail-is = tail-is }
      go true p true q false r x = absurd (x refl)
      go true p false q true r x = absurd (x refl)
      go true p false q false r x = absurd (x refl)

pub boundaries :
    (five_first 3 5 1 991 31 ≡ 0) × (five_first 3 5 1 991 32 ≡ 4) × (five_first 3 5 1 992 31 ≡ 0) × (five_first 3 5 1 992 32 ≡ 5) × (five_first 3 5 1 993 31 ≡ 5) ×
    -- a line and a code that no entry has
    (five_first 3 67 1 992 32 ≡ 3) × (five_first 3 5 10000 992 32 ≡ 3) × (five_first 3 67 1 993 31 ≡ 3)
unfolding five_first proper both pick
boundaries = (refl, refl, refl, refl, refl, refl, refl, refl)
