-- Beginnings of lists of entries: "≤ between versions means is a beginning of"; "extends means begins with and is longer".
-- `a ⊑ b`: a is a beginning of b. `a ⊏ b`: b extends a. Each as a type, for statements, and as a test, for the calls. Assumes nothing.
use Rattle.std.specs.Prelude.{◌≡◌, List, [], ◌∷◌, Bool, true, false, ◌&&◌, ◌||◌, ℕ, eqb}

infix 40 ◌⊑◌ ◌⊏◌
abbrev pub ◌⊑◌ : List ℕ → List ℕ → Type 0
[] ⊑ b = Unit {0}
(x ∷ a) ⊑ [] = ⊥
(x ∷ a) ⊑ (y ∷ b) = (x ≡ y) × (a ⊑ b)

abbrev pub ◌⊏◌ : List ℕ → List ℕ → Type 0
[] ⊏ [] = ⊥
[] ⊏ (y ∷ b) = Unit {0}
(x ∷ a) ⊏ [] = ⊥
(x ∷ a) ⊏ (y ∷ b) = (x ≡ y) × (a ⊏ b)

unfoldable pub begins : List ℕ → List ℕ → Bool
begins [] b = true
begins (x ∷ a) [] = false
begins (x ∷ a) (y ∷ b) = eqb x y && begins a b

-- `extends b a`: b extends a
unfoldable pub extends : List ℕ → List ℕ → Bool
extends [] [] = false
extends (y ∷ b) [] = true
extends [] (x ∷ a) = false
extends (y ∷ b) (x ∷ a) = eqb x y && extends b a

-- one of two lists is a beginning of the other
abbrev pub comparable : List ℕ → List ℕ → Bool
comparable a b = begins a b || begins b a
