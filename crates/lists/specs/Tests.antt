-- The tests that the definitions of every crate are made of. Assumes nothing.
use Rattle.std.specs.Prelude.{Bool, true, false, cond, List, [], ◌∷◌, ℕ, ◌+◌, eqb}

-- both tests hold
unfoldable pub both : Bool → Bool → Bool
both true b = b
both false b = false

-- x where the test holds, else y
unfoldable pub pick {ℓ} : {A : Type ℓ} → Bool → A → A → A
pick true x y = x
pick false x y = y

-- the test holds of every element
unfoldable pub all_b : {A : Type 0} → (A → Bool) → List A → Bool
all_b t [] = true
all_b t (x ∷ xs) = both (t x) (all_b t xs)

-- two lists of numbers are the same
unfoldable pub same : List ℕ → List ℕ → Bool
same [] [] = true
same [] (v ∷ vs) = false
same (w ∷ ws) [] = false
same (w ∷ ws) (v ∷ vs) = both (eqb w v) (same ws vs)

-- how often x stands in a list
unfoldable pub times : ℕ → List ℕ → ℕ
times x [] = 0
times x (y ∷ ys) = cond (eqb x y) 1 0 + times x ys
