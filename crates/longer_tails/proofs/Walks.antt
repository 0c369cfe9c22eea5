-- A list that is longer than another extends it exactly if it starts with it, and one that is not longer extends nothing. Assumes nothing.
use mathlib.Core.Path.{◌≡◌, refl, ap}
use mathlib.Core.Bool.{Bool, true, false, ◌&&◌}
use mathlib.Core.List.{List, [], ◌∷◌}
use Prim.Native.Nat.{ℕ, ◌<◌, ◌≤◌}
use native.Mathlib.Omega.{arith}
use lib.Dec.{eqb}
use lib.ListN.{length}
use Rattle.std.specs.List.{starts_with}
use Rattle.protocol.specs.Beginning.{extends}
use Rattle.protocol_laws.proofs.Beginning.{⊏-length, extends-true}

-- a list that is not longer extends nothing
pub not-longer : (t ws : List ℕ) → length t ≤ length ws → extends t ws ≡ false
not-longer t ws h = go (extends t ws) refl
  where
    go : (b : Bool) → extends t ws ≡ b → b ≡ false
    go false e = refl
    go true e = absurd (omega (arith, ⊏-length ws t (extends-true t ws e)))

pub longer-starts : (t ws : List ℕ) → length ws < length t → starts_with eqb t ws ≡ extends t ws
unfolding extends
longer-starts [] ws h = absurd (omega arith)
longer-starts (y ∷ t) [] h = refl
longer-starts (y ∷ t) (x ∷ ws) h = ap (λ (b : Bool). eqb x y && b) (longer-starts t ws (omega arith))

pub ruleset longer = (not-longer, longer-starts)
