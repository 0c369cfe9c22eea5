-- What a reading says to the caller of `read`. Assumes nothing.
use Prim.Native.Nat.{ℕ, ◌-◌}
use mathlib.Core.List.{List}
use mathlib.Core.Path.{◌≡◌}
use native.Mathlib.Omega.{arith}
use lib.ListN.{drop, length, length-drop, take}
use lib.Seq.{take_all}

-- the rest of the message, which the caller hands on
pub rest-of-message : (s : List ℕ) (h : ℕ) → take (length s - h) (drop h s) ≡ drop h s
rest-of-message s h = take_all (length s - h) (drop h s) (omega (arith, length-drop h s))
