-- The codes in cells.
--     codes-made      the walk over 256 cells, of which the first 64 are the codes
-- Assumes nothing.
use mathlib.Core.Path.{◌≡◌, refl, sym, ap, ◌∙◌}
use mathlib.Core.Bool.{Bool, true, false}
use mathlib.Core.List.{List, [], ◌∷◌, ◌++◌, foldl}
use Prim.Native.Nat.{ℕ, suc, ◌≤◌}
use native.Mathlib.Omega.{arith}
use lib.Dec.{ltb}
use lib.ListN.{length, take, set, replicate, length-set, length-append, length-replicate}
use lib.Seq.{take_at, set_out, take-set-lt, take-set-le, length-take-le}
use borrow.Author.Tests.{ltb-true, ltb-false}
use Rattle.protocol.specs.Entry.{line_of, code_of}
use Rattle.protocol.specs.Codes.{coded, codes_after}

front-set : (k : ℕ) (l : List ℕ) (i a : ℕ) → k ≤ length l → take k (set l i a) ≡ set (take k l) i a
front-set k l i a h = go (ltb i k) refl
  where
    go : (t : Bool) → ltb i k ≡ t → take k (set l i a) ≡ set (take k l) i a
    go true e = take-set-lt k l i a (ltb-true i k e)
    go false e = let far = ltb-false i k e in take-set-le k l i a far ∙ sym (set_out (take k l) i a (omega (arith, length-take-le k l h)))

-- the front of the cells depends on the front alone
codes-front : (k : ℕ) (l log : List ℕ) → k ≤ length l → take k (foldl coded l log) ≡ foldl coded (take k l) log
codes-front k l [] h = refl
codes-front k l (v ∷ log) h =
    codes-front k (coded l v) log (rw (length-set l (line_of v) (suc (code_of v))) h) ∙ ap (λ (s : List ℕ). foldl coded s log) (front-set k l (line_of v) (suc (code_of v)) h)

pub codes-made : (codes start made log : List ℕ) → length codes ≡ 64 → start ≡ codes ++ replicate 192 0 → made ≡ foldl coded start log → take 64 made ≡ codes_after codes log
unfolding codes_after
codes-made codes start made log h es em =
    let front : take 64 start ≡ codes = ap (take 64) es ∙ take_at codes (replicate 192 0) 64 h in
    let long : 64 ≤ length start = omega (arith, simp (length-append, length-replicate) at (ap length es)) in
    ap (take 64) em ∙ codes-front 64 start log long ∙ ap (λ (s : List ℕ). foldl coded s log) front
