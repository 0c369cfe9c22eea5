-- Laws of tests, of numbers in bytes, and of runs of stores, for the laws of the message and the proofs of the functions. Assumes nothing.
use Prim.Native.Nat.{ℕ, suc, ◌+◌, ◌*◌, ◌/◌, ◌%◌, ◌<◌, ◌-◌, ◌≤◌, zero}
use mathlib.Core.List.{List, [], ◌∷◌, ◌++◌, append_assoc}
use mathlib.Core.Path.{◌≡◌, sym, ap, ◌∙◌, refl}
use native.Mathlib.Nat.{div-div-eq-div-mul, mod-eq_of_lt, sub-zero, zero-add}
use native.Mathlib.Omega.{arith}
use lib.ListN.{length, drop, length-drop, length-replicate, replicate}
use lib.Seq.{sets, sets-eq, drop-drop}
use Rattle.numbers.specs.Numbers.{Bytes, bytes16, bytes32, bytes64, be16, be32, be64}
use Rattle.numbers.proofs.Runs.{bytes_drop}

-- ---- numbers in bytes

pub be16-bytes16 : (v : ℕ) (rest : List ℕ) → v < 65536 → be16 (bytes16 v ++ rest) ≡ v
unfolding be16 bytes16
be16-bytes16 v rest h = omega arith

pub be32-bytes32 : (v : ℕ) (rest : List ℕ) → v < 4294967296 → be32 (bytes32 v ++ rest) ≡ v
unfolding be32 bytes32
be32-bytes32 v rest h =
    let a : v / 65536 ≡ v / 256 / 256 = sym (div-div-eq-div-mul v 256 256) in
    let b : v / 16777216 ≡ v / 256 / 256 / 256 = sym (ap (λ (x : ℕ). x / 256) (div-div-eq-div-mul v 256 256) ∙ div-div-eq-div-mul v 65536 256) in
    let c : v / 16777216 % 256 ≡ v / 16777216 = mod-eq_of_lt (omega arith) in
    rw (c, a, b) (nested v)
  where
    nested : (x : ℕ) → x / 256 / 256 / 256 * 16777216 + (x / 256 / 256 % 256 * 65536 + (x / 256 % 256 * 256 + x % 256)) ≡ x
    nested x = omega arith

-- the bytes of the number that two bytes spell, and four
bytes16-be16 : (a b : ℕ) (r : List ℕ) → a < 256 → b < 256 → bytes16 (be16 (a ∷ b ∷ r)) ≡ a ∷ b ∷ []
unfolding be16 bytes16
bytes16-be16 a b r ha hb =
    let e0 : (a * 256 + b) / 256 % 256 ≡ a = omega arith in
    let e1 : (a * 256 + b) % 256 ≡ b = omega arith in
    simp (e0, e1)

pub bytes32-be32 : (a b c d : ℕ) (r : List ℕ) → a < 256 → b < 256 → c < 256 → d < 256 → bytes32 (be32 (a ∷ b ∷ c ∷ d ∷ r)) ≡ a ∷ b ∷ c ∷ d ∷ []
unfolding be32 bytes32
bytes32-be32 a b c d r ha hb hc hd =
    let v : ℕ = a * 16777216 + (b * 65536 + (c * 256 + d)) in
    let e0 : v / 16777216 % 256 ≡ a = omega arith in
    let e1 : v / 65536 % 256 ≡ b = omega arith in
    let e2 : v / 256 % 256 ≡ c = omega arith in
    let e3 : v % 256 ≡ d = omega arith in
    cc

-- eight bytes are twice four
pub be64-bytes64 : (v : ℕ) (rest : List ℕ) → v < 18446744073709551616 → be64 (bytes64 v ++ rest) ≡ v
unfolding be64 bytes64 bytes32
be64-bytes64 v rest h =
    let hi : ℕ = v / 4294967296 in
    let lo : ℕ = v % 4294967296 in
    let a : be32 (bytes32 hi ++ (bytes32 lo ++ rest)) ≡ hi = be32-bytes32 hi (bytes32 lo ++ rest) (omega arith) in
    let b : be32 (bytes32 lo ++ rest) ≡ lo = be32-bytes32 lo rest (omega arith) in
    rw (a, b) (omega arith)

-- ---- the bytes of the number that bytes spell, with what stands behind them

pub be16-back : (s : List ℕ) → Bytes s → 2 ≤ length s → bytes16 (be16 s) ++ drop 2 s ≡ s
be16-back [] b h = absurd (omega arith)
be16-back (x ∷ []) b h = absurd (omega arith)
be16-back (x ∷ y ∷ r) b h = rw (bytes16-be16 x y r (b 0) (b 1))

pub be16-below : (s : List ℕ) → Bytes s → be16 s < 65536
unfolding be16
be16-below s b = omega (arith, b 0, b 1)

pub be32-back : (s : List ℕ) → Bytes s → 4 ≤ length s → bytes32 (be32 s) ++ drop 4 s ≡ s
be32-back [] b h = absurd (omega arith)
be32-back (x ∷ []) b h = absurd (omega arith)
be32-back (x ∷ y ∷ []) b h = absurd (omega arith)
be32-back (x ∷ y ∷ z ∷ []) b h = absurd (omega arith)
be32-back (x ∷ y ∷ z ∷ u ∷ r) b h = rw (bytes32-be32 x y z u r (b 0) (b 1) (b 2) (b 3))

pub be32-below : (s : List ℕ) → Bytes s → be32 s < 4294967296
unfolding be32
be32-below s b = omega (arith, b 0, b 1, b 2, b 3)

pub be64-back : (s : List ℕ) → Bytes s → 8 ≤ length s → bytes64 (be64 s) ++ drop 8 s ≡ s
unfolding be64 bytes64
be64-back s b h =
    let hi : ℕ = be32 s in
    let lo : ℕ = be32 (drop 4 s) in
    let few : lo < 4294967296 = be32-below (drop 4 s) (bytes_drop 4 s b) in
    let upper : (hi * 4294967296 + lo) / 4294967296 ≡ hi = omega arith in
    let lower : (hi * 4294967296 + lo) % 4294967296 ≡ lo = omega arith in
    let room : 4 ≤ length (drop 4 s) = rw length-drop (omega arith) in
    rw (upper, lower, append_assoc, ← drop-drop 4 4 s, be32-back (drop 4 s) (bytes_drop 4 s b) room) (be32-back s b (omega arith))

pub be64-below : (s : List ℕ) → Bytes s → be64 s < 18446744073709551616
unfolding be64
be64-below s b = omega (arith, be32-below s b, be32-below (drop 4 s) (bytes_drop 4 s b))

-- ---- a run of stores

-- cells that are all alike, the first of them stored
pub drop-alike : {A : Type 0} (m k : ℕ) (x : A) → drop k (replicate m x) ≡ replicate (m - k) x
drop-alike zero zero x = refl
drop-alike (suc m) zero x = rw sub-zero
drop-alike zero (suc k) x = let e : zero - suc k ≡ zero = omega arith in rw e
drop-alike (suc m) (suc k) x = let e : suc m - suc k ≡ m - k = omega arith in rw e (drop-alike m k x)

pub sets-alike : {A : Type 0} (m : ℕ) (x : A) (vs : List A) → length vs ≤ m → sets (replicate m x) 0 vs ≡ vs ++ replicate (m - length vs) x
sets-alike m x vs h = sets-eq vs (replicate m x) 0 (rw (zero-add, length-replicate) h) ∙ rw (zero-add, drop-alike)
