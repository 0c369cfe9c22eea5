-- Bytes copied to a position: those of the definitions. Assumes nothing.
use Prim.Native.Nat.{ℕ, ◌+◌, ◌-◌, ◌≤◌, ◌/◌, ◌%◌}
use mathlib.Core.List.{List, append_assoc}
use mathlib.Core.Path.{◌≡◌, refl, sym, ◌∙◌}
use native.Mathlib.Omega.{arith}
use lib.ListN.{length}
use lib.Seq.{sets, sets-eq, drop-drop}
use borrow.Rule.Slice.PartMut.{put_mid}
use Rattle.std.specs.Int.{w16, w32, w64, to_be_bytes}
use Rattle.numbers.specs.Numbers.{bytes16, bytes32, bytes64}

-- what is copied over the w cells from a position on is stored there
pub stored : (l vs m : List ℕ) (at w : ℕ) → m ≡ vs → length vs ≡ w → at + w ≤ length l → put_mid at (at + w - at) l m ≡ sets l at vs
stored l vs m at w e n h =
    let q : at + w - at ≡ w = omega arith in
    rw (q, drop-drop, e) (sym (sets-eq vs l at (omega arith) ∙ rw (n, append_assoc)))

pub two : (v : ℕ) → to_be_bytes w16 v ≡ bytes16 v
unfolding bytes16
two v = refl

pub four : (v : ℕ) → to_be_bytes w32 v ≡ bytes32 v
unfolding bytes32
four v = refl

pub eight : (v : ℕ) → to_be_bytes w64 v ≡ bytes64 v
unfolding bytes64 bytes32
eight v =
    let a : v / 72057594037927936 % 256 ≡ v / 4294967296 / 16777216 % 256 = omega arith in
    let b : v / 281474976710656 % 256 ≡ v / 4294967296 / 65536 % 256 = omega arith in
    let c : v / 1099511627776 % 256 ≡ v / 4294967296 / 256 % 256 = omega arith in
    let e : v / 16777216 % 256 ≡ v % 4294967296 / 16777216 % 256 = omega arith in
    let f : v / 65536 % 256 ≡ v % 4294967296 / 65536 % 256 = omega arith in
    let g : v / 256 % 256 ≡ v % 4294967296 / 256 % 256 = omega arith in
    let h : v % 256 ≡ v % 4294967296 % 256 = omega arith in
    cc
