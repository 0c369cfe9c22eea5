-- The item of a vector: a count of eight bytes. Assumes nothing.
use Prim.Native.Nat.{ℕ}
use mathlib.Core.Bool.{Bool}
use mathlib.Core.List.{◌++◌}
use mathlib.Core.Path.{refl}
use native.Mathlib.Omega.{arith}
use lib.Dec.{ltb}
use lib.ListN.{length}
use borrow.Author.Tests.{ltb-true, leb-true, lt-ltb, le-leb}
use Rattle.numbers.specs.Numbers.{be64, bytes32, bytes64}
use Rattle.numbers.proofs.Numbers.{be64-bytes64, be64-back, be64-below}
use Rattle.numbers.proofs.Runs.{Item}
use Rattle.spelling.proofs.Items.{room_for}

-- a number of 64 bits
unfoldable pub is_count : ℕ → Bool
is_count c = ltb c 18446744073709551616

pub count_item : Item 8 bytes64 be64 (room_for 8) is_count
unfolding bytes64 bytes32 room_for is_count
count_item =
    record {
      wide = λ v. refl;
      said = λ v r h. be64-bytes64 v r (ltb-true v 18446744073709551616 h);
      here = λ v r h. le-leb 8 (length (bytes64 v ++ r)) (omega arith);
      back = λ s b h. be64-back s b (leb-true 8 (length s) h);
      fine = λ s b h. lt-ltb (be64 s) 18446744073709551616 (be64-below s b);
    }
