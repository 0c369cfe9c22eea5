-- Numbers in bytes: "fields are most significant byte first"; and runs of items of one width. A list of ℕ stands for bytes. Assumes nothing.
use Rattle.std.specs.Prelude.{ℕ, zero, suc, ◌+◌, ◌*◌, ◌/◌, ◌%◌, ◌<◌, Bool, true, List, [], ◌∷◌, ◌++◌, ◌≡◌, refl, length, get_or, drop}
use Rattle.lists.specs.Tests.{both}

-- each element is a byte
abbrev pub Bytes : List ℕ → Type 0
Bytes s = (i : ℕ) → get_or s i 0 < 256

-- a number as two bytes, as four, and as eight: the four of its upper half, then those of its lower
unfoldable pub bytes16 : ℕ → List ℕ
bytes16 v = v / 256 % 256 ∷ v % 256 ∷ []

unfoldable pub bytes32 : ℕ → List ℕ
bytes32 v = v / 16777216 % 256 ∷ v / 65536 % 256 ∷ v / 256 % 256 ∷ v % 256 ∷ []

unfoldable pub bytes64 : ℕ → List ℕ
bytes64 v = bytes32 (v / 4294967296) ++ bytes32 (v % 4294967296)

pub bytes16-length : (v : ℕ) → length (bytes16 v) ≡ 2
unfolding bytes16
bytes16-length v = refl

pub bytes32-length : (v : ℕ) → length (bytes32 v) ≡ 4
unfolding bytes32
bytes32-length v = refl

pub bytes64-length : (v : ℕ) → length (bytes64 v) ≡ 8
unfolding bytes64 bytes32
bytes64-length v = refl

-- the number that the first two bytes spell, the first four, and the first eight
unfoldable pub be16 : List ℕ → ℕ
be16 s = get_or s 0 0 * 256 + get_or s 1 0

unfoldable pub be32 : List ℕ → ℕ
be32 s = get_or s 0 0 * 16777216 + (get_or s 1 0 * 65536 + (get_or s 2 0 * 256 + get_or s 3 0))

unfoldable pub be64 : List ℕ → ℕ
be64 s = be32 s * 4294967296 + be32 (drop 4 s)

-- the items' bytes, one after the other
unfoldable pub run : {A : Type 0} → (A → List ℕ) → List A → List ℕ
run f [] = []
run f (v ∷ vs) = f v ++ run f vs

-- what k items of w bytes say, each read by g
unfoldable pub run_at : {A : Type 0} → ℕ → (List ℕ → A) → ℕ → List ℕ → List A
run_at w g zero s = []
run_at w g (suc k) s = g s ∷ run_at w g k (drop w s)

-- whether k items of w bytes stand there, each tested by p
unfoldable pub run_ok : ℕ → (List ℕ → Bool) → ℕ → List ℕ → Bool
run_ok w p zero s = true
run_ok w p (suc k) s = both (p s) (run_ok w p k (drop w s))
