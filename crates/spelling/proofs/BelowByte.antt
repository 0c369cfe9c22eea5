-- A valid content is spelled in bytes: each element of the spelling is below 256. Assumes nothing.
use Prim.Native.Nat.{ℕ, ◌%◌, ◌+◌, ◌/◌, ◌<◌, ◌≤◌, suc}
use mathlib.Core.Bool.{Bool, true}
use mathlib.Core.List.{List, [], ◌∷◌}
use mathlib.Core.Path.{◌≡◌, refl}
use native.Mathlib.Omega.{arith}
use lib.Dec.{ltb}
use lib.ListN.{get_or, length}
use borrow.Author.Tests.{lt-ltb, ltb-true}
use Rattle.protocol.specs.Limits.{tail_fine}
use Rattle.protocol_laws.proofs.Limits.{fine-tail}
use Rattle.lists.specs.Tests.{all_b}
use Rattle.lists.proofs.Tests.{all_append, all-at, all_drop, all_get_d, both_true}
use Rattle.spelling.specs.Content.{Content, valid_content}
use Rattle.numbers.specs.Numbers.{Bytes, bytes16, bytes32, bytes64, run}
use Rattle.spelling.specs.Spelling.{ballot_bytes, ballots_bytes, end_bytes, head_bytes, log_record, spelling}
use Rattle.spelling.proofs.Valid.{Valid, valid-facts, tails-fine}

-- a byte, as a test
unfoldable pub is_byte : ℕ → Bool
is_byte x = ltb x 256

-- a list whose elements pass the test is one of bytes
pub all-bytes : (s : List ℕ) → all_b is_byte s ≡ true → Bytes s
unfolding is_byte
all-bytes s e i = ltb-true (get_or s i 0) 256 (all_get_d is_byte 0 s i e refl)

byte : (x : ℕ) (s : List ℕ) → x < 256 → all_b is_byte s ≡ true → all_b is_byte (x ∷ s) ≡ true
unfolding is_byte all_b
byte x s h e = both_true (ltb x 256) (all_b is_byte s) (lt-ltb x 256 h) e

low : (v : ℕ) (s : List ℕ) → all_b is_byte s ≡ true → all_b is_byte (v % 256 ∷ s) ≡ true
low v s e = byte (v % 256) s (omega arith) e

nothing : all_b is_byte [] ≡ true
unfolding all_b
nothing = refl

all-run : (f : ℕ → List ℕ) → ((v : ℕ) → all_b is_byte (f v) ≡ true) → (vs : List ℕ) → all_b is_byte (run f vs) ≡ true
unfolding run
all-run f h [] = nothing
all-run f h (v ∷ vs) = all_append is_byte (f v) (run f vs) (h v) (all-run f h vs)

all-16 : (v : ℕ) → all_b is_byte (bytes16 v) ≡ true
unfolding bytes16
all-16 v = low (v / 256) _ (low v _ nothing)

all-32 : (v : ℕ) → all_b is_byte (bytes32 v) ≡ true
unfolding bytes32
all-32 v = low (v / 16777216) _ (low (v / 65536) _ (low (v / 256) _ (low v _ nothing)))

all-64 : (v : ℕ) → all_b is_byte (bytes64 v) ≡ true
unfolding bytes64
all-64 v = all_append is_byte (bytes32 (v / 4294967296)) (bytes32 (v % 4294967296)) (all-32 (v / 4294967296)) (all-32 (v % 4294967296))

all-record : (v : ℕ) → all_b is_byte (log_record v) ≡ true
unfolding log_record
all-record v = byte 0x4C _ (omega arith) (byte 0x47 _ (omega arith) (all-32 v))

all-ballot : (o : ℕ) (t : List ℕ) → o < 256 → length t < 256 → all_b is_byte (ballot_bytes o t) ≡ true
unfolding ballot_bytes
all-ballot o [] h l = nothing
all-ballot o (v ∷ vs) h l = byte 0x42 _ (omega arith) (byte 0x41 _ (omega arith) (byte o _ h (byte (length (v ∷ vs)) _ l (all-run bytes32 all-32 (v ∷ vs)))))

all-ballots : (n k o : ℕ) (ts : List (List ℕ)) → o + length ts ≤ 8 → all_b (tail_fine n k) ts ≡ true → all_b is_byte (ballots_bytes o ts) ≡ true
unfolding ballots_bytes
all-ballots n k o [] h e = nothing
all-ballots n k o (t ∷ ts) h e =
    all_append is_byte (ballot_bytes o t) (ballots_bytes (suc o) ts) (all-ballot o t (omega arith) (omega (arith, fine-tail n k t (all-at (tail_fine n k) [] (t ∷ ts) 0 e (omega arith)))))
    (all-ballots n k (suc o) ts (omega arith) (all_drop (tail_fine n k) 1 (t ∷ ts) e))

all_end : all_b is_byte end_bytes ≡ true
unfolding end_bytes
all_end = byte 0x45 _ (omega arith) (byte 0x4E _ (omega arith) nothing)

all_head : (c : Content) → Valid c → all_b is_byte (head_bytes c.sender c.n c.weights (c.dropped + length c.log) c.dropped) ≡ true
unfolding head_bytes
all_head c v =
    byte 0x53 _ (omega arith)
    (byte 0x48 _ (omega arith)
    (byte c.sender _ (omega (arith, v.sender-below, v.few-offices))
    (byte c.n _ (omega (arith, v.few-offices))
    (all_append is_byte (run bytes16 c.weights) _ (all-run bytes16 all-16 c.weights)
    (all_append is_byte (bytes64 (c.dropped + length c.log)) (bytes64 c.dropped) (all-64 (c.dropped + length c.log)) (all-64 c.dropped))))))

pub spelling-bytes : (c : Content) → valid_content c ≡ true → Bytes (spelling c)
unfolding spelling
spelling-bytes c e =
    let v = valid-facts c e in
    all-bytes (spelling c)
    (all_append is_byte (head_bytes c.sender c.n c.weights (c.dropped + length c.log) c.dropped) _ (all_head c v)
    (all_append is_byte (run log_record c.log) _ (all-run log_record all-record c.log)
    (all_append is_byte (ballots_bytes 0 c.tails) end_bytes (all-ballots c.n (length c.log) 0 c.tails (omega (arith, v.tails-length, v.few-offices)) (tails-fine c v)) all_end)))
