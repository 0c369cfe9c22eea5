-- "Two-byte marks stand before each record of it": a message's bytes. Assumes nothing.
use Rattle.std.specs.Prelude.{ℕ, suc, ◌+◌, ◌*◌, List, [], ◌∷◌, ◌++◌, length}
use Rattle.spelling.specs.Content.{Content}
use Rattle.numbers.specs.Numbers.{bytes16, bytes32, bytes64, run}

-- "Head: 0x53 0x48, sender (1 byte), n (1), n weights (2 each), settled length"; "the head gains the dropped count after the settled length, both
-- become 8 bytes"
unfoldable pub head_bytes : ℕ → ℕ → List ℕ → ℕ → ℕ → List ℕ
head_bytes sender n weights settled dropped = 0x53 ∷ 0x48 ∷ sender ∷ n ∷ (run bytes16 weights ++ (bytes64 settled ++ bytes64 dropped))

-- where the settled length and the dropped count stand in the head of n offices, and how many bytes the head takes
abbrev pub length_place : ℕ → ℕ
length_place n = 4 + 2 * n

abbrev pub dropped_place : ℕ → ℕ
dropped_place n = 12 + 2 * n

abbrev pub head_size : ℕ → ℕ
head_size n = 20 + 2 * n

-- "Per settled entry, in order: 0x4C 0x47, value (4)"; "only undropped entries follow"
unfoldable pub log_record : ℕ → List ℕ
log_record v = 0x4C ∷ 0x47 ∷ bytes32 v

-- "Per non-empty ballot, offices rising: 0x42 0x41, office (1), tail length 1 to 32 (1), values (4 each)"
unfoldable pub ballot_bytes : ℕ → List ℕ → List ℕ
ballot_bytes o [] = []
ballot_bytes o (v ∷ vs) = 0x42 ∷ 0x41 ∷ o ∷ length (v ∷ vs) ∷ run bytes32 (v ∷ vs)

-- the ballots from office o on
unfoldable pub ballots_bytes : ℕ → List (List ℕ) → List ℕ
ballots_bytes o [] = []
ballots_bytes o (t ∷ ts) = ballot_bytes o t ++ ballots_bytes (suc o) ts

-- "End: 0x45 0x4E, then nothing"
unfoldable pub end_bytes : List ℕ
end_bytes = 0x45 ∷ 0x4E ∷ []

-- the settled length says the dropped entries too
unfoldable pub spelling : Content → List ℕ
spelling c =
    head_bytes c.sender c.n c.weights (c.dropped + length c.log) c.dropped
    ++ (run log_record c.log ++ (ballots_bytes 0 c.tails ++ end_bytes))
