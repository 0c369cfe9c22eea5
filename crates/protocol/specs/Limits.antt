-- The limits of a record's numbers and of the state that it holds; a message keeps the same. Assumes nothing.
use Rattle.std.specs.Prelude.{◌≡◌, List, [], ◌∷◌, Bool, true, false, ℕ, ◌+◌, ◌<◌, ◌≤◌, ltb, leb, eqb, length, drop}
use Rattle.lists.specs.Tests.{both, pick, all_b}
use Rattle.protocol.specs.Entry.{is_entry}
use Rattle.protocol.specs.Office.{Office}
use Rattle.protocol.specs.Fair.{fair}

-- "n (1 to 8 offices), its own office (below n)"; a message's sender is one of its n offices too
unfoldable pub is_office : ℕ → ℕ → Bool
is_office n k = both (leb 1 n) (both (leb n 8) (ltb k n))

-- "weights (0 to 65535"
unfoldable pub is_weight : ℕ → Bool
is_weight w = ltb w 65536

-- "sum, the total"
unfoldable pub total : List ℕ → ℕ
total [] = 0
total (w ∷ ws) = w + total ws

-- "eight weights (0 to 65535; zero from place n on; sum, the total, at least 1)"
unfoldable pub weights_fine : ℕ → List ℕ → Bool
weights_fine n ws = both (eqb (length ws) 8) (both (all_b is_weight ws) (both (all_b (eqb 0) (drop n ws)) (leb 1 (total ws))))

-- the numbers that founding is given
unfoldable pub head_fine : ℕ → ℕ → List ℕ → Bool
head_fine n own ws = both (is_office n own) (weights_fine n ws)

-- "The log is a lent buffer of at least 1024 words"
unfoldable pub long_enough : List ℕ → Bool
long_enough words = leb 1024 (length words)

-- the number of a founding. 1: "log below 1024 words"; 2: "n, own office or weights outside the limits"
unfoldable pub found_number : ℕ → ℕ → List ℕ → List ℕ → ℕ
found_number n own ws words = pick (long_enough words) (pick (head_fine n own ws) 0 2) 1

-- the same limits as facts by name
pub record Head (n own : ℕ) (ws : List ℕ) : Type 0 where
  pub eight : length ws ≡ 8
  pub weights : all_b is_weight ws ≡ true
  pub some : 1 ≤ n
  pub most : n ≤ 8
  pub member : own < n
  pub rest : all_b (eqb 0) (drop n ws) ≡ true
  pub total-some : 1 ≤ total ws

-- no ballot: "length 0 means none"
unfoldable pub is_empty : List ℕ → Bool
is_empty [] = true
is_empty (x ∷ t) = false

-- "a settled length (0 to 1024)", and each settled word is an entry
unfoldable pub log_fine : ℕ → List ℕ → Bool
log_fine n log = both (leb (length log) 1024) (all_b (is_entry n) log)

-- "a tail of 0 to 32 entries"; "settled length plus each tail length is at most 1024"; (v) to each office at most its part of it
unfoldable pub tail_fine : ℕ → ℕ → List ℕ → Bool
tail_fine n settled t = both (leb (length t) 32) (both (leb (settled + length t) 1024) (both (all_b (is_entry n) t) (fair n t)))

-- eight ballots, each tail within its limits, "ballots from office n on are none"
unfoldable pub tails_fine : ℕ → ℕ → List (List ℕ) → Bool
tails_fine n settled ts = both (eqb (length ts) 8) (both (all_b (tail_fine n settled) ts) (all_b is_empty (drop n ts)))

-- the log and the tails of an office's state within their limits
unfoldable pub office_fine : ℕ → Office → Bool
office_fine n o = both (log_fine n o.log) (tails_fine n (length o.log) o.tails)

-- (xiv) "Dropped entries included, length plus tail is at most 2^63"
unfoldable pub length_limit : ℕ
length_limit = 9223372036854775808

-- of a settled length, dropped entries included, and the tails behind it
unfoldable pub lengths_fine : ℕ → List (List ℕ) → Bool
lengths_fine settled ts = both (leb settled length_limit) (all_b (λ (t : List ℕ). leb (settled + length t) length_limit) ts)

-- the state of an office, or of a message, that has dropped so many entries: "the 1024 limit then covers what is undropped"
unfoldable pub folded_fine : ℕ → ℕ → Office → Bool
folded_fine n dropped o = both (office_fine n o) (lengths_fine (dropped + length o.log) o.tails)
