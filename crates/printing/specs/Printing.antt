-- A number in decimal, as ASCII codes. Assumes nothing.
use Rattle.std.specs.Prelude.{◌≡◌, ℕ, zero, suc, ◌+◌, ◌/◌, ◌%◌, List, [], ◌∷◌, ◌++◌, ltb, leb, length}
use Rattle.std.proofs.lemmas.List.Edits.{sets}
use Rattle.lists.specs.Tests.{pick}

abbrev pub glyph : ℕ → ℕ
glyph digit = 48 + digit

-- the number's digits, the fewest that spell it, the most significant first; the last `places` of them where it has more
unfoldable pub decimal_in : ℕ → ℕ → List ℕ
decimal_in zero n = []
decimal_in (suc places) n = pick (ltb n 10) (glyph n ∷ []) (decimal_in places (n / 10) ++ (glyph (n % 10) ∷ []))

-- a number of 64 bits has at most 20 digits
abbrev pub decimal_of : ℕ → List ℕ
decimal_of n = decimal_in 20 n

-- what is printed of a number from place `at` on: its digits, where there is room for 20
unfoldable pub printed_at : List ℕ → ℕ → ℕ → List ℕ
printed_at out at n = pick (leb (at + 20) (length out)) (decimal_of n) []

-- what a call promises that writes these bytes from place `at` on: it answers the place behind them, and leaves every other byte as it was
pub record Puts (out : List ℕ) (at : ℕ) (bytes : List ℕ) (behind : ℕ) (out' : List ℕ) : Type 0 where
  pub end : behind ≡ at + length bytes
  pub output : out' ≡ sets out at bytes
