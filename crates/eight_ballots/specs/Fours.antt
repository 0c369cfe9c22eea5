-- The tests of a ballot as the code makes them: of its length, and of its cells, for four ballots at once. Assumes nothing.
use Rattle.std.specs.Prelude.{ℕ, ◌+◌, Bool, List, ◌++◌, eqb, leb, ltb, length, drop, replicate}
use Rattle.protocol.specs.Entry.{is_entry}
use Rattle.protocol.specs.Fair.{fair}
use Rattle.lists.specs.Tests.{both, pick, all_b}
use Rattle.entries.specs.Carries.{is_coding}
use Rattle.ballots.specs.Ballots.{tail_of}
use Rattle.ballots.specs.declared.Ballot.{Ballot}

-- a ballot of this length may stand at this place of a record of n offices: no path past 1024, and none from office n on
unfoldable pub fits_at : ℕ → ℕ → ℕ → ℕ → Bool
fits_at n held place len = pick (ltb place n) (both (leb len 32) (leb (held + len) 1024)) (eqb 0 len)

-- 32 cells that all pass a test, the unused ones too
unfoldable pub all_cells : (ℕ → Bool) → Ballot → Bool
all_cells t b = both (eqb (length b.cells) 32) (all_b t b.cells)

-- cells that are all entries, or entries that code lines
abbrev pub entry_cells : ℕ → Ballot → Bool
entry_cells n = all_cells (is_entry n)

abbrev pub coding_cells : ℕ → Ballot → Bool
coding_cells n = all_cells (is_coding n)

-- "unused cells are zero"
unfoldable pub unused_zero : Ballot → Bool
unused_zero b = all_b (eqb 0) (drop b.len b.cells)

-- what is known of a ballot before its parts are tested: at most 32 entries, and zeros behind them
unfoldable pub padded_entries : ℕ → Ballot → Bool
padded_entries n b = both (leb b.len 32) (both (entry_cells n b) (unused_zero b))

-- (v) no office has more than its part of the ballot's tail
unfoldable pub fair_tail : ℕ → Ballot → Bool
fair_tail n b = fair n (tail_of b)

-- a test of four ballots
unfoldable pub of_four : (Ballot → Bool) → Ballot → Ballot → Ballot → Ballot → Bool
of_four t a b c d = both (both (both (t a) (t b)) (t c)) (t d)

-- 32 words without bits and 32 with all
unfoldable pub mask_words : List ℕ
mask_words = replicate 32 0 ++ replicate 32 4294967295
