-- "The digest of a list of numbers starts at 0 and takes each number x in turn", and the record's numbers in their order. Assumes nothing.
use Rattle.std.specs.Prelude.{ℕ, ◌+◌, ◌*◌, ◌%◌}
use mathlib.Core.List.{List, [], ◌∷◌, ◌++◌, foldl}
use Rattle.ballots.specs.declared.Ballot.{Ballot}
use Rattle.kept.specs.declared.Kept.{Kept}
use Rattle.frame.specs.declared.Record.{Record}

-- "h := (h * 1000003 + x mod 4294967291 + 1) mod 4294967291"
unfoldable pub digest_with : ℕ → ℕ → ℕ
digest_with h x = (h * 1000003 + x % 4294967291 + 1) % 4294967291

-- the digest h with each of these numbers in turn
abbrev pub digest_from : ℕ → List ℕ → ℕ
digest_from h xs = foldl digest_with h xs

-- "its length field, then all its 32 cells"
abbrev pub ballot_numbers : Ballot → List ℕ
ballot_numbers b = b.len ∷ b.cells

-- the numbers of each of these, behind each other; a number is its own
unfoldable pub all_numbers : {A : Type 0} → (A → List ℕ) → List A → List ℕ
all_numbers f [] = []
all_numbers f (x ∷ xs) = f x ++ all_numbers f xs

abbrev pub one : ℕ → List ℕ
one x = x ∷ []

abbrev pub ballots_numbers : List Ballot → List ℕ
ballots_numbers bs = all_numbers ballot_numbers bs

-- "dropped, q0 … q7, the 64 kept codes, the eight kept counts"
abbrev pub kept_numbers : Kept → List ℕ
kept_numbers k = k.dropped ∷ (k.summary.present ++ (k.summary.codes ++ k.counts))

-- "n, own, w0 … w7, p0 … p7, settled, the 64 stored codes;" what is kept, "the eight noted lengths;" and "for each ballot" its numbers
abbrev pub numbers_of : Record → List ℕ
numbers_of r =
    r.n ∷ (r.own ∷ (r.weights ++ (r.summary.present ++ (r.settled ∷ (r.summary.codes ++
    (kept_numbers r.kept ++ (r.noted ++ ballots_numbers r.ballots)))))))
