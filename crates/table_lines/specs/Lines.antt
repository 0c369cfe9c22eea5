-- (xiii) "A printed line has the three tails and the settled entries, single spaces between, each as its entries' office digits, or `-` if empty."
-- Bytes are ASCII codes. Assumes nothing.
use mathlib.Core.List.{List, [], ◌∷◌, ◌++◌, map, flat_map}
use Rattle.std.specs.Prelude.{Bool, ℕ, ltb, leb, length, take, replicate}
use Rattle.lists.specs.Tests.{both, all_b}
use Rattle.protocol.specs.Entry.{office_of}
use Rattle.protocol.specs.Office.{Office}
use Rattle.ballots.specs.Ballots.{ballot_of, no_ballot}
use Rattle.ballots.specs.declared.Ballot.{Ballot}
use Rattle.printing.specs.Printing.{glyph}
use Rattle.frame.specs.State.{with_ballots}
use Rattle.frame.specs.Electing.{elect_of, elect_words}
use Rattle.frame.specs.declared.Record.{Record}

-- "its entries' office digits"
abbrev pub digits : List ℕ → List ℕ
digits t = map (λ (e : ℕ). glyph (office_of e)) t

-- "or `-` if empty"
unfoldable pub shown : List ℕ → List ℕ
shown [] = 45 ∷ []
shown (e ∷ t) = digits (e ∷ t)

-- the tails, a space behind each, then the settled entries and a newline
unfoldable pub line_with : List ℕ → List (List ℕ) → List ℕ
line_with settled [] = shown settled ++ (10 ∷ [])
line_with settled (t ∷ ts) = (shown t ++ (32 ∷ [])) ++ line_with settled ts

-- the words of a log before its first entry
abbrev pub empty_log : List ℕ
empty_log = replicate 1024 0

-- the record with these ballots of the first three offices, and no others
abbrev pub with_table : Record → List Ballot → Record
with_table r bs = with_ballots r (bs ++ replicate 5 no_ballot)

-- "the entries that elect settles from an empty log": as many as it answers, at the log's front
abbrev pub settled_from : Record → List ℕ
settled_from r = take (elect_of r empty_log).count (elect_words r empty_log)

-- the same of a founded record with a table of tails
abbrev pub table_settled : Record → List (List ℕ) → List ℕ
table_settled r t = settled_from (with_table r (map ballot_of t))

-- the state of the office that elects: an empty log, and no ballots but the three
abbrev pub table_office : List (List ℕ) → Office
table_office t = record { log = []; tails = t ++ replicate 5 [] }

-- the line of a table
unfoldable pub line_of : Record → List (List ℕ) → List ℕ
line_of r t = line_with (table_settled r t) t

-- "one table to a line"
unfoldable pub lines_of : Record → List (List (List ℕ)) → List ℕ
lines_of r ts = flat_map (line_of r) ts

-- at most six entries, each of an office of one digit: more than any tail or any election of a table has
unfoldable pub few : List ℕ → Bool
few t = both (leb (length t) 6) (all_b (λ (e : ℕ). ltb (office_of e) 10) t)
