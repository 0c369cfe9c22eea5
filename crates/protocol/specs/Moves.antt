-- Request (i): what moves of weight do when they are settled. Weights follow from a start and the entries of a log. Assumes nothing.
use mathlib.Core.List.{List, foldl}
use Rattle.std.specs.Prelude.{Bool, not, ℕ, ◌+◌, ◌-◌, eqb, leb, ltb, length, get_or, set}
use Rattle.lists.specs.Tests.{both, pick}
use Rattle.protocol.specs.Entry.{office_of, line_of, code_of}
use Rattle.protocol.specs.Limits.{is_weight}

-- an entry that is no code of a line
unfoldable pub is_move : ℕ → Bool
is_move e = leb 64 (line_of e)

-- the office that a move gives to
abbrev pub target_of : ℕ → ℕ
target_of e = line_of e - 64

abbrev pub weight_of : List ℕ → ℕ → ℕ
weight_of ws k = get_or ws k 0

-- weight x goes from office i to office j
abbrev pub shift : List ℕ → ℕ → ℕ → ℕ → List ℕ
shift ws i j x = set (set ws i (weight_of ws i - x)) j (weight_of ws j + x)

-- "only if the issuer then has that much and j stays at or below 65535; else, or when j is the issuer, it changes nothing"
unfoldable pub can_shift : List ℕ → ℕ → ℕ → ℕ → Bool
can_shift ws i j x = both (ltb j (length ws)) (both (not (eqb i j)) (both (leb x (weight_of ws i)) (is_weight (weight_of ws j + x))))

-- what entry e does to the weights when it is settled
unfoldable pub move : List ℕ → ℕ → List ℕ
move ws e = pick (both (is_move e) (can_shift ws (office_of e) (target_of e) (code_of e))) (shift ws (office_of e) (target_of e) (code_of e)) ws

-- the present weights: from the weights ws, after the entries of a log
unfoldable pub weights_after : List ℕ → List ℕ → List ℕ
weights_after ws log = foldl move ws log
