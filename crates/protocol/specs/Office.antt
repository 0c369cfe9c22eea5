-- An office's state and the message that carries one. Assumes nothing.
use Rattle.std.specs.Prelude.{List, [], ◌∷◌, ◌++◌, ℕ, get_or, replicate}
use Rattle.std.specs.Prelude.{Option, None, Some}
use Rattle.protocol.specs.Vote.{Votes}

-- the settled log, and the tail of each of eight offices' ballots; an empty tail is no ballot
pub record Office : Type 0 where
  pub log : List ℕ
  pub tails : List (List ℕ)

pub record Message : Type 0 where
  pub sender : ℕ
  pub state : Office

-- "a fresh record has an empty log and no ballots"
abbrev pub fresh : Office
fresh = record { log = []; tails = replicate 8 [] }

abbrev pub tail : Office → ℕ → List ℕ
tail o j = get_or o.tails j []

-- "a ballot's path is the settled log followed by its tail"
abbrev pub path : Office → ℕ → List ℕ
path o j = o.log ++ tail o j

abbrev pub first : List ℕ → Option ℕ
first [] = None
first (x ∷ t) = Some x

-- "each non-empty ballot supports its first tail entry"
abbrev pub votes_of : List (List ℕ) → Votes
votes_of ts k = first (get_or ts k [])

abbrev pub votes : Office → Votes
votes o = votes_of o.tails
