-- Take's work on ballots, said on tails. Where a log is longer by the words ws, a path extends it as its tail extends ws, and what it
-- has past that log is what its tail has past ws. Laws tie this to the protocol's sentences on whole paths. Assumes nothing.
use Rattle.std.specs.Prelude.{List, [], ◌∷◌, ℕ, length, drop}
use Rattle.lists.specs.Tests.{pick}
use Rattle.protocol.specs.Beginning.{extends}
use Rattle.ballots.specs.declared.Ballot.{Ballot}
use Rattle.ballots.specs.Ballots.{tail_of, ballot_of}

-- "keeps its path, its tail shortened; any other becomes none": what is left of the tail t past the words
unfoldable pub rest_past : List ℕ → List ℕ → List ℕ
rest_past ws t = pick (extends t ws) (drop (length ws) t) []

unfoldable pub past_ballot : List ℕ → Ballot → Ballot
past_ballot ws b = ballot_of (rest_past ws (tail_of b))

-- a ballot becomes the offered one where the offered tail extends its own
unfoldable pub adopted_ballot : Ballot → Ballot → Ballot
adopted_ballot b q = pick (extends (tail_of q) (tail_of b)) q b

-- each ballot and its offer, which stands beside a log that is shorter by the words
unfoldable pub adopted_all : List ℕ → List Ballot → List Ballot → List Ballot
adopted_all ws [] qs = []
adopted_all ws (b ∷ bs) [] = b ∷ bs
adopted_all ws (b ∷ bs) (q ∷ qs) = adopted_ballot b (past_ballot ws q) ∷ adopted_all ws bs qs
