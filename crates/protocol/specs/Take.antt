-- What an office makes of an accepted message. Assumes nothing.
use Rattle.std.specs.Prelude.{List, [], ◌∷◌, ◌++◌, map, cond, ℕ, eqb, length, set, drop}
use Rattle.protocol.specs.Beginning.{comparable, extends}
use Rattle.protocol.specs.Office.{Office, Message, tail}

-- step 1: "every ballot whose path extends the new log keeps its path, its tail shortened; any other becomes none"
abbrev pub rebased : List ℕ → List ℕ → List ℕ → List ℕ
rebased old new t = cond (extends (old ++ t) new) (drop (length new) (old ++ t)) []

unfoldable pub rebase : List ℕ → Office → Office
rebase new o = record { log = new; tails = map (rebased o.log new) o.tails }

-- "if the message's log extends the settled log ..; otherwise the log is unchanged"
unfoldable pub catch_up : List ℕ → Office → Office
catch_up new o = cond (extends new o.log) (rebase new o) o

-- steps 2 and 3: a ballot t beside the log l becomes the offered path q where q extends its own path. With no ballot the own path is l.
abbrev pub adopt : List ℕ → List ℕ → List ℕ → List ℕ
adopt l t q = cond (extends q (l ++ t)) (drop (length l) q) t

-- each ballot and its offer, whose path is the message's log m followed by the offered tail
abbrev pub adopts : List ℕ → List (List ℕ) → List ℕ → List (List ℕ) → List (List ℕ)
adopts l [] m qs = []
adopts l (t ∷ ts) m [] = t ∷ ts
adopts l (t ∷ ts) m (q ∷ qs) = adopt l t (m ++ q) ∷ adopts l ts m qs

-- what a message offers to office k: each office's ballot, and for its own the sender's ("the message's ballot for the receiver itself is not used")
abbrev pub offers : ℕ → Message → List (List ℕ)
offers k m = set m.state.tails k (tail m.state m.sender)

abbrev pub adopting : List ℕ → List (List ℕ) → Office → Office
adopting l qs o = record { log = o.log; tails = adopts o.log o.tails l qs }

-- office k's state after it took the message
unfoldable pub with_take : ℕ → Message → Office → Office
with_take k m o = adopting m.state.log (offers k m) (catch_up m.state.log o)

-- 9: "sender is the receiver's own office"; 10: "neither settled log is a beginning of the other"
unfoldable pub refuse_take : ℕ → Message → Office → ℕ
refuse_take k m o =
    cond (eqb m.sender k) 9
    (cond (comparable o.log m.state.log) 0 10)
