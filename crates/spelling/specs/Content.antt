-- What a message says, whatever its spelling. Assumes nothing.
use Rattle.std.specs.Prelude.{ℕ, ◌-◌, Bool, List, [], ◌++◌, eqb, length, replicate}
use Rattle.protocol.specs.Limits.{is_office, is_weight, folded_fine}
use Rattle.protocol.specs.Folding.{Packet}
use Rattle.lists.specs.Tests.{both, all_b}

-- the sender, n, the n weights, how many entries of its log the sender has dropped, the undropped ones, and one tail for each of the n offices,
-- empty where it has no ballot
pub record Content : Type 0 where
  pub sender : ℕ
  pub n : ℕ
  pub weights : List ℕ
  pub dropped : ℕ
  pub log : List ℕ
  pub tails : List (List ℕ)

-- the tails of n offices, and none up to the eighth
unfoldable pub eight_tails : ℕ → List (List ℕ) → List (List ℕ)
eight_tails n ts = ts ++ replicate (8 - n) []

-- the protocol's message: the sender, its dropped count and its office's state
unfoldable pub as_packet : Content → Packet
as_packet c = record { sender = c.sender; dropped = c.dropped; state = record { log = c.log; tails = eight_tails c.n c.tails } }

-- a content that a message may have: a sender that is one of its n offices, a weight and a tail for each of them, and the state of an office
-- within the limits that a record's has too ("an office, line or code outside the limits under that n, settled length above 1024, or settled
-- length + a tail above 1024" are refused; "the 1024 limit then covers what is undropped"; "length plus tail is at most 2^63: beyond it .. a
-- message 7")
unfoldable pub valid_content : Content → Bool
valid_content c =
    both (is_office c.n c.sender)
    (both (eqb (length c.weights) c.n)
    (both (all_b is_weight c.weights)
    (both (eqb (length c.tails) c.n) (folded_fine c.n c.dropped (as_packet c).state))))
