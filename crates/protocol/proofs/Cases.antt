-- Document 01's lettered cases A to L, computed on the definitions that the calls' contracts cite, as one list; the mistakes that it names, and the
-- limits. Nothing has been dropped. Assumes nothing.
use mathlib.Core.Path.{◌≡◌, refl}
use mathlib.Core.List.{List, [], ◌∷◌}
use Rattle.std.specs.Prelude.{None}
use mathlib.Core.Bool.{true, false}
use Prim.Native.Nat.{ℕ, ◌+◌}
use lib.Dec.{ltb}
use lib.ListN.{replicate}
use Rattle.protocol.specs.Entry.{value, proper}
use Rattle.protocol.specs.Beginning.{begins, extends}
use Rattle.protocol.specs.Vote.{tally, unheard, supported, wins, winner}
use Rattle.protocol.specs.Moves.{is_move, move, weights_after}
use Rattle.protocol.specs.Counts.{count_in, counts_after, quieter_by}
use Rattle.protocol.specs.SettledRule.{by_settled}
use Rattle.protocol.specs.Office.{Office, votes}
use Rattle.lists.specs.Tests.{both, pick, all_b}
use Rattle.protocol.specs.Limits.{is_office, is_weight, total, weights_fine, head_fine, long_enough, found_number, length_limit}
use Rattle.protocol.specs.Issue.{refusal_at}
use Rattle.protocol.specs.Take.{rebase, catch_up, with_take, refuse_take}
use Rattle.protocol.specs.Elect.{settle, electing, with_elect, elect_count}
use Rattle.protocol.specs.Folding.{FoldedOffice, Packet, packet, refuse_folded_issue, with_folded_elect, with_folded_take, refuse_folded_take}

-- ── the cases' entries, weights and states ──
abbrev pub a : ℕ
a = value 0 5 120

abbrev pub b : ℕ
b = value 1 5 130

abbrev pub c : ℕ
c = value 2 5 140

abbrev pub d : ℕ
d = value 0 6 7

-- the weights of three offices; the others' are zero
abbrev pub three : ℕ → ℕ → ℕ → List ℕ
three x y z = x ∷ y ∷ z ∷ 0 ∷ 0 ∷ 0 ∷ 0 ∷ 0 ∷ []

abbrev pub usual : List ℕ
usual = three 40 35 25

-- a log, and the ballots of offices 0, 1 and 2; the others have none
abbrev pub state : List ℕ → List ℕ → List ℕ → List ℕ → Office
state l x y z = record { log = l; tails = x ∷ y ∷ z ∷ [] ∷ [] ∷ [] ∷ [] ∷ [] ∷ [] }

-- the state behind so many dropped entries, with nothing noted
abbrev pub behind : ℕ → Office → FoldedOffice
behind dropped o = record { dropped = dropped; held = o; noted = replicate 8 0 }

-- office k's message of this state
abbrev from : ℕ → Office → Packet
from k o = packet k (behind 0 o)

-- ── what a case says ──
-- T(e) and U
abbrev Tally : List ℕ → Office → ℕ → ℕ → Type 0
Tally ws o e t = tally ws (votes o) e ≡ t

abbrev Unheard : List ℕ → Office → ℕ → Type 0
Unheard ws o u = unheard ws (votes o) ≡ u

-- elect leaves r and answers the count
abbrev pub Elects : List ℕ → Office → Office → ℕ → Type 0
Elects ws o r count = (with_folded_elect (by_settled ws) (behind 0 o) ≡ behind 0 r) × (elect_count (by_settled ws) o ≡ count)

-- office k takes the message: the number, and the state afterwards
abbrev Takes : ℕ → Packet → Office → Office → Type 0
Takes k m o r = (refuse_folded_take k m (behind 0 o) ≡ 0) × ((with_folded_take k m (behind 0 o)).held ≡ r)

-- ── the states of the cases ──
abbrev in_a : Office
in_a = state [] (a ∷ []) [] []

abbrev in_b : Office
in_b = state [] (a ∷ []) [] (a ∷ [])

abbrev in_c : Office
in_c = state [] (a ∷ []) (b ∷ []) []

abbrev in_d : Office
in_d = state [] (a ∷ []) (b ∷ []) (c ∷ [])

abbrev in_g : Office
in_g = state [] (a ∷ d ∷ []) [] (a ∷ d ∷ [])

abbrev in_h : Office
in_h = state [] (a ∷ d ∷ []) (a ∷ []) (c ∷ [])

-- log a and no ballots
abbrev settled_a : Office
settled_a = state (a ∷ []) [] [] []

-- "from office 0 an empty log with 0:ad"
abbrev message_j : Packet
message_j = from 0 (state [] (a ∷ d ∷ []) [] [])

abbrev after_j : Office
after_j = state (a ∷ []) (d ∷ []) (d ∷ []) []

-- "message log b"
abbrev message_l : Packet
message_l = from 0 (state (b ∷ []) [] [] [])

pub cases :
    -- A: T 40, U 60; nothing settles
    (Tally usual in_a a 40 × Unheard usual in_a 60 × Elects usual in_a in_a 0) ×
    -- B: 65 > 35; a settles
    (Tally usual in_b a 65 × Unheard usual in_b 35 × Elects usual in_b settled_a 1) ×
    -- C: 40 is not above 35 + 25; nothing
    (Tally usual in_c a 40 × Tally usual in_c b 35 × Unheard usual in_c 25 × (ltb (35 + 25) 40 ≡ false) × Elects usual in_c in_c 0) ×
    -- D: a settles, all ballots become none, count 1
    (Tally usual in_d a 40 × Tally usual in_d b 35 × Tally usual in_d c 25 × Unheard usual in_d 0 × Elects usual in_d settled_a 1) ×
    -- E, weights 50, 50, 0: tie, a settles by value
    (Tally (three 50 50 0) in_c a 50 × Tally (three 50 50 0) in_c b 50 × Unheard (three 50 50 0) in_c 0 × (ltb a b ≡ true) × Elects (three 50 50 0) in_c settled_a 1) ×
    -- F, weights 50, 50 with n = 2: 50 is not above 50; nothing
    (Tally (three 50 50 0) in_a a 50 × Unheard (three 50 50 0) in_a 50 × (ltb 50 50 ≡ false) × Elects (three 50 50 0) in_a in_a 0) ×
    -- G: count 2
    Elects usual in_g (state (a ∷ d ∷ []) [] [] []) 2 ×
    -- H, weights 40, 30, 30: a settles with 70, then d has 40 against U 60; count 1
    (Tally (three 40 30 30) in_h a 70 × Tally (three 40 30 30) in_h c 30 × (settle a in_h ≡ state (a ∷ []) (d ∷ []) [] [])
    × Tally (three 40 30 30) (settle a in_h) d 40 × Unheard (three 40 30 30) (settle a in_h) 60 × Elects (three 40 30 30) in_h (state (a ∷ []) (d ∷ []) [] []) 1) ×
    -- I: log a, own ballot none
    Takes 1 (from 2 settled_a) (state [] [] (b ∷ []) []) settled_a ×
    -- J: 0:d and 1:d
    Takes 1 message_j settled_a after_j ×
    -- K: no change
    Takes 1 message_j after_j after_j ×
    -- L, "Log a, message log b": 10
    (refuse_folded_take 1 message_l (behind 0 settled_a) ≡ 10)
unfolding begins extends counts_after quieter_by weights_after move is_move both pick tally unheard supported wins
    winner rebase catch_up with_take refuse_take with_folded_take refuse_folded_take settle electing with_elect with_folded_elect
cases = (
  (refl, refl, (refl, refl)),
  (refl, refl, (refl, refl)),
  (refl, refl, refl, refl, (refl, refl)),
  (refl, refl, refl, refl, (refl, refl)),
  (refl, refl, refl, refl, (refl, refl)),
  (refl, refl, refl, (refl, refl)),
  (refl, refl),
  (refl, refl, refl, refl, refl, (refl, refl)),
  (refl, refl),
  (refl, refl),
  (refl, refl),
  refl,
)

-- "Mistakes that suggest themselves", where each would show, and two more that no lettered case shows
pub mistakes :
    -- "comparing paths by per-office counts": 1:ab has as many entries of each office as 0:bad, or fewer, and does not become it
    Takes 1 (from 0 (state [] (b ∷ a ∷ d ∷ []) [] [])) (state [] [] (a ∷ b ∷ []) []) (state [] (b ∷ a ∷ d ∷ []) (a ∷ b ∷ []) []) ×
    -- "leaving an office whose ballot was just reset out of U": in H office 2's ballot c was reset, and d stays unsettled
    (votes (settle a in_h) 2 ≡ None) × (by_settled (three 40 30 30) (a ∷ []) (votes (settle a in_h)) ≡ None) ×
    -- "breaking a tie before U is added": T(a) = T(b) = 40, U 20
    (Tally (three 40 40 20) in_c a 40 × Tally (three 40 40 20) in_c b 40 × Unheard (three 40 40 20) in_c 20 × Elects (three 40 40 20) in_c in_c 0) ×
    -- "adopting a ballot that merely has more entries": 1:b does not become 0:ad
    Takes 1 message_j (state [] [] (b ∷ []) []) (state [] (a ∷ d ∷ []) (b ∷ []) []) ×
    -- using "the message's ballot for the receiver itself": 1:b does not become the message's 1:bd
    Takes 1 (from 0 (state [] [] (b ∷ d ∷ []) [])) (state [] [] (b ∷ []) []) (state [] [] (b ∷ []) []) ×
    -- resetting all ballots when the log grows, or none: with log a, 0:ad keeps its path, 1:b and 2:a become none
    Takes 1 (from 2 settled_a) (state [] (a ∷ d ∷ []) (b ∷ []) (a ∷ [])) (state (a ∷ []) (d ∷ []) [] [])
unfolding begins extends counts_after quieter_by weights_after move is_move both pick tally unheard supported wins
    winner rebase catch_up with_take refuse_take with_folded_take refuse_folded_take settle electing with_elect with_folded_elect
mistakes = ((refl, refl), refl, refl, (refl, refl, refl, (refl, refl)), (refl, refl), (refl, refl), (refl, refl))

-- "Tails of 31 and 32, lengths of 1023 and 1024, line 63 and 64, code 9999 and 10000": the number of an issue at the only office of a frame, whose
-- part of the tail is all of it, so that 11 stands where 4 stood; line 64 is that of its moves, of 1 to 9999, and line 65 the first past it
abbrev full : ℕ → ℕ → FoldedOffice
full settled own = behind 0 (state (replicate settled a) (replicate own a) [] [])

pub limits :
    (refuse_folded_issue 1 0 63 9999 (full 0 0) ≡ 0) × (refuse_folded_issue 1 0 65 9999 (full 0 0) ≡ 3) × (refuse_folded_issue 1 0 63 10000 (full 0 0) ≡ 3) ×
    (refuse_folded_issue 1 0 64 9999 (full 0 0) ≡ 0) × (refuse_folded_issue 1 0 64 10000 (full 0 0) ≡ 3) × (refuse_folded_issue 1 0 64 0 (full 0 0) ≡ 3) ×
    (refuse_folded_issue 1 0 63 9999 (full 0 31) ≡ 0) × (refuse_folded_issue 1 0 63 9999 (full 0 32) ≡ 11) × (refuse_folded_issue 1 0 65 9999 (full 0 32) ≡ 3) ×
    (refuse_folded_issue 1 0 63 9999 (full 1023 0) ≡ 0) × (refuse_folded_issue 1 0 63 9999 (full 1024 0) ≡ 5) × (refuse_folded_issue 1 0 63 9999 (full 992 31) ≡ 0) ×
    (refuse_folded_issue 1 0 63 9999 (full 993 31) ≡ 5) × (refuse_folded_issue 1 0 63 9999 (full 992 32) ≡ 5) ×
    -- 3 comes before 5
    (refuse_folded_issue 1 0 65 9999 (full 1024 0) ≡ 3)
unfolding refuse_folded_issue refusal_at length_limit proper both pick count_in
limits = (refl, refl, refl, refl, refl, refl, refl, refl, refl, refl, refl, refl, refl, refl, refl)

-- founding: 1 before 2, and 2 for each limit of the numbers
pub foundings :
    (found_number 3 0 usual (replicate 1024 0) ≡ 0) × (found_number 3 0 usual (replicate 1023 0) ≡ 1) × (found_number 0 0 usual (replicate 1023 0) ≡ 1) ×
    (found_number 0 0 usual (replicate 1024 0) ≡ 2) × (found_number 9 0 usual (replicate 1024 0) ≡ 2) × (found_number 3 3 usual (replicate 1024 0) ≡ 2) ×
    (found_number 2 0 usual (replicate 1024 0) ≡ 2) × (found_number 3 0 (three 0 0 0) (replicate 1024 0) ≡ 2) × (found_number 3 0 (three 65535 65535 65536) (replicate 1024 0) ≡ 2)
unfolding both pick all_b is_office is_weight total weights_fine head_fine long_enough found_number
foundings = (refl, refl, refl, refl, refl, refl, refl, refl, refl)
