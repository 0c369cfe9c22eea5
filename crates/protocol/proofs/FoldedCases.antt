-- Request (xiv), computed on the definitions: histories of two offices in which entries are dropped, a move of weight among them; the numbers of take
-- and issue; what fold drops; and the limits. Assumes nothing.
use mathlib.Core.Path.{◌≡◌, refl}
use mathlib.Core.List.{List, [], ◌∷◌}
use Rattle.std.specs.Prelude.{Some}
use mathlib.Core.Bool.{true, false}
use Prim.Native.Nat.{ℕ}
use lib.ListN.{replicate}
use Rattle.lists.specs.Tests.{both, pick, all_b}
use Rattle.protocol.specs.Entry.{value, proper, is_entry}
use Rattle.protocol.specs.Beginning.{begins, extends}
use Rattle.protocol.specs.Vote.{tally, unheard, supported, wins, winner}
use Rattle.protocol.specs.Limits.{is_weight, is_empty, log_fine, tail_fine, tails_fine, office_fine, length_limit, lengths_fine, folded_fine}
use Rattle.protocol.specs.Moves.{is_move, can_shift, move, weights_after}
use Rattle.protocol.specs.Counts.{count_in, counts_after, quieter_by}
use Rattle.protocol.specs.Fair.{fair}
use Rattle.protocol.specs.Codes.{edit_in, codes_after}
use Rattle.protocol.specs.Issue.{with_issue, refusal_at}
use Rattle.protocol.specs.Take.{rebase, catch_up, with_take, refuse_take}
use Rattle.protocol.specs.Elect.{settle, electing, with_elect}
use Rattle.protocol.specs.Folding.{FoldedOffice, Packet, least_known, fold_count, with_fold, with_folded_issue, refuse_folded_issue, with_folded_elect, with_folded_take, refuse_folded_take}
use Rattle.protocol.proofs.Cases.{a, b, d, three, state, behind}
use Rattle.protocol.proofs.FoldedWorld.{World, Call, issue, send, take, elect, fold, founded, desk_at, names, number, done, step, run, log_at}

-- ── a history ──
-- office 0 decides alone
abbrev after : List Call → World
after cs = run (founded (three 1 0 0) 2) cs

-- office 0 settles a and d, office 1 takes them, office 0 hears of it. The oldest message has them in office 0's ballot
abbrev heard : List Call
heard = issue 0 5 120 ∷ issue 0 6 7 ∷ send 0 true ∷ elect 0 ∷ send 0 true ∷ take 1 0 ∷ send 1 true ∷ take 0 0 ∷ []

-- then office 0 drops both, and office 1 takes its message
abbrev folded : List Call
folded = issue 0 5 120 ∷ issue 0 6 7 ∷ send 0 true ∷ elect 0 ∷ send 0 true ∷ take 1 0 ∷ send 1 true ∷ take 0 0 ∷ fold 0 ∷ send 0 true ∷ take 1 0 ∷ []

pub history :
    -- fold drops both, and answers 2: each office has heard from the other that it has them
    (fold_count 2 0 (desk_at (after heard) 0).now ≡ 2) × (fold_count 2 1 (desk_at (after heard) 1).now ≡ 2) ×
    ((desk_at (after folded) 0).now.dropped ≡ 2) × ((desk_at (after folded) 0).now.held.log ≡ []) ×
    ((desk_at (after folded) 1).now.dropped ≡ 2) × ((desk_at (after folded) 1).now.held.log ≡ []) ×
    -- the code of each line is kept
    (edit_in (desk_at (after folded) 0).kept.codes 5 ≡ Some 120) × (edit_in (desk_at (after folded) 0).kept.codes 6 ≡ Some 7) ×
    -- the whole logs are as they were
    (log_at (after folded) 0 ≡ a ∷ d ∷ []) × (log_at (after folded) 1 ≡ a ∷ d ∷ []) ×
    -- office 0's oldest message ends inside office 1's dropped part, and changes nothing; its message of both entries does not
    (number (after folded) (take 1 3) ≡ 17) × (step (after folded) (take 1 3) ≡ after folded) × (number (after folded) (take 1 2) ≡ 0)
unfolding both pick proper count_in is_move move weights_after counts_after codes_after quieter_by begins extends tally unheard supported
    wins winner with_issue rebase catch_up with_take refuse_take settle electing with_elect length_limit refusal_at least_known fold_count with_fold
    with_folded_issue refuse_folded_issue with_folded_elect with_folded_take refuse_folded_take names number done step
history = (refl, refl, refl, refl, refl, refl, refl, refl, refl, refl, refl, refl, refl)

-- with 60 of 100 office 0 settles its move of 20 to office 1, office 1 takes it, office 0 hears of it and drops it. Its next entry is 40 against 60
-- then, and office 1 settles its own
abbrev moved : World
moved = run (founded (three 60 40 0) 2) (issue 0 65 20 ∷ elect 0 ∷ send 0 true ∷ take 1 0 ∷ send 1 true ∷ take 0 0 ∷ fold 0 ∷ issue 0 5 120 ∷ elect 0 ∷ issue 1 5 130 ∷ elect 1 ∷ [])

pub kept-moves :
    ((desk_at moved 0).former ≡ value 0 65 20 ∷ []) × ((desk_at moved 0).kept.weights ≡ three 40 60 0) × ((desk_at moved 0).kept.counts ≡ three 1 0 0) ×
    ((desk_at moved 0).now.held.log ≡ []) × (log_at moved 1 ≡ value 0 65 20 ∷ b ∷ [])
unfolding both pick proper count_in is_weight is_move can_shift move weights_after counts_after codes_after quieter_by begins extends tally unheard
    supported wins winner with_issue rebase catch_up with_take refuse_take settle electing with_elect length_limit refusal_at least_known fold_count
    with_fold with_folded_issue refuse_folded_issue with_folded_elect with_folded_take refuse_folded_take names number done step
kept-moves = (refl, refl, refl, refl, refl)

-- offices 0 and 1 of one weight settle a, and office 0 drops it. Their next entries are level, and office 1's wins: of office 0 one has been settled
abbrev level : World
level = run (founded (three 1 1 0) 2) (issue 0 5 120 ∷ send 0 true ∷ take 1 0 ∷ elect 1 ∷ send 1 true ∷ take 0 0 ∷ fold 0 ∷ issue 0 6 7 ∷ issue 1 6 8 ∷ send 1 true ∷ take 0 0 ∷ elect 0 ∷ [])

pub kept-counts : ((desk_at level 0).former ≡ a ∷ []) × (log_at level 0 ≡ a ∷ value 1 6 8 ∷ [])
unfolding both pick proper count_in is_weight is_move can_shift move weights_after counts_after codes_after quieter_by begins extends tally unheard
    supported wins winner with_issue rebase catch_up with_take refuse_take settle electing with_elect length_limit refusal_at least_known fold_count
    with_fold with_folded_issue refuse_folded_issue with_folded_elect with_folded_take refuse_folded_take names number done step
kept-counts = (refl, refl)

-- ── one office ──
-- so many entries dropped, this log behind them, no ballots
abbrev holds : ℕ → List ℕ → FoldedOffice
holds dropped log = behind dropped (state log [] [] [])

abbrev noting : List ℕ → FoldedOffice → FoldedOffice
noting noted f = record { dropped = f.dropped; held = f.held; noted = noted }

abbrev from : ℕ → ℕ → List ℕ → Packet
from k dropped log = record { sender = k; dropped = dropped; state = state log [] [] [] }

pub takes :
    -- 9 first; 16 where the message begins past the receiver's length, and not at it; 17 where it ends before the receiver's dropped part does, and not at it
    (refuse_folded_take 0 (from 0 5 []) (holds 0 []) ≡ 9) ×
    (refuse_folded_take 0 (from 1 3 []) (holds 1 (a ∷ [])) ≡ 16) × (refuse_folded_take 0 (from 1 2 []) (holds 1 (a ∷ [])) ≡ 0) ×
    (refuse_folded_take 0 (from 1 1 []) (holds 2 []) ≡ 17) × (refuse_folded_take 0 (from 1 1 (a ∷ [])) (holds 2 []) ≡ 0) ×
    -- 10 where the parts that both still have differ; what one of them has dropped is not compared
    (refuse_folded_take 0 (from 1 1 (a ∷ d ∷ [])) (holds 1 (d ∷ [])) ≡ 10) × (refuse_folded_take 0 (from 1 1 (a ∷ d ∷ [])) (holds 2 (d ∷ [])) ≡ 0) ×
    -- take drops what the sender had dropped, and notes the message's length; a shorter message of that office changes no note
    (with_folded_take 0 (from 1 2 (d ∷ [])) (noting (0 ∷ 1 ∷ []) (holds 1 (a ∷ []))) ≡ noting (0 ∷ 3 ∷ []) (holds 2 (d ∷ []))) ×
    (with_folded_take 0 (from 1 1 (a ∷ [])) (noting (0 ∷ 3 ∷ []) (holds 1 (a ∷ d ∷ []))) ≡ noting (0 ∷ 3 ∷ []) (holds 1 (a ∷ d ∷ []))) ×
    -- with more dropped than the sender, the office stays as it is
    (with_folded_take 0 (from 1 0 (a ∷ d ∷ [])) (noting (0 ∷ 1 ∷ []) (holds 2 [])) ≡ noting (0 ∷ 2 ∷ []) (holds 2 []))
unfolding pick begins extends rebase catch_up with_take refuse_take with_folded_take refuse_folded_take
takes = (refl, refl, refl, refl, refl, refl, refl, refl, refl, refl)

pub folds :
    -- the smallest of the own length and the others' noted lengths
    (fold_count 2 0 (noting (0 ∷ 2 ∷ []) (holds 1 (a ∷ d ∷ []))) ≡ 1) × (fold_count 2 0 (noting (0 ∷ 3 ∷ []) (holds 1 (a ∷ d ∷ []))) ≡ 2) ×
    (with_fold 2 0 (noting (0 ∷ 2 ∷ []) (holds 1 (a ∷ d ∷ []))) ≡ noting (0 ∷ 2 ∷ []) (holds 2 (d ∷ []))) ×
    -- an office never heard of stops it, and so does one noted below the dropped count; with one office nothing does
    (fold_count 3 0 (noting (0 ∷ 3 ∷ 0 ∷ []) (holds 1 (a ∷ d ∷ []))) ≡ 0) × (fold_count 2 0 (noting (0 ∷ 1 ∷ []) (holds 2 (a ∷ []))) ≡ 0) × (fold_count 1 0 (holds 1 (a ∷ d ∷ [])) ≡ 2)
unfolding pick least_known fold_count with_fold
folds = (refl, refl, refl, refl, refl, refl)

-- an own tail of so many entries, with this much dropped and held
abbrev full : ℕ → ℕ → ℕ → FoldedOffice
full dropped held own = behind dropped (state (replicate held a) (replicate own a) [] [])

pub issues :
    -- "the 1024 limit then covers what is undropped"
    (refuse_folded_issue 1 0 5 1 (full 1000 24 0) ≡ 0) × (refuse_folded_issue 1 0 5 1 (full 1000 1024 0) ≡ 5) × (refuse_folded_issue 1 0 5 1 (full 1000 1000 24) ≡ 5) ×
    -- "Dropped entries included, length plus tail is at most 2^63: .. an issue at it meets 5"
    (refuse_folded_issue 1 0 5 1 (full 9223372036854775807 0 0) ≡ 0) × (refuse_folded_issue 1 0 5 1 (full 9223372036854775808 0 0) ≡ 5) ×
    (refuse_folded_issue 1 0 5 1 (full 9223372036854775805 1 1) ≡ 0) × (refuse_folded_issue 1 0 5 1 (full 9223372036854775806 1 1) ≡ 5) ×
    -- 3 comes first, and 11 last
    (refuse_folded_issue 1 0 65 1 (full 9223372036854775806 1 1) ≡ 3) × (refuse_folded_issue 1 0 5 1 (full 9223372036854775776 0 32) ≡ 5) × (refuse_folded_issue 1 0 5 1 (full 9223372036854775775 0 32) ≡ 11)
unfolding both pick proper count_in length_limit refusal_at refuse_folded_issue
issues = (refl, refl, refl, refl, refl, refl, refl, refl, refl, refl)

pub limits :
    (folded_fine 1 9223372036854775806 (state (a ∷ []) (a ∷ []) [] []) ≡ true) × (folded_fine 1 9223372036854775807 (state (a ∷ []) (a ∷ []) [] []) ≡ false) ×
    (folded_fine 1 9223372036854775807 (state (a ∷ []) [] [] []) ≡ true) × (folded_fine 1 9223372036854775808 (state (a ∷ []) [] [] []) ≡ false)
unfolding both pick proper is_entry all_b is_empty counts_after fair log_fine tail_fine tails_fine office_fine length_limit lengths_fine folded_fine
limits = (refl, refl, refl, refl)
