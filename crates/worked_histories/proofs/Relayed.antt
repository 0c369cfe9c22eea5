-- What request (vi) leaves open and what would be false, computed on records, words and bytes: three offices with document 01's weights.
--     own-follows-first       in the world: "the own ballot may differ, since it follows the first to arrive"
--     swap-needs-the-world    of messages that no office of a world has sent, two orders may leave different ballots of another office
--     elect-gives-a-vote      a message taken again behind an elect may change the record: an office whose ballot lost has a vote again
--     refused-behind          in the world: of two accepted messages one may be refused behind the other, with 17
-- Each refutes the law that says otherwise. Assumes nothing.
use mathlib.Core.Path.{◌≡◌, refl, sym, ap, ◌∙◌}
use mathlib.Core.List.{List, [], ◌∷◌, ◌++◌}
use Rattle.std.specs.Prelude.{Some}
use Prim.Native.Nat.{ℕ}
use native.Mathlib.Omega.{arith}
use lib.ListN.{length, get_or, replicate}
use Rattle.protocol.specs.Beginning.{begins, extends}
use Rattle.protocol.specs.Elect.{electing, settle, with_elect}
use Rattle.protocol.specs.Entry.{value, proper, is_entry}
use Rattle.protocol.specs.Folding.{least_known, fold_count, with_fold, with_folded_issue, refuse_folded_issue, with_folded_elect, with_folded_take, refuse_folded_take}
use Rattle.protocol.specs.Issue.{refusal_at, with_issue}
use Rattle.protocol.specs.Limits.{head_fine, is_empty, is_office, is_weight, log_fine, office_fine, tail_fine, tails_fine, total, weights_fine, length_limit, lengths_fine, folded_fine, long_enough, found_number}
use Rattle.protocol.specs.Codes.{codes_after}
use Rattle.protocol.specs.Counts.{count_in, counts_after, quieter_by}
use Rattle.protocol.specs.Fair.{fair}
use Rattle.protocol.specs.Moves.{is_move, can_shift, move, weights_after}
use Rattle.protocol.specs.Office.{tail}
use Rattle.summary.specs.Summary.{same_summary}
use Rattle.protocol.specs.Take.{catch_up, rebase, refuse_take, with_take}
use Rattle.lists.specs.Tests.{all_b, both, pick, same}
use Rattle.protocol.specs.Vote.{supported, tally, unheard, winner, wins}
use Rattle.ballots.specs.Ballots.{ballot_shape}
use Rattle.kept.specs.Kept.{is_kept_code, weights_kept, codes_kept, counts_kept, nothing_kept, kept_fine}
use Rattle.soundness.specs.Noted.{noted_fine}
use Rattle.soundness.specs.Soundness.{shaped, follows, sound_fields}
use Rattle.spelling.specs.Content.{as_packet, eight_tails, valid_content}
use Rattle.numbers.specs.Numbers.{be16, be32, be64, bytes16, bytes32, bytes64, run, run_at, run_ok}
use Rattle.spelling.specs.Reading.{after_ballot, ballot_next, ballot_ok, ballots_ok, content_at, end_ok, head_ok, layout_ok, reading, record_at}
use Rattle.spelling.specs.Reading.{record_here, records_ok, rest_at, settled_at, dropped_at, size_at, tail_at, tails_at}
use Rattle.spelling.specs.Spelling.{ballot_bytes, ballots_bytes, end_bytes, head_bytes, log_record, spelling}
use Rattle.writer.specs.Written.{content_of, tails_of}
use Rattle.frame.specs.Electing.{elect_of, elect_words}
use Rattle.folding.specs.Folding.{fold_of, fold_words}
use Rattle.frame.specs.Founding.{found_of}
use Rattle.issuing.specs.Issuing.{issue_number, issue_of}
use Rattle.sending.specs.Sending.{send_bytes, send_number, send_of}
use Rattle.frame.specs.Soundness.{sound_b}
use Rattle.taking.specs.Taking.{same_offices, take_number, take_of, take_words, taken_office}
use Rattle.agreement.specs.World.{Replica, Posted, World, Call, issue, send, take, replica_at, message_at, number, issued, taken, elected, step, after}
use Rattle.agreement.specs.Demand.{Founded, says}
use Rattle.agreement.proofs.Founded.{found_replica}
use Rattle.agreement.proofs.ThreeOffices.{usual_weights, empty_log, three_offices, three-founded}
use Rattle.worked_histories.proofs.Rehearsed.{folding}
use Rattle.relay.specs.Relay.{Accepts, SameButOwn}

-- ── office 2 and messages ──
abbrev office2 : Replica
office2 = found_replica 3 usual_weights 2 empty_log

-- with an edit of its own
abbrev edited : Replica
edited = issued office2 5 140

abbrev ballot : Replica → ℕ → List ℕ
ballot d j = tail (says d) j

-- the bytes of a message from office k with an empty log, nothing dropped, and these ballots of offices 0 and 1
abbrev from : ℕ → List ℕ → List ℕ → List ℕ
from k s t = spelling (record { sender = k; n = 3; weights = 40 ∷ 35 ∷ 25 ∷ []; dropped = 0; log = []; tails = s ∷ t ∷ [] ∷ [] })

-- document 01's entries a, b and d
abbrev a : ℕ
a = value 0 5 120

abbrev b : ℕ
b = value 1 5 130

abbrev d : ℕ
d = value 0 6 7

-- ── the own ballot, in the world ──
-- offices 0 and 1 issue and send
abbrev news : List Call
news = issue 0 5 120 ∷ send 0 (replicate 36 0) ∷ issue 1 5 130 ∷ send 1 (replicate 36 0) ∷ []

-- a message whose sender had dropped nothing
abbrev sent : List ℕ → Posted
sent bytes = record { bytes = bytes; former = [] }

abbrev with-a : List ℕ
with-a = from 0 (a ∷ []) []

abbrev with-b : List ℕ
with-b = from 1 [] (b ∷ [])

pub record OwnBallot : Type 0 where
  pub here : replica_at (after three_offices news) 2 ≡ Some office2
  pub a-sent : message_at (after three_offices news) 1 ≡ Some (sent with-a)
  pub b-sent : message_at (after three_offices news) 0 ≡ Some (sent with-b)
  pub a-accepted : Accepts office2 with-a
  pub b-accepted : Accepts office2 with-b
  pub a_first : ballot (taken (taken office2 with-a) with-b) 2 ≡ a ∷ []
  pub b-first : ballot (taken (taken office2 with-b) with-a) 2 ≡ b ∷ []

-- ── two messages that say different things of office 1 ──
abbrev says-b : List ℕ
says-b = from 0 [] (b ∷ [])

abbrev says_other : List ℕ
says_other = from 0 [] (value 1 5 131 ∷ [])

pub record OtherBallot : Type 0 where
  pub own : office2.held.own ≡ 2
  pub b-accepted : Accepts office2 says-b
  pub other-accepted : Accepts office2 says_other
  pub b-behind : Accepts (taken office2 says_other) says-b
  pub other-behind : Accepts (taken office2 says-b) says_other
  pub b-first : ballot (taken (taken office2 says-b) says_other) 1 ≡ b ∷ []
  pub other-first : ballot (taken (taken office2 says_other) says-b) 1 ≡ value 1 5 131 ∷ []

-- ── a message with 0:ad and 1:a, at office 2 with an edit of its own, which then loses ──
abbrev ahead : List ℕ
ahead = from 0 (a ∷ d ∷ []) (a ∷ [])

abbrev lost : Replica
lost = elected (taken edited ahead)

pub record VoteAgain : Type 0 where
  pub accepted : Accepts edited ahead
  pub settled : (says lost).log ≡ a ∷ []
  pub no-vote : ballot lost 2 ≡ []
  pub vote : ballot (taken lost ahead) 2 ≡ d ∷ []

-- ── in the world with folding: a message that office 0 sent before it had settled anything, and one that it sent behind a fold, at office 2 ──
pub record LateBehind : Type 0 where
  pub early : number (after three_offices folding) (take 2 3) ≡ 0
  pub folded : number (after three_offices folding) (take 2 0) ≡ 0
  pub late : number (after three_offices (folding ++ (take 2 0 ∷ []))) (take 2 3) ≡ 17

pub computed : OwnBallot × OtherBallot × VoteAgain × LateBehind
unfolding number step after begins extends electing settle with_elect is_entry proper count_in fair refusal_at with_issue catch_up rebase refuse_take
    with_take least_known fold_count with_fold with_folded_issue refuse_folded_issue with_folded_elect with_folded_take refuse_folded_take
    all_b both pick same supported tally unheard winner wins head_fine is_empty is_office is_weight log_fine office_fine tail_fine tails_fine total
    weights_fine length_limit lengths_fine folded_fine is_move can_shift move weights_after codes_after counts_after quieter_by same_summary ballot_shape
    is_kept_code weights_kept codes_kept counts_kept nothing_kept kept_fine noted_fine
    long_enough shaped follows sound_fields sound_b as_packet eight_tails valid_content be16 be32 be64 bytes16 bytes32 bytes64 run run_at run_ok
    after_ballot ballot_next ballot_ok ballots_ok content_at end_ok head_ok layout_ok reading record_at record_here records_ok rest_at settled_at dropped_at size_at tail_at
    tails_at ballot_bytes ballots_bytes end_bytes head_bytes log_record spelling content_of tails_of elect_of elect_words fold_of fold_words found_number found_of issue_number
    issue_of send_bytes send_number send_of same_offices take_number take_of take_words taken_office
computed = (
  record { here = refl; a-sent = refl; b-sent = refl; a-accepted = refl; b-accepted = refl; a_first = refl; b-first = refl },
  record { own = refl; b-accepted = refl; other-accepted = refl; b-behind = refl; other-behind = refl; b-first = refl; other-first = refl },
  record { accepted = refl; settled = refl; no-vote = refl; vote = refl },
  record { early = refl; folded = refl; late = refl },
)

-- ── what they refute ──
-- the own ballot swaps too
abbrev OwnSwaps : Type 0
OwnSwaps = (n : ℕ) (weights : List ℕ) (start : World) → Founded n weights start → (cs : List Call) (k i j : ℕ) (r : Replica) (s t : Posted)
    → replica_at (after start cs) k ≡ Some r → message_at (after start cs) i ≡ Some s → message_at (after start cs) j ≡ Some t → Accepts r s.bytes → Accepts r t.bytes
    → ballot (taken (taken r s.bytes) t.bytes) k ≡ ballot (taken (taken r t.bytes) s.bytes) k

one_entry : (x y : ℕ) → x ∷ [] ≡ y ∷ [] → x ≡ y
one_entry x y e = ap (λ (t : List ℕ). get_or t 0 0) e

pub own-follows-first : OwnSwaps → ⊥
own-follows-first law =
    let c = computed.0 in
    let e = law 3 usual_weights three_offices three-founded news 2 1 0 office2 (sent with-a) (sent with-b) c.here c.a-sent c.b-sent c.a-accepted c.b-accepted in
    let v : a ≡ b = one_entry a b (sym c.a_first ∙ e ∙ c.b-first) in
    omega (arith, v)

-- any two messages swap, at every sound record, each accepted in both orders
abbrev SwapsAnywhere : Type 0
SwapsAnywhere = (r : Replica) (s t : List ℕ) → Accepts r s → Accepts r t → Accepts (taken r s) t → Accepts (taken r t) s
    → SameButOwn r.held.own (taken (taken r s) t) (taken (taken r t) s)

pub swap-needs-the-world : SwapsAnywhere → ⊥
swap-needs-the-world law =
    let c = computed.1 in
    let s = law office2 says-b says_other c.b-accepted c.other-accepted c.other-behind c.b-behind in
    let e = sym c.b-first ∙ s.ballots 1 (λ q. omega (arith, q, c.own)) ∙ c.other-first in
    let v : b ≡ value 1 5 131 = one_entry b (value 1 5 131) e in
    omega (arith, v)

-- a message taken again behind an elect changes nothing
abbrev SameBehindElect : Type 0
SameBehindElect = (r : Replica) (s : List ℕ) → Accepts r s → taken (elected (taken r s)) s ≡ elected (taken r s)

pub elect-gives-a-vote : SameBehindElect → ⊥
elect-gives-a-vote law =
    let c = computed.2 in
    let e : d ∷ [] ≡ [] = sym c.vote ∙ ap (λ (r : Replica). ballot r 2) (law edited ahead c.accepted) ∙ c.no-vote in
    let z : ◌≡◌ {A = ℕ} 1 0 = ap length e in
    omega (arith, z)

-- of two messages that are accepted each is accepted behind the other
abbrev AcceptedBehind : Type 0
AcceptedBehind = (n : ℕ) (weights : List ℕ) (start : World) → Founded n weights start → (cs : List Call) (k i j : ℕ)
    → number (after start cs) (take k i) ≡ 0 → number (after start cs) (take k j) ≡ 0 → number (after start (cs ++ (take k i ∷ []))) (take k j) ≡ 0

pub refused-behind : AcceptedBehind → ⊥
refused-behind law =
    let c = computed.3 in
    let z : ◌≡◌ {A = ℕ} 17 0 = sym c.late ∙ law 3 usual_weights three_offices three-founded folding 2 0 3 c.folded c.early in
    omega (arith, z)
