-- "Across two offices that may be false": three offices with document 01's weights, and a list of ten calls, computed. Office 1's first ballot
-- loses; office 0 still holds it, while office 1 has the settled entry and an entry of its own behind it. Assumes nothing.
use mathlib.Core.Path.{◌≡◌, refl}
use mathlib.Core.List.{List, [], ◌∷◌}
use mathlib.Core.Logic.{inr}
use Rattle.std.specs.Prelude.{Some}
use Prim.Native.Nat.{ℕ, zero, suc}
use native.Mathlib.Omega.{arith}
use lib.ListN.{get_or, replicate}
use Rattle.protocol.specs.Beginning.{◌⊑◌, begins, extends}
use Rattle.protocol.specs.Elect.{electing, settle, with_elect}
use Rattle.protocol.specs.Entry.{value, proper, is_entry}
use Rattle.protocol.specs.Fair.{fair}
use Rattle.protocol.specs.Folding.{with_folded_issue, refuse_folded_issue, with_folded_elect, with_folded_take, refuse_folded_take}
use Rattle.protocol.specs.Issue.{refusal_at, with_issue}
use Rattle.protocol.specs.Limits.{head_fine, is_empty, is_office, is_weight, log_fine, office_fine, tail_fine, tails_fine, total, weights_fine, length_limit, lengths_fine, folded_fine, long_enough, found_number}
use Rattle.protocol.specs.Codes.{codes_after}
use Rattle.protocol.specs.Counts.{count_in, counts_after, quieter_by}
use Rattle.protocol.specs.Moves.{is_move, can_shift, move, weights_after}
use Rattle.protocol.specs.Office.{path}
use Rattle.summary.specs.Summary.{same_summary}
use Rattle.protocol.specs.Take.{catch_up, rebase, refuse_take, with_take}
use Rattle.lists.specs.Tests.{all_b, both, pick, same}
use Rattle.protocol.specs.Vote.{supported, tally, unheard, winner, wins}
use Rattle.ballots.specs.Ballots.{ballot_shape}
use Rattle.kept.specs.Kept.{is_kept_code, weights_kept, codes_kept, counts_kept, nothing_kept, kept_fine}
use Rattle.soundness.specs.Noted.{noted_fine}
use Rattle.soundness.specs.Soundness.{shaped, follows, sound_fields}
use Rattle.spelling.specs.Content.{as_packet, eight_tails, valid_content}
use Rattle.numbers.specs.Numbers.{be16, be32, be64, bytes16, bytes32, bytes64, run, run_at, run_ok}
use Rattle.spelling.specs.Reading.{after_ballot, ballot_next, ballot_ok, ballots_ok, content_at, end_ok, head_ok, layout_ok, reading, record_at}
use Rattle.spelling.specs.Reading.{record_here, records_ok, rest_at, settled_at, dropped_at, size_at, tail_at, tails_at}
use Rattle.spelling.specs.Spelling.{ballot_bytes, ballots_bytes, end_bytes, head_bytes, log_record, spelling}
use Rattle.writer.specs.Written.{content_of, tails_of}
use Rattle.frame.specs.Electing.{elect_of, elect_words}
use Rattle.frame.specs.Founding.{found_of}
use Rattle.issuing.specs.Issuing.{issue_number, issue_of}
use Rattle.sending.specs.Sending.{send_bytes, send_number, send_of}
use Rattle.frame.specs.Soundness.{sound_b}
use Rattle.taking.specs.Taking.{same_offices, take_number, take_of, take_words, taken_office}
use Rattle.agreement.specs.World.{Replica, World, Call, issue, send, take, elect, replica_at, step, after}
use Rattle.agreement.specs.Demand.{Founded, says}
use Rattle.agreement.proofs.Founded.{found_replica}
use Rattle.agreement.proofs.ThreeOffices.{usual_weights, empty_log, three_offices, three-founded, office-there}
use Rattle.counts_decide.specs.CountsDecide.{counts_leq, HeldAt}

-- ── a list of calls ──
-- a send with room for its message
abbrev sends : ℕ → Call
sends k = send k (replicate 36 0)

-- office 1 issues b and sends it; office 0 issues a and sends it, and office 2 takes that, settles a and sends its log; office 1 takes the log,
-- which resets its ballot, and issues c; office 0 takes b
abbrev crossing : List Call
crossing = issue 1 5 130 ∷ sends 1 ∷ issue 0 5 120 ∷ sends 0 ∷ take 2 0 ∷ elect 2 ∷ sends 2 ∷ take 1 0 ∷ issue 1 5 131 ∷ take 0 2 ∷ []

abbrev crossed : World
crossed = after three_offices crossing

-- office k's record and log
abbrev office : ℕ → Replica
office k = get_or crossed.replicas k (found_replica 3 usual_weights 0 empty_log)

-- what offices 0 and 1 hold of office 1
abbrev at0 : List ℕ
at0 = value 1 5 130 ∷ []

abbrev at1 : List ℕ
at1 = value 0 5 120 ∷ value 1 5 131 ∷ []

pub record Crossed : Type 0 where
  pub office0 : replica_at crossed 0 ≡ Some (office 0)
  pub office1 : replica_at crossed 1 ≡ Some (office 1)
  pub first : at0 ≡ path (says (office 0)) 1
  pub second : at1 ≡ path (says (office 1)) 1

-- that they are there is a law, and their records need not be computed for it
there-0 : replica_at crossed 0 ≡ Some (office 0)
there-0 = office-there crossing 0 (found_replica 3 usual_weights 0 empty_log) (omega arith)

there-1 : replica_at crossed 1 ≡ Some (office 1)
there-1 = office-there crossing 1 (found_replica 3 usual_weights 0 empty_log) (omega arith)

pub computed : Crossed
unfolding step after begins extends electing settle with_elect is_entry proper count_in fair refusal_at with_issue catch_up rebase refuse_take
    with_take with_folded_issue refuse_folded_issue with_folded_elect with_folded_take refuse_folded_take
    all_b both pick same supported tally unheard winner wins head_fine is_empty is_office is_weight log_fine office_fine tail_fine tails_fine total
    weights_fine length_limit lengths_fine folded_fine is_move can_shift move weights_after codes_after counts_after quieter_by same_summary ballot_shape
    is_kept_code weights_kept codes_kept counts_kept nothing_kept kept_fine noted_fine
    long_enough shaped follows sound_fields sound_b as_packet eight_tails valid_content be16 be32 be64 bytes16 bytes32 bytes64 run run_at run_ok
    after_ballot ballot_next ballot_ok ballots_ok content_at end_ok head_ok layout_ok reading record_at record_here records_ok rest_at settled_at dropped_at size_at tail_at
    tails_at ballot_bytes ballots_bytes end_bytes head_bytes log_record spelling content_of tails_of elect_of elect_words found_number found_of issue_number
    issue_of send_bytes send_number send_of same_offices take_number take_of take_words taken_office
computed = record { office0 = there-0; office1 = there-1; first = refl; second = refl }

-- ── the law that it refutes ──
-- counts decide across any two offices of a world
abbrev AcrossDecide : Type 0
AcrossDecide = (n : ℕ) (weights : List ℕ) (start : World) → Founded n weights start → (cs : List Call) (j k : ℕ) (p q : List ℕ)
    → HeldAt (after start cs) j p → HeldAt (after start cs) k q → counts_leq n p q → p ⊑ q

fewer : counts_leq 3 at0 at1
unfolding count_in
fewer zero h = omega arith
fewer (suc zero) h = omega arith
fewer (suc (suc k)) h = omega arith

pub across-offices : AcrossDecide → ⊥
across-offices law =
    let c = computed in
    let x : HeldAt crossed 0 at0 = record { office = office 0; there = c.office0; holds = inr (1, c.first) } in
    let y : HeldAt crossed 1 at1 = record { office = office 1; there = c.office1; holds = inr (1, c.second) } in
    let h = law 3 usual_weights three_offices three-founded crossing 0 1 at0 at1 x y fewer in
    omega (arith, h.0)
