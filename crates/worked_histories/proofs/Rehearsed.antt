-- Document 01's rehearsal in the world of demand 3, computed on the definitions: offices 0 and 1 issue, office 2 takes office 0's message and
-- elects, and the order is office 0's entry; a move of weight; and a list of calls that folds. Assumes nothing.
use mathlib.Core.Path.{◌≡◌, refl}
use mathlib.Core.List.{List, [], ◌∷◌, map}
use Prim.Native.Nat.{ℕ}
use lib.ListN.{replicate}
use Rattle.protocol.specs.Beginning.{begins, extends}
use Rattle.protocol.specs.Elect.{electing, settle, with_elect}
use Rattle.protocol.specs.Entry.{value, proper, is_entry}
use Rattle.protocol.specs.Fair.{fair}
use Rattle.protocol.specs.Folding.{least_known, fold_count, with_fold, with_folded_issue, refuse_folded_issue, with_folded_elect, with_folded_take, refuse_folded_take}
use Rattle.protocol.specs.Issue.{refusal_at, with_issue}
use Rattle.protocol.specs.Limits.{head_fine, is_empty, is_office, is_weight, log_fine, office_fine, tail_fine, tails_fine, total, weights_fine, length_limit, lengths_fine, folded_fine, long_enough, found_number}
use Rattle.protocol.specs.Longest.{longest}
use Rattle.protocol.specs.Codes.{codes_after}
use Rattle.protocol.specs.Counts.{count_in, counts_after, quieter_by}
use Rattle.protocol.specs.Moves.{is_move, can_shift, move, weights_after}
use Rattle.summary.specs.Summary.{same_summary}
use Rattle.protocol.specs.Take.{catch_up, rebase, refuse_take, with_take}
use Rattle.lists.specs.Tests.{all_b, both, pick, same}
use Rattle.protocol.specs.Vote.{supported, tally, unheard, winner, wins}
use Rattle.ballots.specs.Ballots.{ballot_shape}
use Rattle.kept.specs.Kept.{is_kept_code, weights_kept, codes_kept, counts_kept, nothing_kept, kept_fine}
use Rattle.soundness.specs.Noted.{noted_fine}
use Rattle.soundness.specs.Soundness.{shaped, follows, sound_fields}
use Rattle.spelling.specs.Content.{as_packet, eight_tails, valid_content}
use Rattle.numbers.specs.Numbers.{be16, be32, be64, bytes16, bytes32, bytes64, run, run_at, run_ok}
use Rattle.spelling.specs.Reading.{after_ballot, ballot_next, ballot_ok, ballots_ok, content_at, end_ok, head_ok, layout_ok, reading, record_at}
use Rattle.spelling.specs.Reading.{record_here, records_ok, rest_at, settled_at, dropped_at, size_at, tail_at, tails_at}
use Rattle.spelling.specs.Spelling.{ballot_bytes, ballots_bytes, end_bytes, head_bytes, log_record, spelling}
use Rattle.writer.specs.Written.{content_of, tails_of}
use Rattle.frame.specs.Electing.{elect_of, elect_words}
use Rattle.folding.specs.Folding.{fold_of, fold_words}
use Rattle.frame.specs.Founding.{found_of}
use Rattle.issuing.specs.Issuing.{issue_number, issue_of}
use Rattle.sending.specs.Sending.{send_bytes, send_number, send_of}
use Rattle.frame.specs.Soundness.{sound_b}
use Rattle.frame.specs.State.{held_by}
use Rattle.taking.specs.Taking.{same_offices, take_number, take_of, take_words, taken_office}
use Rattle.agreement.specs.World.{Replica, Call, issue, send, take, elect, fold, number, step, after}
use Rattle.agreement.specs.Demand.{order}
use Rattle.agreement.proofs.ThreeOffices.{usual_weights, three_offices}

abbrev rehearsal : List Call
rehearsal = issue 0 5 120 ∷ issue 1 5 130 ∷ send 0 (replicate 36 0) ∷ take 2 0 ∷ elect 2 ∷ []

-- request (i) in the same world: office 0 hands 10 of its 40 to office 1, and office 2, which takes its message, settles that
abbrev closing : List Call
closing = issue 0 65 10 ∷ send 0 (replicate 36 0) ∷ take 2 0 ∷ elect 2 ∷ []

-- document 01's entries a and d
abbrev a : ℕ
a = value 0 5 120

abbrev d : ℕ
d = value 0 6 7

-- request (xiv): every office settles a, and office 0 knows it; it folds and issues d; office 1 takes that message and settles d too
abbrev pub folding : List Call
folding = issue 0 5 120 ∷ send 0 (replicate 36 0) ∷ take 1 0 ∷ elect 1 ∷ take 2 0 ∷ elect 2 ∷ send 1 (replicate 36 0) ∷ take 0 0 ∷ send 2 (replicate 36 0) ∷ take 0 0
    ∷ fold 0 ∷ issue 0 6 7 ∷ send 0 (replicate 36 0) ∷ take 1 0 ∷ elect 1 ∷ []

pub record Computed : Type 0 where
  pub rehearsal-order : order three_offices rehearsal ≡ a ∷ []
  pub closing-weights : map (λ (r : Replica). r.held.summary.present) (after three_offices closing).replicas ≡ usual_weights ∷ usual_weights ∷ (30 ∷ 45 ∷ 25 ∷ 0 ∷ 0 ∷ 0 ∷ 0 ∷ 0 ∷ []) ∷ []
  -- offices 0 and 1 have dropped a, office 1 with the message, and the order has it still
  pub folding-order : order three_offices folding ≡ a ∷ d ∷ []
  pub dropped : map (λ (r : Replica). r.former) (after three_offices folding).replicas ≡ (a ∷ []) ∷ (a ∷ []) ∷ [] ∷ []
  pub undropped : map (λ (r : Replica). (held_by r.held r.words).log) (after three_offices folding).replicas ≡ [] ∷ (d ∷ []) ∷ (a ∷ []) ∷ []
  -- the first message ends inside that
  pub late : number (after three_offices folding) (take 1 3) ≡ 17

pub computed : Computed
unfolding order number step after begins extends electing settle with_elect is_entry proper count_in fair refusal_at with_issue longest catch_up rebase refuse_take
    with_take least_known fold_count with_fold with_folded_issue refuse_folded_issue with_folded_elect with_folded_take refuse_folded_take
    all_b both pick same supported tally unheard winner wins head_fine is_empty is_office is_weight log_fine office_fine tail_fine tails_fine total
    weights_fine length_limit lengths_fine folded_fine is_move can_shift move weights_after codes_after counts_after quieter_by same_summary ballot_shape
    is_kept_code weights_kept codes_kept counts_kept nothing_kept kept_fine noted_fine
    long_enough shaped follows sound_fields sound_b as_packet eight_tails valid_content be16 be32 be64 bytes16 bytes32 bytes64 run run_at run_ok
    after_ballot ballot_next ballot_ok ballots_ok content_at end_ok head_ok layout_ok reading record_at record_here records_ok rest_at settled_at dropped_at size_at tail_at
    tails_at ballot_bytes ballots_bytes end_bytes head_bytes log_record spelling content_of tails_of elect_of elect_words fold_of fold_words found_number found_of issue_number
    issue_of send_bytes send_number send_of same_offices take_number take_of take_words taken_office
computed = record { rehearsal-order = refl; closing-weights = refl; folding-order = refl; dropped = refl; undropped = refl; late = refl }
