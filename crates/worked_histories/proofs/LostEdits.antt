-- What would be false of lost edits, by two lists of calls that are computed on records, words and bytes: three offices with document 01's weights.
-- In one office 1 issues b. Office 0 issues a, which office 2 takes and settles; office 1 takes that log, and so b is lost. It issues b again, which
-- office 2 takes and settles, and once more. In the other office 1 issues b and, behind it, x; office 2 takes and settles b and issues c behind it,
-- which office 0 takes and settles; office 1 takes that log.
--     settled-elsewhere     a lost entry's value is settled at another place, where it was issued again
--     pending-may-settle    what is pending may still be settled there
--     settled-twice         a value that was issued again stands in the order again
--     each-office-issues    two offices issue behind one beginning
--     settles-and-loses     a call settles some entries of an own tail and loses others
-- Each refutes the law that says otherwise. Assumes nothing.
use mathlib.Core.Path.{◌≡◌, refl, sym, ap, subst, ◌∙◌}
use mathlib.Core.List.{List, [], ◌∷◌, ◌++◌}
use mathlib.Core.Logic.{◌⊎◌, inl, inr}
use Rattle.std.specs.Prelude.{Some}
use Prim.Native.Nat.{ℕ, ◌≤◌}
use native.Mathlib.Omega.{arith}
use lib.ListN.{length, get_or, drop, replicate}
use Rattle.protocol.specs.Beginning.{◌⊑◌, begins, extends}
use Rattle.protocol.specs.Elect.{electing, settle, with_elect}
use Rattle.protocol.specs.Entry.{value, proper, is_entry}
use Rattle.protocol.specs.Folding.{least_known, fold_count, with_fold, with_folded_issue, refuse_folded_issue, with_folded_elect, with_folded_take, refuse_folded_take}
use Rattle.protocol.specs.Issue.{refusal_at, with_issue}
use Rattle.protocol.specs.Limits.{head_fine, is_empty, is_office, is_weight, log_fine, office_fine, tail_fine, tails_fine, total, weights_fine, length_limit, lengths_fine, folded_fine, long_enough, found_number}
use Rattle.protocol.specs.Longest.{longest}
use Rattle.protocol.specs.Codes.{codes_after}
use Rattle.protocol.specs.Counts.{count_in, counts_after, quieter_by}
use Rattle.protocol.specs.Fair.{fair}
use Rattle.protocol.specs.Moves.{is_move, can_shift, move, weights_after}
use Rattle.summary.specs.Summary.{same_summary}
use Rattle.protocol.specs.Take.{catch_up, rebase, refuse_take, with_take}
use Rattle.lists.specs.Tests.{all_b, both, pick, same, times}
use Rattle.protocol.specs.Vote.{supported, tally, unheard, winner, wins}
use Rattle.ballots.specs.Ballots.{ballot_shape}
use Rattle.kept.specs.Kept.{is_kept_code, weights_kept, codes_kept, counts_kept, nothing_kept, kept_fine}
use Rattle.soundness.specs.Noted.{noted_fine}
use Rattle.soundness.specs.Soundness.{shaped, follows, sound_fields}
use Rattle.spelling.specs.Content.{as_packet, eight_tails, valid_content}
use Rattle.numbers.specs.Numbers.{be16, be32, be64, bytes16, bytes32, bytes64, run, run_at, run_ok}
use Rattle.spelling.specs.Reading.{after_ballot, ballot_next, ballot_ok, ballots_ok, content_at, end_ok, head_ok, layout_ok, reading, record_at}
use Rattle.spelling.specs.Reading.{record_here, records_ok, rest_at, settled_at, dropped_at, size_at, tail_at, tails_at}
use Rattle.spelling.specs.Spelling.{ballot_bytes, ballots_bytes, end_bytes, head_bytes, log_record, spelling}
use Rattle.writer.specs.Written.{content_of, tails_of}
use Rattle.frame.specs.Electing.{elect_of, elect_words}
use Rattle.folding.specs.Folding.{fold_of, fold_words}
use Rattle.frame.specs.Founding.{found_of}
use Rattle.issuing.specs.Issuing.{issue_number, issue_of}
use Rattle.sending.specs.Sending.{send_bytes, send_number, send_of}
use Rattle.frame.specs.Soundness.{sound_b}
use Rattle.taking.specs.Taking.{same_offices, take_number, take_of, take_words, taken_office}
use Rattle.own_entries.specs.Parts.{common, settled_of, lost_of}
use Rattle.agreement.specs.World.{Replica, World, Call, issue, send, take, elect, replica_at, number, step, after}
use Rattle.agreement.specs.Demand.{Founded, says, log_at, view_at, order, IssuedIn}
use Rattle.agreement.proofs.Founded.{found_replica}
use Rattle.agreement.proofs.ThreeOffices.{usual_weights, empty_log, three_offices, three-founded, office-there}
use Rattle.lost_for_good.specs.LostForGood.{Settled, Pending, LostIn, issues_it, issues_of}

-- ── a list of calls ──
-- a send with room for its message
abbrev sends : ℕ → Call
sends k = send k (replicate 48 0)

-- document 01's entries a and b
abbrev a : ℕ
a = value 0 5 120

abbrev b : ℕ
b = value 1 5 130

-- until office 1 takes the log that office 2 has settled
abbrev before : List Call
before = issue 1 5 130 ∷ issue 0 5 120 ∷ sends 0 ∷ take 2 0 ∷ elect 2 ∷ sends 2 ∷ []

-- then it issues b again, and office 2 settles it
abbrev again : List Call
again = issue 1 5 130 ∷ sends 1 ∷ take 2 0 ∷ elect 2 ∷ []

-- and once more
abbrev later : List Call
later = again ++ (sends 2 ∷ take 1 0 ∷ again)

abbrev calls : List Call
calls = before ++ (take 1 0 ∷ later)

-- until office 1 takes the log b c
abbrev mixed : List Call
mixed = issue 1 5 130 ∷ sends 1 ∷ issue 1 5 131 ∷ take 2 0 ∷ elect 2 ∷ issue 2 5 140 ∷ sends 2 ∷ take 0 0 ∷ elect 0 ∷ sends 0 ∷ []

-- office 1 after these calls
abbrev office1 : List Call → Replica
office1 cs = get_or (after three_offices cs).replicas 1 (found_replica 3 usual_weights 1 empty_log)

abbrev mixed-before : Replica
mixed-before = office1 mixed

abbrev mixed-after : Replica
mixed-after = office1 (mixed ++ (take 1 0 ∷ []))

pub record Computed : Type 0 where
  pub b-first : number (after three_offices []) (issue 1 5 130) ≡ 0
  pub a_second : number (after three_offices (issue 1 5 130 ∷ [])) (issue 0 5 120) ≡ 0
  pub nothing-1 : view_at (after three_offices []) 1 ≡ []
  pub nothing-0 : view_at (after three_offices (issue 1 5 130 ∷ [])) 0 ≡ []
  pub had : view_at (after three_offices before) 1 ≡ b ∷ []
  pub gone : view_at (after three_offices (before ++ (take 1 0 ∷ []))) 1 ≡ a ∷ []
  pub pends : view_at (after three_offices (before ++ (take 1 0 ∷ issue 1 5 130 ∷ []))) 1 ≡ a ∷ b ∷ []
  pub log-then : log_at (after three_offices (before ++ (take 1 0 ∷ issue 1 5 130 ∷ []))) 1 ≡ a ∷ []
  pub log-last : log_at (after three_offices calls) 2 ≡ a ∷ b ∷ b ∷ []
  pub ordered : order three_offices calls ≡ a ∷ b ∷ b ∷ []
  pub issues : issues_of three_offices calls b ≡ 3
  pub mixed-was : replica_at (after three_offices mixed) 1 ≡ Some mixed-before
  pub mixed-is : replica_at (after three_offices (mixed ++ (take 1 0 ∷ []))) 1 ≡ Some mixed-after
  pub mixed-settled : settled_of 1 (says mixed-before) (says mixed-after) ≡ b ∷ []
  pub mixed-lost : lost_of 1 (says mixed-before) (says mixed-after) ≡ value 1 5 131 ∷ []

-- that office 1 is there is a law, and its record need not be computed for it
was-there : replica_at (after three_offices mixed) 1 ≡ Some mixed-before
was-there = office-there mixed 1 (found_replica 3 usual_weights 1 empty_log) (omega arith)

is-there : replica_at (after three_offices (mixed ++ (take 1 0 ∷ []))) 1 ≡ Some mixed-after
is-there = office-there (mixed ++ (take 1 0 ∷ [])) 1 (found_replica 3 usual_weights 1 empty_log) (omega arith)

pub computed : Computed
unfolding common order longest issues_it issues_of number step after
    begins extends electing settle with_elect is_entry proper count_in fair refusal_at with_issue catch_up rebase refuse_take
    with_take least_known fold_count with_fold with_folded_issue refuse_folded_issue with_folded_elect with_folded_take refuse_folded_take
    all_b both pick same supported tally unheard winner wins head_fine is_empty is_office is_weight log_fine office_fine tail_fine tails_fine total
    weights_fine length_limit lengths_fine folded_fine is_move can_shift move weights_after codes_after counts_after quieter_by same_summary ballot_shape
    is_kept_code weights_kept codes_kept counts_kept nothing_kept kept_fine noted_fine
    long_enough shaped follows sound_fields sound_b as_packet eight_tails valid_content be16 be32 be64 bytes16 bytes32 bytes64 run run_at run_ok
    after_ballot ballot_next ballot_ok ballots_ok content_at end_ok head_ok layout_ok reading record_at record_here records_ok rest_at settled_at dropped_at size_at tail_at
    tails_at ballot_bytes ballots_bytes end_bytes head_bytes log_record spelling content_of tails_of elect_of elect_words fold_of fold_words found_number found_of issue_number
    issue_of send_bytes send_number send_of same_offices take_number take_of take_words taken_office
computed = record {
  b-first = refl;
  a_second = refl;
  nothing-1 = refl;
  nothing-0 = refl;
  had = refl;
  gone = refl;
  pends = refl;
  log-then = refl;
  log-last = refl;
  ordered = refl;
  issues = refl;
  mixed-was = was-there;
  mixed-is = is-there;
  mixed-settled = refl;
  mixed-lost = refl;
}

-- b, issued first, is lost
b-lost : LostIn three_offices calls 1 [] b
b-lost = record {
  earlier = before;
  c = take 1 0;
  later = later;
  listed = refl;
  lost = (
    rw computed.had (refl, tt),
    λ h. let r : (b ∷ []) ⊑ (a ∷ []) = subst (λ (l : List ℕ). (b ∷ []) ⊑ l) computed.gone h in omega (arith, r.0),
  );
}

-- ── what it refutes ──
-- a lost entry is settled at no place at all
abbrev SettledNowhere : Type 0
SettledNowhere = (n : ℕ) (weights : List ℕ) (start : World) → Founded n weights start → (cs : List Call) (k : ℕ) (p : List ℕ) (e : ℕ) → LostIn start cs k p e
    → (j : ℕ) (q : List ℕ) → Settled (after start cs) j q e → ⊥

pub settled-elsewhere : SettledNowhere → ⊥
settled-elsewhere law = law 3 usual_weights three_offices three-founded calls 1 [] b b-lost 2 (a ∷ []) (rw computed.log-last (refl, (refl, tt)))

-- what is pending at some moment is never settled there
abbrev PendingForGood : Type 0
PendingForGood = (n : ℕ) (weights : List ℕ) (start : World) → Founded n weights start → (cs earlier later : List Call) → earlier ++ later ≡ cs
    → (k : ℕ) (p : List ℕ) (e : ℕ) → Pending (after start earlier) k p e → (j : ℕ) → Settled (after start cs) j p e → ⊥

pub pending-may-settle : PendingForGood → ⊥
pending-may-settle law =
    let then : World = after three_offices (before ++ (take 1 0 ∷ issue 1 5 130 ∷ [])) in
    let rest : List Call = sends 1 ∷ take 2 0 ∷ elect 2 ∷ sends 2 ∷ take 1 0 ∷ again in
    let out : Settled then 1 (a ∷ []) b → ⊥ = λ h. (subst (λ (l : List ℕ). (a ∷ b ∷ []) ⊑ l) computed.log-then h).1 in
    let pends : Pending then 1 (a ∷ []) b = (rw computed.pends (refl, (refl, tt)), out) in
    law 3 usual_weights three_offices three-founded calls (before ++ (take 1 0 ∷ issue 1 5 130 ∷ [])) rest refl 1 (a ∷ []) b pends 2
    (rw computed.log-last (refl, (refl, tt)))

-- a value stands in the order once at most, however often it was issued
abbrev SettledOnce : Type 0
SettledOnce = (n : ℕ) (weights : List ℕ) (start : World) → Founded n weights start → (cs : List Call) (v : ℕ) → times v (order start cs) ≤ 1

pub settled-twice : SettledOnce → ⊥
unfolding times pick
settled-twice law =
    let h : times b (a ∷ b ∷ b ∷ []) ≤ 1 = subst (λ (q : List ℕ). times b q ≤ 1) computed.ordered (law 3 usual_weights three_offices three-founded calls b) in
    omega (arith, h)

-- behind one beginning one office issues
abbrev OneOffice : Type 0
OneOffice = (n : ℕ) (weights : List ℕ) (start : World) → Founded n weights start → (cs : List Call) (p : List ℕ) (e f : ℕ)
    (i : IssuedIn start cs p e) (j : IssuedIn start cs p f) → i.earlier ≡ j.earlier

b-issued : IssuedIn three_offices calls [] b
b-issued = record { earlier = []; later = drop 1 calls; listed = refl; there = omega arith; done = computed.b-first; exactly = computed.nothing-1 }

a-issued : IssuedIn three_offices calls [] a
a-issued = record {
  earlier = issue 1 5 130 ∷ [];
  later = drop 2 calls;
  listed = refl;
  there = omega arith;
  done = computed.a_second;
  exactly = computed.nothing-0;
}

pub each-office-issues : OneOffice → ⊥
unfolding b-issued a-issued
each-office-issues law =
    let z : ◌≡◌ {A = ℕ} 0 1 = ap length (law 3 usual_weights three_offices three-founded calls [] b a b-issued a-issued) in
    omega (arith, z)

-- no call settles some entries of an own tail and loses others
abbrev SettlesOrLoses : Type 0
SettlesOrLoses = (n : ℕ) (weights : List ℕ) (start : World) → Founded n weights start → (cs : List Call) (c : Call) (k : ℕ) (d d' : Replica)
    → replica_at (after start cs) k ≡ Some d → replica_at (after start (cs ++ (c ∷ []))) k ≡ Some d'
    → (settled_of k (says d) (says d') ≡ []) ⊎ (lost_of k (says d) (says d') ≡ [])

pub settles-and-loses : SettlesOrLoses → ⊥
settles-and-loses law = go (law 3 usual_weights three_offices three-founded mixed (take 1 0) 1 mixed-before mixed-after computed.mixed-was computed.mixed-is)
  where
    not_none : (l : List ℕ) (x : ℕ) → l ≡ x ∷ [] → l ≡ [] → ⊥
    not_none l x e h = let z : ◌≡◌ {A = ℕ} 1 0 = ap length (sym e ∙ h) in omega (arith, z)

    go : (settled_of 1 (says mixed-before) (says mixed-after) ≡ []) ⊎ (lost_of 1 (says mixed-before) (says mixed-after) ≡ []) → ⊥
    go (inl h) = not_none (settled_of 1 (says mixed-before) (says mixed-after)) b computed.mixed-settled h
    go (inr h) = not_none (lost_of 1 (says mixed-before) (says mixed-after)) (value 1 5 131) computed.mixed-lost h
