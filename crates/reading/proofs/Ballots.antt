-- One turn of the loops that read the log records and the ballots, and their exits.
--     left_at, log-..    the log records
--     Left, again ..    the ballots and the end
-- Assumes nothing.
use Prim.Native.Nat.{ℕ, ◌+◌, ◌-◌, ◌<◌, ◌≤◌, suc, zero}
use mathlib.Core.Bool.{Bool, false, true}
use mathlib.Core.List.{List, [], ◌∷◌, map, map-append}
use mathlib.Core.Path.{◌∙◌, ◌≡◌, ap, refl, sym}
use native.Mathlib.Nat.{le_of_eq, not-suc-le-zero, sub-zero}
use native.Mathlib.Numerals.{add-one}
use native.Mathlib.Omega.{arith}
use lib.ListN.{drop, get_or, length, length-map, replicate, set}
use lib.Seq.{drop-drop, get_or-set_other, set-get_or, sets}
use Rattle.std.specs.Prelude.{None, Some}
use Rattle.std.proofs.lemmas.Option.{none-some, same_Some}
use Rattle.ballots.specs.Ballots.{ballot_of, no_ballot}
use Rattle.ballots.specs.declared.Ballot.{Ballot}
use Rattle.protocol.specs.Entry.{is_entry}
use Rattle.lists.specs.Tests.{all_b, both, pick}
use Rattle.records.specs.Steps.{end_at, log_at}
use Rattle.ballot_records.specs.BallotSteps.{ballot_at}
use Rattle.ballot_records.specs.declared.BallotStep.{BallotStep}
use Rattle.records.specs.declared.LogStep.{LogStep}
use Rattle.spelling.specs.Content.{eight_tails}
use Rattle.numbers.specs.Numbers.{run_at, run_ok}
use Rattle.spelling.specs.Reading.{after_ballot, ballot_ok, ballots_ok, end_ok, record_at, record_here, size_at, tail_at, tails_at}
use Rattle.lists.proofs.Tests.{both-assoc, both-false-0, both-swap, get_d_replicate}
use Rattle.spelling.proofs.Ballots.{by-test, tails_at-length}
use Rattle.numbers.proofs.Numbers.{sets-alike}
use Rattle.numbers.proofs.Steps.{test-end, test-fails, test-step}
use Rattle.reading.specs.Read.{ballots_of, log_within}

module _ (s : List ℕ) (at n o : ℕ) where
  step-none : None ≡ ballot_at s at o → ballot_ok (drop at s) o ≡ false
  unfolding ballot_at pick
  step-none q = by-test _ (ballot_ok (drop at s) o) (λ p. absurd (none-some _ (rw p at q))) (λ p. p)

  step-some : (r : BallotStep) → Some r ≡ ballot_at s at o → (ballot_ok (drop at s) o ≡ true) × (r ≡ record { next = at + size_at (drop at s) o; ballot = ballot_of (tail_at (drop at s) o) })
  unfolding ballot_at pick
  step-some r q = by-test _ (ballot_ok (drop at s) o) (λ p. (p, same_Some _ _ (rw p at q))) (λ p. absurd (none-some r (sym (rw p at q))))

  module _ (e : ballot_ok (drop at s) o ≡ true) where
    turn-ok : o < n → ballots_ok (drop at s) o (n - o) ≡ ballots_ok (drop (at + size_at (drop at s) o) s) (o + 1) (n - (o + 1))
    unfolding ballots_ok after_ballot both
    turn-ok h = let q : n - o ≡ suc (n - (o + 1)) = omega arith in rw (q, e, add-one o, drop-drop)

  turn-fails : o < n → ballot_ok (drop at s) o ≡ false → ballots_ok (drop at s) o (n - o) ≡ false
  unfolding ballots_ok both
  turn-fails h e = let q : n - o ≡ suc (n - (o + 1)) = omega arith in rw (q, e)

  turn-tails : (l : List Ballot) → o < n
      → sets (set l o (ballot_of (tail_at (drop at s) o))) (o + 1) (map ballot_of (tails_at (drop (at + size_at (drop at s) o) s) (o + 1) (n - (o + 1))))
      ≡ sets l o (map ballot_of (tails_at (drop at s) o (n - o)))
  unfolding tails_at after_ballot
  turn-tails l h = let q : n - o ≡ suc (n - (o + 1)) = omega arith in rw (q, add-one o, drop-drop)

  end-tails : (l : List Ballot) → n ≤ o → sets l o (map ballot_of (tails_at (drop at s) o (n - o))) ≡ l
  unfolding tails_at
  end-tails l h = let q : n - o ≡ 0 = omega arith in rw q

  end_test : n ≤ o → ballots_ok (drop at s) o (n - o) ≡ end_ok (drop at s)
  unfolding ballots_ok
  end_test h = let q : n - o ≡ 0 = omega arith in rw q

-- eight ballots of which the first n are stored
stored-all : (n : ℕ) (ts : List (List ℕ)) → length ts ≡ n → n ≤ 8 → sets (replicate 8 no_ballot) 0 (map ballot_of ts) ≡ ballots_of n ts
unfolding ballots_of eight_tails
stored-all n ts e h =
    let l : length (map ballot_of ts) ≡ n = length-map ts ballot_of ∙ e in
    sets-alike 8 no_ballot (map ballot_of ts) (omega arith) ∙ rw (l, map-append, map-alike (8 - n))
  where
    map-alike : (k : ℕ) → map ballot_of (replicate k []) ≡ replicate k no_ballot
    map-alike zero = refl
    map-alike (suc k) = ap (λ (bs : List Ballot). no_ballot ∷ bs) (map-alike k)

-- what the end's step says
end-none : (at : ℕ) (s : List ℕ) → None ≡ end_at s at → end_ok (drop at s) ≡ false
unfolding end_at pick
end-none at s e = by-test _ (end_ok (drop at s)) (λ p. absurd (none-some _ (rw p at e))) (λ p. p)

end-some : (at : ℕ) (s : List ℕ) (x : ℕ) → Some x ≡ end_at s at → end_ok (drop at s) ≡ true
unfolding end_at pick
end-some at s x e = by-test _ (end_ok (drop at s)) (λ p. p) (λ p. absurd (none-some x (sym (rw p at e))))

-- ---- the loop over the log records: what is left to test from position at on

-- a record whose value is an entry for n offices
abbrev passes : ℕ → List ℕ → Bool
passes n s = both (record_here s) (is_entry n (record_at s))

-- the records that are left at turn i, of k
abbrev pub left_at : ℕ → ℕ → ℕ → ℕ → List ℕ → Bool
left_at n k at i s = run_ok 6 (passes n) (k - i) (drop at s)

-- all are left: tested one by one, or the records first and then the values
one_by_one : (n k : ℕ) (s : List ℕ) → run_ok 6 (passes n) k s ≡ both (run_ok 6 record_here k s) (all_b (is_entry n) (run_at 6 record_at k s))
unfolding run_ok run_at all_b both
one_by_one n zero s = refl
one_by_one n (suc k) s =
    ap (both (passes n s)) (one_by_one n k (drop 6 s)) ∙ crossed (record_here s) (is_entry n (record_at s)) (run_ok 6 record_here k (drop 6 s)) (all_b (is_entry n) (run_at 6 record_at k (drop 6 s)))
  where
    crossed : (a b c d : Bool) → both (both a b) (both c d) ≡ both (both a c) (both b d)
    crossed a b c d = both-assoc a b (both c d) ∙ ap (both a) (both-swap b c d) ∙ sym (both-assoc a c (both b d))

pub log-begins : (n k : ℕ) (s : List ℕ) → left_at n k 0 0 s ≡ log_within s n k
unfolding log_within
log-begins n k s = rw sub-zero (one_by_one n k s)

module _ (n k at i : ℕ) (s : List ℕ) where
  -- no record stands there: the loop is left
  pub log-fails : i < k → None ≡ log_at s at → false ≡ left_at n k at i s
  unfolding log_at pick
  log-fails h e = sym (test-fails 6 (passes n) k i (drop at s) h (both-false-0 (record_here (drop at s)) _ absent))
    where
      absent : record_here (drop at s) ≡ false
      absent = by-test _ (record_here (drop at s)) (λ p. absurd (none-some _ (rw p at e))) (λ p. p)

  -- else its value decides
  module _ (r : LogStep) (h : i < k) (e : Some r ≡ log_at s at) where
    step : (record_here (drop at s) ≡ true) × (r ≡ record { value = record_at (drop at s); next = at + 6 })
    unfolding log_at pick
    step = by-test _ (record_here (drop at s)) (λ p. (p, same_Some _ _ (rw p at e))) (λ p. absurd (none-some r (sym (rw p at e))))

    value-tested : is_entry n r.value ≡ passes n (drop at s)
    unfolding both
    value-tested = rw (step.0, step.1)

    -- no entry: the loop is left
    pub log-refused : is_entry n r.value ≡ false → false ≡ left_at n k at i s
    log-refused q = sym (test-fails 6 (passes n) k i (drop at s) h (sym value-tested ∙ q))

    -- and else it goes on after the record
    pub log-turn : is_entry n r.value ≡ true → left_at n k r.next (i + 1) s ≡ left_at n k at i s
    log-turn q = rw (step.1) (sym (test-step 6 (passes n) k i at s h (sym value-tested ∙ q)))

  -- no record is left
  pub log-ends : k ≤ i → true ≡ left_at n k at i s
  log-ends h = sym (test-end 6 (passes n) k i (drop at s) h)

-- ---- the loop over the ballots: what is left to test, and to store, from office o at position at, is what there was to test and to store
-- at first, and no ballot is stored yet from office o on

pub record Left (s : List ℕ) (from n : ℕ) (l : List Ballot) (at o : ℕ) : Type 0 where
  pub few : o ≤ n
  pub tests : ballots_ok (drop at s) o (n - o) ≡ ballots_ok (drop from s) 0 n
  pub stores : sets l o (map ballot_of (tails_at (drop at s) o (n - o))) ≡ sets (replicate 8 no_ballot) 0 (map ballot_of (tails_at (drop from s) 0 n))
  pub blank : (i : ℕ) → o ≤ i → get_or l i no_ballot ≡ no_ballot

-- a ballot of no entries is none
none-empty : (t : List ℕ) → (ballot_of t).len ≡ 0 → ballot_of t ≡ no_ballot
none-empty [] e = refl
none-empty (x ∷ t) e = absurd (not-suc-le-zero (le_of_eq e))

module _ {s : List ℕ} {from n : ℕ} {l : List Ballot} {at o : ℕ} (inv : Left s from n l at o) where
  module _ {r : BallotStep} (h : o < n) (e : Some r ≡ ballot_at s at o) where
    step_is : r ≡ record { next = at + size_at (drop at s) o; ballot = ballot_of (tail_at (drop at s) o) }
    step_is = (step-some s at n o r e).1

    -- the ballot is stored
    pub again : Left s from n (set l o r.ballot) r.next (o + 1)
    again =
        rw step_is
        (record {
          few = omega arith;
          tests = sym (turn-ok s at n o (step-some s at n o r e).0 h) ∙ inv.tests;
          stores = turn-tails s at n o l h ∙ inv.stores;
          blank = λ i g. get_or-set_other l o i _ no_ballot (λ (d : i ≡ o). omega arith) ∙ inv.blank i (omega arith);
        })

    -- a ballot that is none stands there already
    pub skipped : r.ballot.len ≡ 0 → Left s from n l r.next (o + 1)
    skipped z = rw kept at again
      where
        kept : set l o r.ballot ≡ l
        kept =
            let b : r.ballot ≡ ballot_of (tail_at (drop at s) o) = ap (λ (x : BallotStep). x.ballot) step_is in
            ap (set l o) (b ∙ none-empty (tail_at (drop at s) o) (ap (λ (x : Ballot). x.len) (sym b) ∙ z) ∙ sym (inv.blank o (omega arith))) ∙ set-get_or l o no_ballot

  pub fails : o < n → None ≡ ballot_at s at o → ballots_ok (drop from s) 0 n ≡ false
  fails h e = sym inv.tests ∙ turn-fails s at n o h (step-none s at n o e)

  -- after the last office the end decides
  module _ (h : n ≤ o) where
    pub not-ended : None ≡ end_at s at → ballots_ok (drop from s) 0 n ≡ false
    not-ended e = sym inv.tests ∙ end_test s at n o h ∙ end-none at s e

    pub ended : {x : ℕ} → Some x ≡ end_at s at → ballots_ok (drop from s) 0 n ≡ true
    ended e = sym inv.tests ∙ end_test s at n o h ∙ end-some at s _ e

    pub all-stored : n ≤ 8 → l ≡ ballots_of n (tails_at (drop from s) 0 n)
    all-stored most = sym (end-tails s at n o l h) ∙ inv.stores ∙ stored-all n (tails_at (drop from s) 0 n) (tails_at-length (drop from s) 0 n) most

pub begins-left : {s : List ℕ} {from n : ℕ} {b : Ballot} → b ≡ no_ballot → Left s from n (replicate 8 b) from 0
begins-left e =
    rw e (record { few = omega arith; tests = rw sub-zero; stores = rw sub-zero; blank = λ i g. get_d_replicate 8 no_ballot i })
