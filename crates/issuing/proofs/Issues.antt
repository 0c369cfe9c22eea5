-- Each way out of an issue on a sound record, and what a done issue leaves.
--     number-unsound, number-sound, number_at     the call's number, by the record's fields
--     issue-held                    an entry more in the own ballot is an entry more in the own tail
--     issue-sound, issue-state      a done issue leaves a sound record, with the state that has the entry issued
--     issue-keeps                   a refused one leaves the record
--     allowed, issue-refused, issue-done     what a number 0 allows, and the whole answer
-- Assumes nothing.
use mathlib.Core.Path.{◌≡◌, refl, sym, ap, ap₂, subst₂, ◌∙◌}
use mathlib.Core.Bool.{Bool, true, false}
use mathlib.Core.List.{List, [], ◌∷◌, ◌++◌, map}
use Prim.Native.Nat.{ℕ, ◌<◌, ◌≤◌}
use native.Mathlib.Omega.{arith}
use lib.Dec.{eqb}
use lib.ListN.{length, get_or, set}
use borrow.Author.Tests.{eq-eqb, ne_eqb}
use Rattle.protocol.specs.Entry.{value}
use Rattle.protocol.specs.Office.{tail}
use Rattle.protocol.specs.Counts.{count_in}
use Rattle.protocol.specs.Issue.{with_issue, refusal_at}
use Rattle.protocol.specs.Folding as F
use Rattle.protocol.specs.Folding.{with_folded_issue, refuse_folded_issue}
use Rattle.lists.proofs.Tests.{pick_true, pick-false, map-set}
use Rattle.protocol_laws.proofs.Issue as Issue
use Rattle.protocol_laws.proofs.FoldedLimits.{folded-issue-fine}
use Rattle.protocol_laws.proofs.Moves.{Proper, proper-true}
use Rattle.ballots.specs.Ballots.{tail_of, ballot_of, off_end, pushed, words_with}
use Rattle.ballots.specs.declared.Ballot.{Ballot}
use Rattle.summary.specs.Summary.{summary_after}
use Rattle.kept.specs.declared.Kept.{Kept}
use Rattle.ballots.proofs.Laws as B
use Rattle.frame.specs.State.{held_length, held_by, folded_by, with_held, own_ballot, kept_by}
use Rattle.frame.specs.Soundness.{sound_b, Sound}
use Rattle.issuing.specs.Issuing.{with_own, issue_number, issued_record, issue_of}
use Rattle.frame.specs.declared.Record.{Record}
use Rattle.issuing.specs.declared.Issued.{Issued}
use Rattle.frame.proofs.Sound.{sound, sound-true}
use Rattle.frame.proofs.State.{log-length, whole_length, words-kept, ballot, tail_at, folded-fine, kept-stays, folded-by, sound-of}

-- ── the number, with the record's fields ──
pub number-unsound : (r : Record) (words : List ℕ) (line code : ℕ) → sound_b r words ≡ false → 1 ≡ issue_number r words line code
unfolding issue_number
number-unsound r words line code e = sym (pick-false (sound_b r words) _ 1 e)

module _ (r : Record) (words : List ℕ) (S : Sound r words) (line code : ℕ) where
  pub number-sound : (k : ℕ) → k ≡ refuse_folded_issue r.n r.own line code (folded_by r words) → k ≡ issue_number r words line code
  unfolding issue_number
  number-sound k q = q ∙ sym (pick_true (sound_b r words) _ 1 (sound-true r words S))

  abbrev mine : Ballot
  mine = get_or r.ballots r.own off_end

  abbrev len : ℕ
  len = mine.len

  abbrev entry : ℕ
  entry = value r.own line code

  -- an entry more in the own ballot is an entry more in the own tail
  pub issue-held : (b : Ballot) → b ≡ pushed (get_or r.ballots r.own off_end) entry → len < 32
      → with_held r r.kept r.noted r.summary r.settled (set r.ballots r.own b) ≡ issued_record r words line code
  unfolding with_issue with_folded_issue
  issue-held b q h =
      let k = sym (kept-stays r words S (with_folded_issue r.own entry (folded_by r words)) refl) in
      λ i. with_held r (k i) r.noted ((S.done ∙ ap (λ (x : Kept). summary_after x.summary (held_by r words).log) k) i) (sym (whole_length r words S) i) (sym ballots i)
    where
      grown : ballot_of (tail (held_by r words) r.own ++ entry ∷ []) ≡ b
      grown =
          ap (λ (t : List ℕ). ballot_of (t ++ entry ∷ [])) (tail_at r words r.own) ∙
          sym (q ∙ B.push-held r.n (held_length r) (get_or r.ballots r.own off_end) (ballot r words S r.own (omega arith)) entry h)

      ballots : map ballot_of (set (map tail_of r.ballots) r.own (tail (held_by r words) r.own ++ entry ∷ [])) ≡ set r.ballots r.own b
      ballots =
          map-set ballot_of (map tail_of r.ballots) r.own (tail (held_by r words) r.own ++ entry ∷ []) ∙
          ap₂ (λ (l : List Ballot) (x : Ballot). set l r.own x) (B.held_all r.n (held_length r) r.ballots S.fine) grown

  -- each way out, by the own ballot's length
  tail-is : length (tail (held_by r words) r.own) ≡ len
  tail-is = ap length (tail_at r words r.own) ∙ B.tail-length r.n (held_length r) mine (ballot r words S r.own (omega arith))

  -- the number by the record's own length and ballot
  pub number_at : (b : Ballot) → b ≡ own_ballot r → (held : ℕ) → held ≡ held_length r → (k : ℕ) → k ≡ refusal_at r.n line code r.settled held b.len (count_in r.own (tail_of b))
      → k ≡ issue_number r words line code
  unfolding refuse_folded_issue
  number_at b p held h k q =
      number-sound k (q ∙ ap (λ (x : ℕ). refusal_at r.n line code r.settled x b.len (count_in r.own (tail_of b))) h
      ∙ ap (λ (x : Ballot). refusal_at r.n line code r.settled (held_length r) x.len (count_in r.own (tail_of x))) p
      ∙ λ i. refusal_at r.n line code (sym (whole_length r words S) i) (sym (log-length r words S) i) (sym tail-is i) (count_in r.own (sym (tail_at r words r.own) i)))

-- the office with the entry issued
abbrev pub issued_office : Record → List ℕ → ℕ → ℕ → F.FoldedOffice
issued_office r words line code = with_folded_issue r.own (value r.own line code) (folded_by r words)

issued-words : (r : Record) (words : List ℕ) (S : Sound r words) (line code : ℕ) → words_with (issued_office r words line code).held.log words ≡ words
unfolding with_issue with_folded_issue
issued-words r words S line code = words-kept r words S

-- a done issue: what it found, and the record that it made
pub record IssueMade (r : Record) (words : List ℕ) (line code : ℕ) : Type 0 where
  pub was : Sound r words
  pub allowed : refuse_folded_issue r.n r.own line code (folded_by r words) ≡ 0
  pub made : (issue_of r words line code).«record» ≡ issued_record r words line code

pub issue-made : (r : Record) (words : List ℕ) (line code : ℕ) → (issue_of r words line code).number ≡ 0 → IssueMade r words line code
unfolding issue_of issue_number
issue-made r words line code q = go (sound_b r words) refl
  where
    go : (b : Bool) → sound_b r words ≡ b → IssueMade r words line code
    go false e = absurd (omega (arith, q, pick-false (sound_b r words) (refuse_folded_issue r.n r.own line code (folded_by r words)) 1 e))
    go true e = record {
      was = sound r words e;
      allowed = sym (pick_true (sound_b r words) (refuse_folded_issue r.n r.own line code (folded_by r words)) 1 e) ∙ q;
      made = pick_true (eqb (issue_number r words line code) 0) (issued_record r words line code) r (eq-eqb (issue_number r words line code) 0 q);
    }

module _ (r : Record) (words : List ℕ) (line code : ℕ) (q : (issue_of r words line code).number ≡ 0) where
  abbrev office : F.FoldedOffice
  office = issued_office r words line code

  -- it drops nothing
  dropped : office.dropped ≡ r.kept.dropped
  unfolding with_folded_issue
  dropped = refl

  -- it leaves a sound record with the same words
  pub issue-sound : Sound (issue_of r words line code).«record» words
  issue-sound =
      let D = issue-made r words line code q in
      let S = D.was in
      let H = S.head in
      let F = folded-issue-fine r.n r.own line code (folded_by r words) (folded-fine r words S) H.member H.most D.allowed in
      subst₂ Sound (sym D.made) (issued-words r words S line code) (sound-of r words S office (omega (arith, dropped)) (omega (arith, dropped, S.within)) F)

  -- and the office with the entry issued, and what is kept
  pub issue-state : folded_by (issue_of r words line code).«record» words ≡ office
  issue-state =
      let D = issue-made r words line code q in
      let S = D.was in
      ap₂ folded_by D.made (sym (issued-words r words S line code)) ∙ folded-by r words S office (omega (arith, dropped)) (omega (arith, dropped, S.within))

  pub issue-kept : (issue_of r words line code).«record».kept ≡ kept_by r words office
  issue-kept = ap (λ (x : Record). x.kept) (issue-made r words line code q).made

-- a refused issue leaves the record
pub issue-keeps : (r : Record) (words : List ℕ) (line code : ℕ) → ((issue_of r words line code).number ≡ 0 → ⊥) → (issue_of r words line code).«record» ≡ r
unfolding issue_of
issue-keeps r words line code q = pick-false (eqb (issue_number r words line code) 0) (issued_record r words line code) r (ne_eqb (issue_number r words line code) 0 q)

-- ── the whole answer ──
pub issue-refused : (r : Record) (words : List ℕ) (line code k : ℕ) → k ≡ issue_number r words line code
    → (k ≡ 0 → ⊥) → ◌≡◌ {A = Issued} (record { number = k; «record» = r }) (issue_of r words line code)
unfolding issue_of
issue-refused r words line code k q h = λ i. record { number = q i; «record» = sym (issue-keeps r words line code (λ z. h (q ∙ z))) i }

-- what an issue that is not refused may rely on
pub record Allowed (r : Record) (words : List ℕ) (line code : ℕ) : Type 0 where
  pub was : Sound r words
  pub place : r.own < 8
  pub limits : Proper r.n line code
  pub few : r.n ≤ 8
  pub short : (get_or r.ballots r.own off_end).len < 32

pub allowed : (r : Record) (words : List ℕ) (line code : ℕ) → issue_number r words line code ≡ 0 → Allowed r words line code
unfolding issue_of
allowed r words line code q =
    let D = issue-made r words line code q in
    let S = D.was in
    let H = S.head in
    let d = Issue.issue-done r.n r.own line code (folded_by r words) D.allowed in
    let F = ballot r words S r.own (omega arith) in
    let short : (get_or r.ballots r.own off_end).len ≡ 32 → ⊥ =
    λ e. omega (arith, d.below, Issue.never-4 r.n r.own (held_by r words) (folded-fine r words S).held H.member (tail-is r words S line code ∙ e)) in
    record {
      was = S;
      place = omega arith;
      limits = proper-true r.n line code d.limits;
      few = H.most;
      short = omega arith;
    }

pub issue-done : (r : Record) (words : List ℕ) (line code : ℕ) → issue_number r words line code ≡ 0
    → (b : Ballot) → b ≡ own_ballot r → (x : Ballot) → x ≡ pushed b (value r.own line code) → (y : Record) → y ≡ with_own r x
    → ◌≡◌ {A = Issued} (record { number = 0; «record» = y }) (issue_of r words line code)
unfolding issue_of
issue-done r words line code q b o x p y n =
    let A = allowed r words line code q in
    let made = (issue-made r words line code q).made in
    let held = issue-held r words A.was line code x (p ∙ ap (λ (z : Ballot). pushed z (value r.own line code)) o) A.short in
    λ i. record { number = sym q i; «record» = (n ∙ held ∙ sym made) i }
