-- What specs/Claims says of a report.
--     three-parts, refusals           of any two records
--     after_call                      of every sound record and what a take, elect or fold left of it
--     fold-loses-nothing
-- Assumes nothing.
use mathlib.Core.Path.{◌≡◌, refl, sym, ap, ap₂, subst, ◌∙◌}
use mathlib.Core.Bool.{Bool, true, false, true≢false}
use mathlib.Core.List.{List, [], ◌++◌, append_assoc}
use mathlib.Core.Logic.{◌⊎◌, inl, inr, ◌↔◌}
use Prim.Native.Nat.{ℕ, ◌+◌, ◌-◌, ◌<◌, ◌≤◌}
use native.Mathlib.Omega.{arith}
use lib.Dec.{leb}
use lib.ListN.{length, take, drop, length-append, length-drop, take-append-drop}
use lib.Seq.{length-take-le}
use borrow.Author.Tests.{leb-true, leb-false}
use Rattle.lists.specs.Tests.{pick}
use Rattle.lists.proofs.Tests.{both_true}
use Rattle.protocol.specs.Entry.{office_of}
use Rattle.protocol.specs.Beginning.{◌⊑◌}
use Rattle.protocol.specs.Office.{Office, tail, path}
use Rattle.protocol.specs.Folding.{shorn}
use Rattle.protocol_laws.proofs.Beginning.{⊑-append, ⊑-rest, ⊑-length}
use Rattle.eight_ballots.proofs.Eight.{places-fine}
use Rattle.own_entries.specs.Parts.{settled_part, kept_part, pending_part, lost_part, settled_of, pending_of, lost_of, entries_of, Stands}
use Rattle.own_entries.specs.Told.{rest_of, has_room, told_done, told_refused, told_of, told_words}
use Rattle.own_entries.proofs.Common.{common-right, common-grows}
use Rattle.own_entries.proofs.Own.{entries-few}
use Rattle.own_entries.proofs.Telling as T
use Rattle.own_entries.proofs.Parts as P
use Rattle.own_entries.proofs.Held.{lost-held}
use Rattle.frame.specs.State.{held_length, held_by, folded_by, own_ballot, goes}
use Rattle.frame.specs.Soundness.{sound_b}
use Rattle.folding.specs.Folding.{fold_of, fold_words}
use Rattle.frame.specs.declared.Record.{Record}
use Rattle.frame.proofs.State.{log-length, tail_at, own-fine}
use Rattle.folding.proofs.Folds.{fold-unsound}
use Rattle.outcome.specs.Outcome.{tail_before, place_in, log_since, path_since, settled_entries, pending_entries, lost_entries, reportable, outcome_is, report_of, report_words}
use Rattle.outcome.specs.Claims.{ThreeParts, Refusals, Called, whole_of, former_after, LostAt, AfterCall}
use Rattle.outcome.specs.declared.Outcome.{Outcome}
use Rattle.outcome.proofs.Facts.{Follows}
use Rattle.outcome.proofs.Answer.{report-unsound, can-report}
use Rattle.outcome.proofs.Moved.{Moved, moved, fold_same}

-- ── of any two records ──
module _ (before after : Record) (words rest : List ℕ) where
  abbrev own : ℕ
  own = before.own

  abbrev t : List ℕ
  t = tail_before before

  abbrev l : List ℕ
  l = log_since before after words

  abbrev p : List ℕ
  p = path_since before after words

  abbrev answer : Outcome
  answer = report_of before after words rest

  -- the three ways that a report ends
  data Way : Type 0 where
    stray : reportable before after words ≡ false → answer ≡ outcome_is (told_refused 1) → report_words before after words rest ≡ rest → Way
    short : reportable before after words ≡ true → length rest < length (rest_of own t l) → answer ≡ outcome_is (told_refused 6) → report_words before after words rest ≡ rest → Way
    done : reportable before after words ≡ true → length (rest_of own t l) ≤ length rest → answer ≡ outcome_is (told_done own t l p)
        → report_words before after words rest ≡ rest_of own t l ++ drop (length (rest_of own t l)) rest → Way

  way : Way
  unfolding report_of report_words told_of told_words has_room pick
  way = go (reportable before after words) refl (leb (length (rest_of own t l)) (length rest)) refl
    where
      go : (b : Bool) → reportable before after words ≡ b → (h : Bool) → leb (length (rest_of own t l)) (length rest) ≡ h → Way
      go false e h q = stray e (rw e) (rw e)
      go true e false q = short e (leb-false _ _ q) (rw (e, q)) (rw (e, q))
      go true e true q = done e (leb-true _ _ q) (rw (e, q)) (rw (e, q))

  low : l ⊑ p
  low = P.drop-⊑ (place_in before after) (held_by after words).log (path (held_by after words) own) (⊑-append (held_by after words).log (tail (held_by after words) own))

  rest-long : length (rest_of own t l) ≡ length (pending_entries before after words) + length (lost_entries before after words)
  rest-long = ap length (T.rest-parts t l p low own) ∙ length-append (pending_entries before after words) (lost_entries before after words)

  pub three-parts : answer.number ≡ 0 → ThreeParts before after words rest
  three-parts z = go way
    where
      go : Way → ThreeParts before after words rest
      go (stray e q w) = absurd (omega (arith, z, ap (λ (x : Outcome). x.number) q))
      go (short e h q w) = absurd (omega (arith, z, ap (λ (x : Outcome). x.number) q))
      go (done e h q w) = record {
        parts = T.own-parts t l p low own;
        settled = ap (λ (x : Outcome). x.settled) q;
        pending = ap (λ (x : Outcome). x.pending) q;
        lost = ap (λ (x : Outcome). x.lost) q;
        sum = ap (λ (x : Outcome). x.settled + (x.pending + x.lost)) q
            ∙ sym (ap length (T.own-parts t l p low own) ∙ length-append (settled_entries before after words) (pending_entries before after words ++ lost_entries before after words)
            ∙ ap (λ (x : ℕ). length (settled_entries before after words) + x) (length-append (pending_entries before after words) (lost_entries before after words)));
        written = w ∙ ap₂ (λ (x : List ℕ) (j : ℕ). x ++ drop j rest) (T.rest-parts t l p low own) (rest-long ∙ sym (ap (λ (x : Outcome). x.pending + x.lost) q))
            ∙ append_assoc (pending_entries before after words) (lost_entries before after words) (drop (answer.pending + answer.lost) rest);
        in-log = common-right t l;
        in_path = subst (λ (x : List ℕ). x ⊑ p) (sym (⊑-rest (settled_part t l) (kept_part t p) (common-grows t l p low))) (common-right t p);
      }

  pub refusals : Refusals before after words rest
  refusals = go way
    where
      number : {x : Outcome} → answer ≡ x → answer.number ≡ x.number
      number q = ap (λ (x : Outcome). x.number) q

      go : Way → Refusals before after words rest
      go (stray e q w) = record {
        complete = inr (inl (number q));
        one = (λ _. e, λ _. number q);
        six = (λ n. absurd (omega (arith, n, number q)), λ c. absurd (true≢false (sym c.0 ∙ e)));
        zeros = λ _. (ap (λ (x : Outcome). x.settled) q, (ap (λ (x : Outcome). x.pending) q, ap (λ (x : Outcome). x.lost) q));
        leaves = λ _. w;
      }
      go (short e h q w) = record {
        complete = inr (inr (number q));
        one = (λ n. absurd (omega (arith, n, number q)), λ f. absurd (true≢false (sym e ∙ f)));
        six = (λ _. (e, omega (arith, h, rest-long)), λ _. number q);
        zeros = λ _. (ap (λ (x : Outcome). x.settled) q, (ap (λ (x : Outcome). x.pending) q, ap (λ (x : Outcome). x.lost) q));
        leaves = λ _. w;
      }
      go (done e h q w) = record {
        complete = inl (number q);
        one = (λ n. absurd (omega (arith, n, number q)), λ f. absurd (true≢false (sym e ∙ f)));
        six = (λ n. absurd (omega (arith, n, number q)), λ c. absurd (omega (arith, c.1, h, rest-long)));
        zeros = λ z. absurd (z (number q));
        leaves = λ z. absurd (z (number q));
      }

  -- a count of the entries of a part is 0 where the part is empty, and where the call is refused
  none_of : (count : Outcome → ℕ) (part : List ℕ) → ((k : ℕ) → count (outcome_is (told_refused k)) ≡ 0)
      → count (outcome_is (told_done own t l p)) ≡ length (entries_of own part) → part ≡ [] → count answer ≡ 0
  unfolding entries_of
  none_of count part zero counted n = go way
    where
      go : Way → count answer ≡ 0
      go (stray e q w) = ap count q ∙ zero 1
      go (short e h q w) = ap count q ∙ zero 6
      go (done e h q w) = ap count q ∙ counted ∙ ap (λ (x : List ℕ). length (entries_of own x)) n

  none-pending : pending_part t l p ≡ [] → answer.pending ≡ 0
  none-pending = none_of (λ (x : Outcome). x.pending) (pending_part t l p) (λ k. refl) refl

  none-lost : lost_part t p ≡ [] → answer.lost ≡ 0
  none-lost = none_of (λ (x : Outcome). x.lost) (lost_part t p) (λ k. refl) refl

  none-settled : settled_part t l ≡ [] → answer.settled ≡ 0
  none-settled = none_of (λ (x : Outcome). x.settled) (settled_part t l) (λ k. refl) refl

  has-room : reportable before after words ≡ true → length (rest_of own t l) ≤ length rest → answer.number ≡ 0
  has-room r h = go way
    where
      go : Way → answer.number ≡ 0
      go (stray e q w) = absurd (true≢false (sym r ∙ e))
      go (short e s q w) = absurd (omega (arith, s, h))
      go (done e s q w) = ap (λ (x : Outcome). x.number) q

-- ── after a call ──
module _ (r : Record) (words : List ℕ) (r' : Record) (words' : List ℕ) (M : Moved r words r' words') where
  -- without what the call dropped, and after it
  abbrev o : Office
  o = shorn M.gone (held_by r words)

  abbrev o' : Office
  o' = held_by r' words'

  log-long : length o.log + M.gone ≡ held_length r
  log-long = omega (arith, length-drop M.gone (held_by r words).log, log-length r words M.was, M.held)

  place : length o.log ≡ place_in r r'
  place = omega (arith, log-long, M.dropped, M.was.within)

  own-tail : tail o r.own ≡ tail_before r
  own-tail = tail_at r words r.own

  pub settled_is : settled_of r.own o o' ≡ settled_part (tail_before r) (log_since r r' words')
  settled_is = λ i. settled_part (own-tail i) (drop (place i) o'.log)

  pub pending-is : pending_of r.own o o' ≡ pending_part (tail_before r) (log_since r r' words') (path_since r r' words')
  pending-is = λ i. pending_part (own-tail i) (drop (place i) o'.log) (drop (place i) (path o' r.own))

  pub lost-is : lost_of r.own o o' ≡ lost_part (tail_before r) (path_since r r' words')
  lost-is = λ i. lost_part (own-tail i) (drop (place i) (path o' r.own))

  follow : Follows r r'
  follow = record {
    offices = M.offices;
    own = M.own;
    weights = M.weights;
    longer = omega (arith, ⊑-length o.log o'.log M.moves.0, log-long, log-length r' words' M.is, M.dropped, M.was.within, M.is.within);
    was_settled = omega (arith, M.dropped, M.held, M.was.within);
    within = M.was.within;
    most = M.was.most;
    fine = places-fine r.n (held_length r) r.ballots M.was.eight ∙ both_true _ _ M.was.fine M.was.rest;
  }

  can : reportable r r' words' ≡ true
  can = can-report r r' words' M.is follow

  few : length (rest_of r.own (tail_before r) (log_since r r' words')) ≤ 32
  few =
      let b = own-fine r words M.was (own_ballot r) refl in
      let s = settled_part (tail_before r) (log_since r r' words') in
      omega (
        arith,
        entries-few r.own (drop (length s) (tail_before r)),
        length-drop (length s) (tail_before r),
        length-take-le (own_ballot r).len (own_ballot r).cells (omega (arith, b.len, b.cells)),
        b.len,
      )

  either : (rest : List ℕ) → ((report_of r r' words' rest).pending ≡ 0) ⊎ ((report_of r r' words' rest).lost ≡ 0)
  either rest = go (P.all-or-none r.own o o' M.moves)
    where
      go : (pending_of r.own o o' ≡ []) ⊎ (lost_of r.own o o' ≡ []) → ((report_of r r' words' rest).pending ≡ 0) ⊎ ((report_of r r' words' rest).lost ≡ 0)
      go (inl e) = inl (none-pending r r' words' rest (sym pending-is ∙ e))
      go (inr e) = inr (none-lost r r' words' rest (sym lost-is ∙ e))

  -- ── on whole logs, whatever was dropped before ──
  module _ (former : List ℕ) where
    abbrev dropped : List ℕ
    dropped = former_after former r words r' words'

    gone-is : goes r words (folded_by r' words') ≡ take M.gone (held_by r words).log
    gone-is = let d : r'.kept.dropped - r.kept.dropped ≡ M.gone = omega (arith, M.dropped) in ap (λ (j : ℕ). take j (held_by r words).log) d

    -- what stood before is what is dropped now, and the rest
    whole-log : dropped ++ o.log ≡ former ++ (held_by r words).log
    whole-log = append_assoc former (goes r words (folded_by r' words')) o.log
        ∙ ap (λ (x : List ℕ). former ++ x) (ap (λ (x : List ℕ). x ++ o.log) gone-is ∙ take-append-drop M.gone (held_by r words).log)

    dropped-long : length dropped ≡ length former + M.gone
    dropped-long = length-append former (goes r words (folded_by r' words')) ∙ ap (λ (x : ℕ). length former + x) (ap length gone-is
        ∙ length-take-le M.gone (held_by r words).log (omega (arith, M.held, log-length r words M.was)))

    grown : (whole_of former r words).log ⊑ (whole_of dropped r' words').log
    grown = subst (λ (x : List ℕ). x ⊑ (dropped ++ o'.log)) whole-log (P.front-⊑ dropped o.log o'.log M.moves.0)

    lost-here : entries_of r.own (lost_of r.own (whole_of former r words) (whole_of dropped r' words')) ≡ lost_entries r r' words'
    lost-here =
        let far : length former + length (held_by r words).log - length dropped ≡ place_in r r' = omega (arith, dropped-long, log-length r words M.was, log-long, place) in
        ap (entries_of r.own) (lost-held r.own former dropped (held_by r words) o' (omega (arith, dropped-long, M.held, log-length r words M.was))
        ∙ λ i. lost_part (own-tail i) (drop (far i) (path o' r.own)))

    told : (e : ℕ) → Stands (lost_entries r r' words') e ↔ ((office_of e ≡ r.own) × LostAt former r words r' words' e)
    told e = (
      λ s. let x = P.lost-loses r.own (whole_of former r words) (whole_of dropped r' words') grown e (subst (λ (z : List ℕ). Stands z e) (sym lost-here) s) in (x.0, (x.1.0, x.1.2)),
      λ x. subst (λ (z : List ℕ). Stands z e) lost-here (P.loses-told r.own (whole_of former r words) (whole_of dropped r' words') grown x.1.0 e x.0 x.1.1),
    )

pub after_call : (r : Record) (words : List ℕ) (r' : Record) (words' : List ℕ) → sound_b r words ≡ true → Called r words r' words' → (rest : List ℕ) → AfterCall r words r' words' rest
after_call r words r' words' e c rest =
    let M = moved r words r' words' e c in
    record {
      accepted = can r words r' words' M;
      done = λ h. has-room r r' words' rest (can r words r' words' M) (omega (arith, h, few r words r' words' M));
      all-or-none = either r words r' words' M rest;
      told-lost = told r words r' words' M;
    }

pub fold-loses-nothing : (r : Record) (words rest : List ℕ) → let a = report_of r (fold_of r words).«record» (fold_words r words) rest in (a.settled ≡ 0) × (a.lost ≡ 0)
fold-loses-nothing r words rest = go (sound_b r words) refl
  where
    r' : Record
    r' = (fold_of r words).«record»

    words' : List ℕ
    words' = fold_words r words

    go : (b : Bool) → sound_b r words ≡ b → ((report_of r r' words' rest).settled ≡ 0) × ((report_of r r' words' rest).lost ≡ 0)
    go false e =
        let u = fold-unsound r words e in
        let q : sound_b r' words' ≡ false = ap₂ sound_b (sym (ap (λ x. x.«record») u.0)) (sym u.1) ∙ e in
        let a = (report-unsound r r' words' q rest).0 in
        (sym (ap (λ (x : Outcome). x.settled) a), sym (ap (λ (x : Outcome). x.lost) a))
    go true e =
        let M = (fold_same r words e).0 in
        let s = (fold_same r words e).1 in
        let k = shorn M.gone (held_by r words) in
        let u = P.unchanged r.own k in (
          none-settled r r' words' rest (sym (settled_is r words r' words' M) ∙ ap (settled_of r.own k) s ∙ u.0),
          none-lost r r' words' rest (sym (lost-is r words r' words' M) ∙ ap (lost_of r.own k) s ∙ u.1),
        )
