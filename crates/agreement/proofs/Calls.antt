-- What each call of the list may be refused with, and what the offices keep. Assumes nothing.
use mathlib.Core.Path.{◌≡◌, refl, sym, ap, ap₂, subst, ◌∙◌}
use mathlib.Core.Bool.{true}
use mathlib.Core.List.{List}
use Rattle.std.specs.Prelude.{Option, None, Some}
use mathlib.Core.Logic.{◌⊎◌, inl, inr}
use Prim.Native.Nat.{ℕ, ◌+◌, ◌<◌}
use native.Mathlib.Omega.{arith}
use lib.Dec.{eqb}
use lib.ListN.{length, drop}
use borrow.Author.Tests.{eqb-true}
use Rattle.lists.specs.Tests.{pick, all_b}
use Rattle.lists.proofs.Tests.{pick-cases}
use Rattle.protocol.specs.Beginning.{◌⊑◌}
use Rattle.protocol.specs.Counts.{no_counts, counts_after}
use Rattle.protocol.specs.Elect.{with_elect}
use Rattle.protocol.specs.Entry.{value}
use Rattle.protocol.specs.Folding.{refuse_folded_take}
use Rattle.protocol.specs.Issue.{with_issue}
use Rattle.protocol.specs.Limits.{is_weight, total}
use Rattle.protocol.specs.Moves.{weights_after}
use Rattle.protocol.specs.Office.{Message, votes}
use Rattle.protocol.specs.Take.{with_take}
use Rattle.protocol.specs.SettledRule.{rule_from, by_settled}
use Rattle.protocol.specs.Vote.{Rule}
use Rattle.protocol_laws.proofs.Counts.{counts-append}
use Rattle.protocol_laws.proofs.Issue.{issue-never}
use Rattle.protocol_laws.proofs.Kept.{kept-suffices}
use Rattle.protocol_laws.proofs.Moves.{weights-total, weights-most, weights-zero}
use Rattle.protocol_laws.proofs.Folding as Folding
use Rattle.protocol_laws.proofs.Folding.{take_found}
use Rattle.protocol.proofs.FoldedWorld as F
use Rattle.one_order.proofs.FoldedSound as S
use Rattle.kept.specs.declared.Kept.{Kept}
use Rattle.summary.specs.Summary.{start_with, summary_after}
use Rattle.summary.specs.declared.Summary.{Summary}
use Rattle.summary.proofs.Laws.{summary-append}
use Rattle.issuing.specs.Issuing.{issue_of}
use Rattle.sending.specs.Sending.{send_of}
use Rattle.taking.specs.Taking.{take_of}
use Rattle.frame.specs.Electing.{winner_of}
use Rattle.folding.specs.Folding.{fold_of}
use Rattle.frame.specs.State.{held_by, folded_by}
use Rattle.frame.proofs.Sound.{sound-true}
use Rattle.agreement.specs.World.{
  Replica,
  Posted,
  World,
  Call,
  issue,
  send,
  take,
  elect,
  fold,
  replica_at,
  message_at,
  on_some,
  number,
  put,
  issued,
  taken,
  elected,
  folded,
  post,
  posted,
  step,
  after,
}
use Rattle.agreement.specs.Demand.{Founded, says}
use Rattle.agreement.specs.Calls as Claims
use Rattle.agreement.specs.Calls.{carries}
use Rattle.agreement.proofs.Places.{set_same}
use Rattle.agreement.proofs.View.{effect_in, desk_of, sent_of, shape, send_done, SoundReplica, SoundWorld, carried, shape-sent, shape_at}
use Rattle.agreement.proofs.Issued.{issue-number, issue-moves}
use Rattle.agreement.proofs.Taken.{take-number, take-moves}
use Rattle.agreement.proofs.Elected.{elect-moves}
use Rattle.agreement.proofs.Folded.{fold-count, fold-moves}
use Rattle.agreement.proofs.Follows.{both-after}
use Rattle.agreement.proofs.Numbers.{elects, folds, sends, takes, takes-other}
use Rattle.agreement.proofs.Demand.{kept-is}

-- ── one call ──
module _ (n : ℕ) (ws : List ℕ) (w : World) (s : SoundWorld n ws w) where
  -- a replica put back where it stood
  put_same : (k : ℕ) (d d' : Replica) → replica_at w k ≡ Some d → d' ≡ d → put w k d' ≡ w
  put_same k d d' e q = ap (put w k) q ∙ ap (λ (l : List Replica). record { replicas = l; sent = w.sent }) (set_same w.replicas k d e)

  refused : (c : Call) → (number w c ≡ 0 → ⊥) → step w c ≡ w
  unfolding number step
  refused (issue k line code) h = go (replica_at w k) refl h
    where
      go : (x : Option Replica) → replica_at w k ≡ x → (on_some x 0 (λ d. (issue_of d.held d.words line code).number) ≡ 0 → ⊥)
          → on_some x w (λ d. put w k (issued d line code)) ≡ w
      go None e h = refl
      go (Some d) e h =
          let m = s.each k d e in
          put_same k d (issued d line code) e ((issue-moves n ws k d m line code).still (λ z. h (issue-number n ws k d m line code ∙ z)))
  refused (send k out) h = go (replica_at w k) refl h
    where
      go : (x : Option Replica) → replica_at w k ≡ x → (on_some x 0 (λ d. (send_of d.held d.words out).number) ≡ 0 → ⊥)
          → on_some x w (λ d. pick (send_done d out) (post w (posted d out)) w) ≡ w
      go None e h = refl
      go (Some d) e h =
          pick-cases (λ (x : World). x ≡ w) (send_done d out) (post w (posted d out)) w
          (λ q. absurd (h (eqb-true (send_of d.held d.words out).number 0 q))) (λ _. refl)
  refused (take k m) h = go (replica_at w k) refl (message_at w m) refl h
    where
      go : (x : Option Replica) → replica_at w k ≡ x → (y : Option Posted) → message_at w m ≡ y
          → (on_some x 0 (λ d. on_some y 0 (λ b. (take_of d.held d.words b.bytes).number)) ≡ 0 → ⊥)
          → on_some x w (λ d. on_some y w (λ b. put w k (taken d b.bytes))) ≡ w
      go None e y f h = refl
      go (Some d) e None f h = refl
      go (Some d) e (Some b) f h =
          let x = s.readable m b f in
          put_same k d (taken d b.bytes) e ((take-moves n ws k d (s.each k d e) b.bytes x).still (λ z. h (take-number n ws k d (s.each k d e) b.bytes x ∙ z)))
  refused (elect k) h = absurd (h (elects n ws w s k))
  refused (fold k) h = absurd (h (folds n ws w s k))

  module _ (pos : 0 < n) (t : S.Sound ws n (shape w)) where
    never-unsound : (c : Call) → number w c ≡ 1 → ⊥
    unfolding number
    never-unsound (issue k line code) h = go (replica_at w k) refl h
      where
        go : (x : Option Replica) → replica_at w k ≡ x → on_some x 0 (λ d. (issue_of d.held d.words line code).number) ≡ 1 → ⊥
        go None e h = omega arith
        go (Some d) e h = (issue-never n k line code (folded_by d.held d.words)).no-1 (sym (issue-number n ws k d (s.each k d e) line code) ∙ h)
    never-unsound (send k out) h = go (sends n ws w s k out)
      where
        go : (number w (send k out) ≡ 0) ⊎ (number w (send k out) ≡ 6) → ⊥
        go (inl q) = omega arith
        go (inr q) = omega arith
    never-unsound (take k m) h = go (takes n ws pos w s t k m)
      where
        go : (number w (take k m) ≡ 0) ⊎ ((number w (take k m) ≡ 9) ⊎ (number w (take k m) ≡ 17)) → ⊥
        go (inl q) = omega arith
        go (inr (inl q)) = omega arith
        go (inr (inr q)) = omega arith
    never-unsound (elect k) h = omega (arith, elects n ws w s k)
    never-unsound (fold k) h = omega (arith, folds n ws w s k)

-- ── what the settled log has done, dropped entries included ──
module _ (n : ℕ) (ws : List ℕ) (pos : 0 < n) (w : World) (s : SoundWorld n ws w) (t : S.Sound ws n (shape w)) (k : ℕ) (d : Replica) (e : replica_at w k ≡ Some d) where
  m : SoundReplica n ws k d
  m = s.each k d e

  abbrev undropped : List ℕ
  undropped = (held_by d.held d.words).log

  done : d.held.summary ≡ summary_after (start_with ws) (says d).log
  done =
      m.sound.done ∙ ap (λ (x : Kept). summary_after x.summary undropped) (kept-is n ws pos w s t k d e)
      ∙ sym (summary-append (start_with ws) d.former undropped)

  present : d.held.summary.present ≡ weights_after ws (says d).log
  present = ap (λ (x : Summary). x.present) done

  -- by what is kept, and the undropped entries
  present-fine : (all_b is_weight d.held.summary.present ≡ true) × (all_b (eqb 0) (drop n d.held.summary.present) ≡ true)
  unfolding m
  present-fine =
      let S = m.sound in
      let now : d.held.summary.present ≡ weights_after d.held.kept.summary.present undropped = ap (λ (x : Summary). x.present) S.done in
      rw (now, ← m.count) (
        weights-most d.held.kept.summary.present undropped S.kept.weights,
        weights-zero d.held.n d.held.kept.summary.present undropped S.entries S.kept.rest,
      )

  counts : counts_after d.held.kept.counts undropped ≡ counts_after (no_counts 8) (says d).log
  counts = ap (λ (x : Kept). counts_after x.counts undropped) (kept-is n ws pos w s t k d e) ∙ sym (counts-append (no_counts 8) d.former undropped)

  winner : winner_of d.held d.words ≡ by_settled ws (says d).log (votes (says d))
  winner =
      ap (λ (x : Kept). rule_from x.summary.present x.counts undropped (votes (says d))) (kept-is n ws pos w s t k d e)
      ∙ ap (λ (rule : Rule). rule undropped (votes (says d))) (kept-suffices ws d.former)

  -- ── each call on whole logs ──
  issue-says : (line code : ℕ) → number w (issue k line code) ≡ 0 → says (issued d line code) ≡ with_issue k (value k line code) (says d)
  unfolding number
  issue-says line code h =
      let there = ap (λ (x : Option Replica). on_some x 0 (λ r. (issue_of r.held r.words line code).number)) e in
      ap F.whole_desk ((issue-moves n ws k d m line code).done (sym (issue-number n ws k d m line code) ∙ sym there ∙ h)) ∙ Folding.issue-desk k (value k line code) (desk_of d)

  take-says : (i : ℕ) (b : Posted) → message_at w i ≡ Some b → number w (take k i) ≡ 0 → says (taken d b.bytes) ≡ with_take k (carries b) (says d)
  unfolding number
  take-says i b f h =
      let x = s.readable i b f in
      let there = ap₂ (λ (x : Option Replica) (y : Option Posted). on_some x 0 (λ r. on_some y 0 (λ c. (take_of r.held r.words c.bytes).number))) e f in
      let zero : refuse_folded_take k (sent_of b).message (desk_of d).now ≡ 0 = sym (take-number n ws k d m b.bytes x) ∙ sym there ∙ h in
      let found = take_found k (sent_of b).message (desk_of d).now zero in
      let sent = shape-sent w i b f in
      let at = shape_at w k d e in
      ap F.whole_desk ((take-moves n ws k d m b.bytes x).done zero)
      ∙ Folding.take-desk (desk_of d) (sent_of b) (S.known ws n pos (shape w) t).order (subst (λ (y : F.Desk). y.now.dropped ≡ length y.former) at (t.desks k).counted)
      (t.sent i (sent_of b) sent).counted (subst (λ (y : F.Desk). (F.whole_desk y).log ⊑ (S.known ws n pos (shape w) t).order) at (S.desk-in ws n pos (shape w) t k))
      (S.message-in ws n pos (shape w) t i (sent_of b) sent) found.reaches found.lasts k
      ∙ ap (λ (y : Message). with_take k y (says d)) (carried b)

  elect-says : says (elected d) ≡ with_elect (by_settled ws) (says d)
  elect-says = ap F.whole_desk ((elect-moves n ws k d m).done refl) ∙ Folding.elect-desk ws (desk_of d) (ap effect_in (kept-is n ws pos w s t k d e))

  fold-says : says (folded d) ≡ says d
  fold-says = ap F.whole_desk ((fold-moves n ws k d m).done refl) ∙ Folding.fold-desk n k (desk_of d)

  fold-answers : length (folded d).former ≡ length d.former + (fold_of d.held d.words).count
  fold-answers =
      ap (λ (x : F.Desk). length x.former) ((fold-moves n ws k d m).done refl) ∙ Folding.fold-answers n k (desk_of d)
      ∙ ap (λ (c : ℕ). length d.former + c) (sym (fold-count n ws k d m))

-- of every list of calls
pub always : (n : ℕ) (weights : List ℕ) (start : World) → Founded n weights start → (cs : List Call) → Claims.Always n weights start cs
always n ws start f cs =
    let w = after start cs in
    let pos = f.any in
    let b = both-after n ws start f cs in
    let s : SoundWorld n ws w = b.here in
    let t : S.Sound ws n (shape w) = b.there in
    record {
      offices = s.offices;
      own = λ k d e. (s.each k d e).own;
      alike = λ k d e. ((s.each k d e).count, (s.each k d e).weights);
      sound = λ k d e. sound-true d.held d.words (s.each k d e).sound;
      present = present n ws pos w s t;
      total_kept = λ k d e. ap total (present n ws pos w s t k d e) ∙ weights-total ws (says d).log;
      weights-fine = present-fine n ws pos w s t;
      codes = λ k d e. ap (λ (x : Summary). x.codes) (done n ws pos w s t k d e);
      counts = counts n ws pos w s t;
      winner = winner n ws pos w s t;
      equal = λ j k d e q r h. done n ws pos w s t j d q ∙ ap (summary_after (start_with ws)) h ∙ sym (done n ws pos w s t k e r);
      never-unsound = never-unsound n ws w s pos t;
      elects = elects n ws w s;
      folds = folds n ws w s;
      issue-says = λ k line code d e h. issue-says n ws pos w s t k d e line code h;
      take-says = λ k i d b e f h. take-says n ws pos w s t k d e i b f h;
      elect-says = elect-says n ws pos w s t;
      fold-says = fold-says n ws pos w s t;
      fold-answers = fold-answers n ws pos w s t;
      sends = sends n ws w s;
      takes = takes n ws pos w s t;
      takes-other = takes-other n ws pos w s t;
      refused = refused n ws w s;
    }
