-- A message beside an office that has dropped another number of entries: both logs from where both have entries, and take there.
--     droppable, aligned     what the drop and the take at one beginning ask
--     intaken                what they make is the protocol's folded take
--     summary-taken          the summary follows from what is kept and the new log, where it did before
--     dropped-taken          how many entries are dropped then
-- Assumes nothing.
use mathlib.Core.Path.{◌≡◌, refl, sym, ap, ap₂, subst, ◌∙◌}
use mathlib.Core.List.{List, ◌++◌}
use Prim.Native.Nat.{ℕ, ◌+◌, ◌-◌, ◌*◌, ◌≤◌}
use native.Mathlib.Omega.{arith}
use lib.ListN.{length, take, drop, length-append, length-drop, take-append-drop}
use lib.Seq.{length-take-le, take_at, take-take, drop-drop, drop-append-add}
use Rattle.lists.proofs.Walk.{rest_part}
use Rattle.numbers.specs.Numbers.{run_at}
use Rattle.numbers.proofs.Runs.{run_at-length}
use Rattle.spelling.specs.Reading.{record_at}
use Rattle.readings.specs.declared.Reading.{Reading}
use Rattle.numbers.proofs.Runs.{run-rest}
use Rattle.protocol.specs.Beginning.{comparable}
use Rattle.protocol.specs.Office.{Office}
use Rattle.protocol.specs.Take.{with_take}
use Rattle.protocol.specs.Folding.{shorn}
use Rattle.protocol_laws.proofs.Beginning.{⊑-rest}
use Rattle.protocol_laws.proofs.Limits.{take-grows}
use Rattle.ballots.specs.Ballots.{words_with}
use Rattle.summary.specs.Summary.{summary_after}
use Rattle.summary.specs.declared.Summary.{Summary}
use Rattle.summary.proofs.Laws.{summary-append}
use Rattle.elections.specs.declared.State.{State}
use Rattle.kept.specs.Kept.{kept_after, Roomy}
use Rattle.kept.specs.declared.Kept.{Kept}
use Rattle.intake.specs.Intake.{folded_in, taken_in, merged_of, without, intaken_of, aligned_take, Aligned, Ready}
use Rattle.acceptance.specs.Acceptance.{packet_in}
use Rattle.intake.specs.declared.Intaken.{Intaken}

-- a log's words with a log in front, under a log that is no shorter
over : (front log words : List ℕ) → length front ≤ length log → words_with log (words_with front words) ≡ words_with log words
over front log words h = ap (λ (l : List ℕ). log ++ l) behind
  where
    more : ℕ
    more = length log - length front

    sum : length log ≡ length front + more
    sum = omega arith

    behind : drop (length log) (words_with front words) ≡ drop (length log) words
    behind =
        ap (λ (k : ℕ). drop k (words_with front words)) sum
        ∙ drop-append-add front (drop (length front) words) more
        ∙ drop-drop more (length front) words
        ∙ ap (λ (k : ℕ). drop k words) (sym sum)

module _ (words : List ℕ) (s : State) (kept : Kept) (own : ℕ) (rest : List ℕ) (m : Reading) (R : Ready words s kept rest m) where
  abbrev own-log : List ℕ
  own-log = take s.held words

  abbrev message-log : List ℕ
  message-log = run_at 6 record_at m.held rest

  own-long : length own-log ≡ s.held
  own-long = length-take-le s.held words R.held-within

  -- take where the first i entries of the own log are dropped, and the first j of the message's passed over
  abbrev taken_by : ℕ → ℕ → Office
  taken_by i j = with_take own (record { sender = m.sender; state = shorn j (packet_in rest m).state }) (shorn i (folded_in words s kept).held)

  abbrev made_by : ℕ → ℕ → Intaken
  made_by i j = record { state = merged_of (without i s) (taken_by i j); kept = kept_after kept (take i own-log) }

  abbrev Made : Intaken → List ℕ → ℕ → ℕ → Type 0
  Made r ws i j = (r ≡ made_by i j) × (ws ≡ words_with (taken_by i j).log words)

  module _ (a b : ℕ) (ea : a ≡ m.dropped - kept.dropped) (eb : b ≡ kept.dropped - m.dropped) where
    within : (a ≤ s.held) × (b ≤ m.held)
    within = (omega (arith, R.begins-within), omega (arith, R.ends-past))

    -- what the drop asks
    pub droppable : Roomy kept a × ((a ≤ s.held) × (s.held ≤ length words))
    droppable = (subst (Roomy kept) (sym ea) R.room, (within.0, R.held-within))

    abbrev front : List ℕ
    front = drop a own-log

    abbrev moved : List ℕ
    moved = words_with front words

    abbrev theirs : List ℕ
    theirs = drop b message-log

    front_long : length front ≡ s.held - a
    front_long = length-drop a own-log ∙ ap (λ (k : ℕ). k - a) own-long

    theirs-long : length theirs ≡ m.held - b
    theirs-long = length-drop b message-log ∙ ap (λ (k : ℕ). k - b) (run_at-length 6 record_at m.held rest)

    moved-long : length moved ≡ length words
    moved-long = length-append front (drop (length front) words) ∙ rw (length-drop (length front) words) (omega (arith, front_long, R.held-within))

    moved_front : take (s.held - a) moved ≡ front
    moved_front = take_at front (drop (length front) words) (s.held - a) front_long

    -- the message's records that are lent
    abbrev lent : List ℕ
    lent = take (length rest - 6 * b) (drop (6 * b) rest)

    lent-log : run_at 6 record_at (m.held - b) lent ≡ theirs
    lent-log = ap (run_at 6 record_at (m.held - b)) (rest_part (length rest) (6 * b) rest refl) ∙ sym (run-rest 6 record_at m.held b rest within.1)

    lent-long : 6 * (m.held - b) ≤ length lent
    lent-long = rw (rest_part (length rest) (6 * b) rest refl, length-drop) (omega (arith, R.records-within))

    -- the new log begins with what is left of the own one
    grown : front ++ drop (s.held - a) (taken_by a b).log ≡ (taken_by a b).log
    grown =
        ap (λ (k : ℕ). front ++ drop k (taken_by a b).log) (sym front_long)
        ∙ ⊑-rest front (taken_by a b).log (take-grows own (record { sender = m.sender; state = shorn b (packet_in rest m).state }) (shorn a (folded_in words s kept).held))

    no-shorter : length front ≤ length (taken_by a b).log
    no-shorter = omega (arith, ap length grown, length-append front (drop (s.held - a) (taken_by a b).log))

    followed : s.summary ≡ summary_after kept.summary own-log
        → summary_after s.summary (drop (s.held - a) (taken_by a b).log) ≡ summary_after (summary_after kept.summary (take a own-log)) (taken_by a b).log
    followed e =
        let more : List ℕ = drop (s.held - a) (taken_by a b).log in
        let first : Summary = summary_after kept.summary (take a own-log) in
        ap (λ (x : Summary). summary_after x more) (e ∙ ap (summary_after kept.summary) (sym (take-append-drop a own-log)) ∙ summary-append kept.summary (take a own-log) front)
        ∙ sym (summary-append first front more)
        ∙ ap (summary_after first) grown

    -- the words after the drop, and the message's log
    module _ (ws : List ℕ) (ew : ws ≡ moved) where
      pub aligned : Aligned ws (without a s) (run_at 6 record_at (m.held - b) lent) m.sender m.ballots × (6 * (m.held - b) ≤ length lent)
      aligned = (
        record {
          sender-below = R.sender-below;
          held-within = omega (arith, ap length ew, moved-long, R.held-within);
          theirs-within = omega (arith, ap length ew, moved-long, ap length lent-log, theirs-long, R.theirs-within);
          compared =
              ap₂ comparable (ap (take (s.held - a)) ew ∙ moved_front) lent-log
              ∙ ap₂ (λ (i j : ℕ). comparable (drop i own-log) (drop j message-log)) ea eb
              ∙ R.compared;
          tails = R.held;
          eight = R.theirs-eight;
          offers-tails = R.theirs-held;
        },
        lent-long,
      )

      there : aligned_take ws (without a s) own (run_at 6 record_at (m.held - b) lent) m.sender m.ballots ≡ taken_by a b
      there =
          ap₂ (λ (l t : List ℕ). with_take own (record { sender = m.sender; state = record { log = t; tails = (packet_in rest m).state.tails } })
          (record { log = l; tails = (folded_in words s kept).held.tails }))
          (ap (take (s.held - a)) ew ∙ moved_front) lent-log

      -- what the code makes of it
      pub intaken : (x : Kept) → x ≡ kept_after kept (take a words) → (r : State) (out : List ℕ)
          → r ≡ merged_of (without a s) (aligned_take ws (without a s) own (run_at 6 record_at (m.held - b) lent) m.sender m.ballots)
          → out ≡ words_with (aligned_take ws (without a s) own (run_at 6 record_at (m.held - b) lent) m.sender m.ballots).log ws
          → Made (record { state = r; kept = x }) out (m.dropped - kept.dropped) (kept.dropped - m.dropped)
      intaken x ex r out er eo =
          let kept-is : x ≡ kept_after kept (take a own-log) = ex ∙ ap (kept_after kept) (sym (take-take a s.held words within.0)) in
          let state-is : r ≡ merged_of (without a s) (taken_by a b) = er ∙ ap (merged_of (without a s)) there in
          let written : out ≡ words_with (taken_by a b).log words =
          eo ∙ ap₂ (λ (o : Office) (l : List ℕ). words_with o.log l) there ew ∙ over front (taken_by a b).log words no-shorter in (
            (λ i. record { state = state-is i; kept = kept-is i }) ∙ ap₂ made_by ea eb,
            written ∙ ap₂ (λ (i j : ℕ). words_with (taken_by i j).log words) ea eb,
          )

  -- ── what the crate above asks ──
  -- the summary follows from what is kept and the new log, where it did before
  pub summary-taken : s.summary ≡ summary_after kept.summary (take s.held words)
      → (intaken_of words s kept own rest m).state.summary ≡ summary_after (intaken_of words s kept own rest m).kept.summary (taken_in words s kept own rest m).log
  summary-taken = followed (m.dropped - kept.dropped) (kept.dropped - m.dropped) refl refl

  -- the dropped count is the greater of the two
  pub dropped-taken : (intaken_of words s kept own rest m).kept.dropped ≡ kept.dropped + (m.dropped - kept.dropped)
  dropped-taken = ap (λ (k : ℕ). kept.dropped + k) (length-take-le (m.dropped - kept.dropped) own-log (omega (arith, own-long, R.begins-within)))
