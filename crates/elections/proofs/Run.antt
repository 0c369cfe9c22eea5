-- The election step, and the run of steps.
--     winning            a winner is an entry, and the log has room for it
--     step-won, step-nobody      what the step answers and writes
--     rule-voted         the rule's winner has a vote
--     Running            what a run of steps keeps; run-start, run_more, run-last, run_end; run-counts, counts-room of the counts of the settled log
-- Assumes nothing.
use mathlib.Core.Path.{◌≡◌, refl, sym, ap, ap₂, subst₂, ◌∙◌}
use mathlib.Core.Bool.{true}
use mathlib.Core.List.{List, [], ◌∷◌, ◌++◌, map, append_assoc}
use Rattle.std.specs.Prelude.{Option, None, Some}
use Prim.Native.Nat.{ℕ, ◌+◌, ◌<◌, ◌≤◌}
use native.Mathlib.Numerals.{add-one}
use native.Mathlib.Omega.{arith}
use lib.ListN.{length, get_or, take, drop, set, length-append}
use lib.Seq.{set_split, drop-append-add, drop-drop, get_or_at, take-append_seam}
use Rattle.protocol.specs.Limits.{length_limit}
use Rattle.protocol.specs.Entry.{is_entry}
use Rattle.protocol.specs.Counts.{count_of, counted, counts_after, quieter_by, quieter}
use Rattle.protocol.specs.Moves.{weights_after}
use Rattle.protocol.specs.Vote.{winner}
use Rattle.protocol.specs.Office.{Office, votes}
use Rattle.protocol.specs.Elect.{lose, settle, next, with_elect}
use Rattle.protocol_laws.proofs.Counts.{counts-next, counts-most}
use Rattle.protocol_laws.proofs.Vote.{NamesVoted, winner-voted, by_log-voted}
use Rattle.protocol_laws.proofs.Limits as Limits
use Rattle.protocol_laws.proofs.Elect.{elect-none, elect-some}
use Rattle.ballots.specs.Ballots.{tail_of, ballot_of, words_with}
use Rattle.ballots.specs.declared.Ballot.{Ballot}
use Rattle.summary.specs.Summary.{summary_after, summary_next}
use Rattle.summary.specs.declared.Summary.{Summary}
use Rattle.summary.proofs.Laws.{summary-next}
use Rattle.kept.specs.Kept.{rule_behind}
use Rattle.kept.specs.declared.Kept.{Kept}
use Rattle.elections.specs.Elections.{held_in, Steppable, winner_in, settled_by, step_of, step_words}
use Rattle.elections.specs.declared.State.{State}
use Rattle.elections.proofs.Holding.{state_of, Electable, elected_in, log-length, held, held-by, held-fine, words-kept, words-length, electable-of}

-- ── one step ──
-- the office's state after e was settled
abbrev pub stepped : State → List ℕ → ℕ → Office
stepped s words e = settle e (held_in s words)

module _ (n : ℕ) (s : State) (words : List ℕ) (S : Steppable n s words) (counts : List ℕ) (e : ℕ) (w : winner_in counts s words ≡ Some e) where
  -- the winner has a vote
  voted : (k : ℕ) × (votes (held_in s words) k ≡ Some e)
  voted = let x = winner-voted s.summary.present (quieter_by counts) (votes (held_in s words)) e w in (x.0, x.2)

  pub winning : (is_entry n e ≡ true) × (s.held < 1024)
  winning = let x = Limits.first_entry n (held_in s words) (held-fine n s words S) voted.0 e voted.1 in (x.0, omega (arith, x.1, log-length n s words S))

  step-fine : Limits.Fine n (stepped s words e)
  step-fine = Limits.settle-fine n e (held_in s words) (held-fine n s words S) voted.0 voted.1

module _ (counts : List ℕ) (s : State) (words : List ℕ) where
  pub step-won : (e : ℕ) → winner_in counts s words ≡ Some e → (bs : List Ballot) → bs ≡ map ballot_of (map (lose e) (map tail_of s.ballots))
      → (x : Summary) → x ≡ summary_next s.summary e
      → (◌≡◌ {A = State} (record { summary = x; held = s.held + 1; ballots = bs }) (step_of counts s words)) × (set words s.held e ≡ step_words counts s words)
  unfolding step_of step_words
  step-won e w bs q x p = (
    (λ i. record { summary = p i; held = s.held + 1; ballots = q i }) ∙ ap (λ (o : Option ℕ). next o s (settled_by s)) (sym w),
    ap (λ (o : Option ℕ). next o words (set words s.held)) (sym w),
  )

  pub step-nobody : winner_in counts s words ≡ None → (s ≡ step_of counts s words) × (words ≡ step_words counts s words)
  unfolding step_of step_words
  step-nobody w = (ap (λ (o : Option ℕ). next o s (settled_by s)) (sym w), ap (λ (o : Option ℕ). next o words (set words s.held)) (sym w))

-- ── the step as the rule has it ──
pub rule-voted : (kept : Kept) → NamesVoted (rule_behind kept)
rule-voted kept = by_log-voted (weights_after kept.summary.present) (quieter kept.counts)

module _ (n : ℕ) (kept : Kept) (s : State) (words : List ℕ) (E : Electable n kept s words) where
  -- the counts of the settled log, dropped entries included, may grow by one
  pub counts-room : (cs : List ℕ) → cs ≡ counts_after kept.counts (take s.held words) → (k : ℕ) → count_of cs k < 18446744073709551615
  unfolding length_limit
  counts-room cs c k =
      let m = counts-most kept.counts (take s.held words) k in
      rw c (omega (arith, m, log-length n s words E.limits, E.limits.most, E.countable k))

  module _ (cs : List ℕ) (c : cs ≡ counts_after kept.counts (take s.held words)) where
    by-rule : rule_behind kept (held_in s words).log (votes (held_in s words)) ≡ winner_in cs s words
    by-rule = λ j. winner (sym E.done j).present (quieter_by (sym c j)) (votes (held_in s words))

  module _ (e : ℕ) where
    next-length : length (take s.held words ++ e ∷ []) ≡ s.held + 1
    next-length = length-append (take s.held words) (e ∷ []) ∙ ap (λ (k : ℕ). k + 1) (log-length n s words E.limits)

    -- the next state holds the office with e settled
    step-held : settled_by s e ≡ state_of kept (stepped s words e)
    unfolding settle
    step-held = λ i. record { summary = after i; held = sym next-length i; ballots = map ballot_of (map (lose e) (map tail_of s.ballots)) }
      where
        after : summary_next s.summary e ≡ summary_after kept.summary (take s.held words ++ e ∷ [])
        after = ap (λ (y : Summary). summary_next y e) E.done ∙ sym (summary-next kept.summary (take s.held words) e)

    -- and so do the words with e written behind the settled log
    step-words : s.held < 1024 → set words s.held e ≡ words_with (stepped s words e).log words
    unfolding settle
    step-words h =
        set_split words s.held e (omega (arith, E.limits.room)) ∙
        sym (append_assoc (take s.held words) (e ∷ []) (drop (length (take s.held words ++ e ∷ [])) words) ∙
        ap (λ (k : ℕ). take s.held words ++ e ∷ drop k words) (next-length ∙ add-one s.held))

-- by cases of the winner: what a step answers
module _ (s : State) (words : List ℕ) (out : State) (last : List ℕ) where
  abbrev Out : Option ℕ → Type 0
  Out w = out ≡ next w s (settled_by s)

  abbrev Last : Option ℕ → Type 0
  Last w = last ≡ next w words (set words s.held)

  -- a step that leaves the held length had no winner
  no-win : (w : Option ℕ) → Out w → Last w → out.held ≡ s.held → (w ≡ None) × (out ≡ s) × (last ≡ words)
  no-win (Some e) p q h = absurd (omega (arith, h, ap (λ (x : State). x.held) p))
  no-win None p q h = (refl, p, q)

  a-win : (w : Option ℕ) → Out w → Last w → (out.held ≡ s.held → ⊥) → (e : ℕ) × (w ≡ Some e) × (out ≡ settled_by s e) × (last ≡ set words s.held e)
  a-win (Some e) p q h = (e, refl, p, q)
  a-win None p q h = absurd (h (ap (λ (x : State). x.held) p))

-- ── a run of steps ──
-- what it keeps, from the state s₀ with the words words₀
pub record Running (n : ℕ) (kept : Kept) (s₀ : State) (words₀ : List ℕ) (s : State) (words : List ℕ) : Type 0 where
  pub sound : Electable n kept s words
  pub made : s ≡ state_of kept (held_in s words)
  pub same : elected_in kept s₀ words₀ ≡ with_elect (rule_behind kept) (held_in s words)
  pub others : words ≡ words_with (held_in s words).log words₀
  pub long : length words ≡ length words₀

pub run-start : (n : ℕ) (kept : Kept) (s : State) (words : List ℕ) → Electable n kept s words → Running n kept s words s words
run-start n kept s words E = record {
  sound = E;
  made = sym (held n kept s words E);
  same = refl;
  others = sym (words-kept n s words E.limits);
  long = refl;
}

module _ (n : ℕ) (kept : Kept) (s₀ : State) (words₀ : List ℕ) (s : State) (words : List ℕ) (R : Running n kept s₀ words₀ s words) where
  -- what the run settles is kept in front of the words as they were
  others-next : (e : ℕ) → words_with (stepped s words e).log words ≡ words_with (stepped s words e).log words₀
  unfolding settle
  others-next e =
      let g = take s.held words in
      let more : length (g ++ e ∷ []) ≡ length g + 1 = length-append g (e ∷ []) in
      ap (λ (l : List ℕ). (g ++ e ∷ []) ++ l)
      (ap (λ (k : ℕ). drop k words) more ∙ ap (drop (length g + 1)) R.others ∙ drop-append-add g (drop (length g) words₀) 1 ∙ drop-drop 1 (length g) words₀
      ∙ ap (λ (k : ℕ). drop k words₀) (sym more))

  module _ (cs : List ℕ) (c : cs ≡ counts_after kept.counts (take s.held words)) where
    fits : (e : ℕ) → winner_in cs s words ≡ Some e → length (stepped s words e).log ≤ length words
    unfolding settle
    fits e w = let S = R.sound.limits in omega (arith, (winning n s words S cs e w).1, S.room, next-length n kept s words R.sound e)

    won : (e : ℕ) → winner_in cs s words ≡ Some e → Running n kept s₀ words₀ (state_of kept (stepped s words e)) (words_with (stepped s words e).log words)
    won e w =
        let E = R.sound in
        let o = stepped s words e in
        let back = held-by kept o words in
        let S = E.limits in
        record {
          sound = electable-of n kept o words S.few (step-fine n s words S cs e w) S.room E.countable;
          made = ap (state_of kept) (sym back);
          same = R.same ∙ elect-some (rule_behind kept) (rule-voted kept) (held_in s words) e (by-rule n kept s words E cs c ∙ w) ∙ ap (with_elect (rule_behind kept)) (sym back);
          others = others-next e ∙ ap (λ (x : Office). words_with x.log words₀) (sym back);
          long = words-length o.log words (fits e w) ∙ R.long;
        }

    module _ (out : State) (p : out ≡ step_of cs s words) (last : List ℕ) (q : last ≡ step_words cs s words) where
      -- a step that raises the held length settled an entry
      settles : (out.held ≡ s.held → ⊥)
          → (e : ℕ) × (winner_in cs s words ≡ Some e) × (out ≡ state_of kept (stepped s words e)) × (last ≡ words_with (stepped s words e).log words)
      unfolding step_of step_words
      settles h =
          let m = a-win s words out last (winner_in cs s words) p q h in
          let room = (winning n s words R.sound.limits cs m.0 m.1).1 in
          (m.0, m.1, m.2 ∙ step-held n kept s words R.sound m.0, m.3 ∙ step-words n kept s words R.sound m.0 room)

      pub run_more : (out.held ≡ s.held → ⊥) → Running n kept s₀ words₀ out last × (out.held ≡ s.held + 1) × (s.held < 1024)
      unfolding settle
      run_more h =
          let m = settles h in (
            subst₂ (Running n kept s₀ words₀) (sym m.2) (sym m.3) (won m.0 m.1),
            ap (λ (x : State). x.held) m.2 ∙ next-length n kept s words R.sound m.0,
            (winning n s words R.sound.limits cs m.0 m.1).1,
          )

      -- the counts with the entry that was settled are those of the log as it is then
      pub run-counts : (out.held ≡ s.held → ⊥) → (next : List ℕ) → next ≡ counted cs (get_or last s.held 0) → next ≡ counts_after kept.counts (take out.held last)
      unfolding settle
      run-counts h next k =
          let m = settles h in
          let log = take s.held words in
          let e = m.0 in
          let rest = drop (length (log ++ e ∷ [])) words in
          let long : length log ≡ s.held = log-length n s words R.sound.limits in
          let here : get_or last s.held 0 ≡ e = ap (λ (l : List ℕ). get_or l s.held 0) (m.3 ∙ append_assoc log (e ∷ []) rest) ∙ get_or_at log e rest 0 s.held long in
          let all : take out.held last ≡ log ++ e ∷ [] = ap₂ take (ap (λ (x : State). x.held) m.2) m.3 ∙ take-append_seam (log ++ e ∷ []) rest in
          k ∙ ap₂ counted c here ∙ sym (counts-next kept.counts log e) ∙ ap (counts_after kept.counts) (sym all)

      pub run-last : out.held ≡ s.held → (out ≡ s) × (last ≡ words) × (elected_in kept s₀ words₀ ≡ held_in s words)
      unfolding step_of step_words
      run-last h =
          let m = no-win s words out last (winner_in cs s words) p q h in
          (m.1, m.2, R.same ∙ elect-none (rule_behind kept) (held_in s words) (by-rule n kept s words R.sound cs c ∙ m.0))

      pub run_end : out.held ≡ s.held → (out ≡ state_of kept (elected_in kept s₀ words₀)) × (last ≡ words_with (elected_in kept s₀ words₀).log words₀)
      run_end h =
          let m = run-last h in
          let end = sym m.2 in
          (m.0 ∙ R.made ∙ ap (state_of kept) end, m.1 ∙ R.others ∙ ap (λ (x : Office). words_with x.log words₀) end)
