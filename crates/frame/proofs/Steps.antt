-- A run of election steps on a record.
--     next-turn       a turn of the walk over the ballots leaves all but them
--     settled_is      the record with an entry settled
--     step-won, step-nobody           the record after a step
--     Run             what a run keeps, from a sound record with its words, beside the counts of the settled log
--     run-start       it begins with the record itself
--     stepping        each record of it may take a step
--     run_more, run-place, run_room   a step that settles an entry: the run is longer; where the entry stands; it can be counted
--     run_long, run_end               a step that settles none: what elections make
-- Assumes nothing.
use mathlib.Core.Path.{◌≡◌, refl, sym, ap, subst, ◌∙◌}
use mathlib.Core.List.{List, map}
use Rattle.std.specs.Prelude.{None, Some}
use Prim.Native.Nat.{ℕ, ◌+◌, ◌-◌, ◌<◌}
use native.Mathlib.Omega.{arith}
use lib.ListN.{length, get_or, take, set}
use Rattle.protocol.specs.Counts.{count_of, counted, counts_after}
use Rattle.protocol.specs.Elect.{lose}
use Rattle.ballots.specs.Ballots.{tail_of, ballot_of, words_with}
use Rattle.ballots.specs.declared.Ballot.{Ballot}
use Rattle.summary.specs.Summary.{summary_next}
use Rattle.summary.specs.declared.Summary.{Summary}
use Rattle.elections.specs.Elections.{Steppable, winner_in, settled_by, step_of, step_words}
use Rattle.elections.proofs.Holding.{state_of, elected_in}
use Rattle.elections.specs.declared.State.{State}
use Rattle.elections.proofs.Run as E
use Rattle.elections.proofs.Run.{Running}
use Rattle.elections.proofs.Steps.{Settling}
use Rattle.frame.specs.State.{held_length, state_in, with_held, with_state, with_ballots}
use Rattle.frame.specs.Soundness.{Sound}
use Rattle.frame.specs.Stepping.{Stepping, step_in, step_words_in}
use Rattle.frame.specs.declared.Record.{Record}
use Rattle.frame.proofs.State.{longest, electable}

-- the state of a record that was made with it
state-of : (r : Record) (s : State) → state_in (with_state r s) ≡ s
state-of r s = let same : r.kept.dropped + s.held - r.kept.dropped ≡ s.held = omega arith in λ i. record { summary = s.summary; held = same i; ballots = s.ballots }

-- what a turn that makes xs of the ballots leaves of the record
pub next-turn : (r next out : Record) (e : ℕ) (bs : List Ballot) (k : ℕ) → next ≡ with_ballots r next.ballots → (xs : List Ballot) → out ≡ with_ballots next xs → Settling e bs xs k
    → (out ≡ with_ballots r out.ballots) × Settling e bs out.ballots k
next-turn r next out e bs k p xs q t =
    let made = q ∙ ap (λ (x : Record). with_ballots x xs) p in
    let same = ap (λ (x : Record). x.ballots) made in
    (made ∙ ap (with_ballots r) (sym same), same ∙ t)

-- the record with e settled
abbrev settled_in : Record → ℕ → Record
settled_in r e = with_state r (settled_by (state_in r) e)

-- the same from its parts
pub settled_is : (r : Record) (words : List ℕ) → Stepping r words → (e : ℕ) (bs : List Ballot) → bs ≡ map ballot_of (map (lose e) (map tail_of r.ballots))
    → (x : Summary) → x ≡ summary_next r.summary e → with_held r r.kept r.noted x (r.settled + 1) bs ≡ settled_in r e
settled_is r words S e bs q x p =
    let more : r.settled + 1 ≡ r.kept.dropped + (held_length r + 1) = omega (arith, S.within) in
    λ i. with_held r r.kept r.noted (p i) (more i) (q i)

-- the record after a step
module _ (counts : List ℕ) (r : Record) (words : List ℕ) (S : Stepping r words) where
  pub step-won : (e : ℕ) → winner_in counts (state_in r) words ≡ Some e → (settled_in r e ≡ step_in counts r words) × (set words (held_length r) e ≡ step_words_in counts r words)
  step-won e w =
      let m = E.step-won counts (state_in r) words e w _ refl _ refl in
      (ap (with_state r) m.0, m.1)

  pub step-nobody : winner_in counts (state_in r) words ≡ None → (r ≡ step_in counts r words) × (words ≡ step_words_in counts r words)
  step-nobody w =
      let m = E.step-nobody counts (state_in r) words w in
      let whole : r.settled ≡ r.kept.dropped + held_length r = omega (arith, S.within) in
      ((λ i. with_held r r.kept r.noted r.summary (whole i) r.ballots) ∙ ap (with_state r) m.0, m.1)

-- what a run keeps: the record with a state that elections reach, after so many entries
pub record Run (r : Record) (words₀ : List ℕ) (now : Record) (words counts : List ℕ) (count : ℕ) : Type 0 where
  pub state : State
  pub made : now ≡ with_state r state
  pub running : Running r.n r.kept (state_in r) words₀ state words
  pub long : held_length r + count ≡ state.held
  pub tally : counts ≡ counts_after r.kept.counts (take state.held words)

module _ (r : Record) (words₀ : List ℕ) (S : Sound r words₀) where
  pub run-start : (counts : List ℕ) → counts ≡ counts_after r.kept.counts (take (held_length r) words₀) → Run r words₀ r words₀ counts 0
  run-start counts c =
      let whole : r.settled ≡ r.kept.dropped + (r.settled - r.kept.dropped) = omega (arith, S.within) in
      record {
        state = state_in r;
        made = λ i. with_held r r.kept r.noted r.summary (whole i) r.ballots;
        running = E.run-start _ _ _ _ (electable r words₀ S);
        long = omega arith;
        tally = c;
      }

  module _ (now : Record) (words counts : List ℕ) (count : ℕ) (R : Run r words₀ now words counts count) where
    pub stepping : Stepping now words
    stepping =
        let limits = R.running.sound.limits in
        subst (λ (x : Record). Stepping x words) (sym R.made) (record {
          limits = subst (λ (s : State). Steppable r.n s words) (sym (state-of r R.state)) limits;
          within = omega arith;
          more = omega (arith, S.within, longest r words₀ S, limits.most);
        })

    module _ (out : Record) (p : out ≡ step_in counts now words) (last : List ℕ) (q : last ≡ step_words_in counts now words) where
      abbrev after : State
      after = step_of counts R.state words

      out-made : out ≡ with_state r after
      out-made = p ∙ ap (λ (x : Record). step_in counts x words) R.made ∙ ap (λ (y : State). with_state r (step_of counts y words)) (state-of r R.state)

      last_made : last ≡ step_words counts R.state words
      last_made = q ∙ ap (λ (x : Record). step_words_in counts x words) R.made ∙ ap (λ (y : State). step_words counts y words) (state-of r R.state)

      settled-both : (out.settled ≡ r.kept.dropped + after.held) × (now.settled ≡ r.kept.dropped + R.state.held)
      settled-both = (ap (λ (x : Record). x.settled) out-made, ap (λ (x : Record). x.settled) R.made)

      module _ (h : out.settled ≡ now.settled → ⊥) where
        grew : after.held ≡ R.state.held → ⊥
        grew e = h (omega (arith, e, settled-both.0, settled-both.1))

        more : Running r.n r.kept (state_in r) words₀ after last × (after.held ≡ R.state.held + 1) × (R.state.held < 1024)
        more = E.run_more _ _ _ _ _ _ R.running counts R.tally after refl last last_made grew

        -- the entry's place is one of the log's 1024, and there are as many words as at the start
        pub run-place : (held_length r + count < 1024) × (length last ≡ length words₀)
        run-place = (omega (arith, R.long, more.2), more.0.long)

        -- one entry more can be counted
        pub run_room : (k : ℕ) → count_of counts k < 18446744073709551615
        run_room = E.counts-room _ _ _ _ R.running.sound counts R.tally

        pub run_more : (tallied : List ℕ) → tallied ≡ counted counts (get_or last (held_length r + count) 0) → Run r words₀ out last tallied (count + 1)
        run_more tallied k = record {
          state = after;
          made = out-made;
          running = more.0;
          long = omega (arith, R.long, more.1);
          tally = E.run-counts _ _ _ _ _ _ R.running counts R.tally after refl last last_made grew tallied (k ∙ ap (λ (i : ℕ). counted counts (get_or last i 0)) R.long);
        }

      module _ (h : out.settled ≡ now.settled) where
        same : after.held ≡ R.state.held
        same = omega (arith, h, settled-both.0, settled-both.1)

        pub run_long : length last ≡ length words₀
        run_long = ap length (E.run-last _ _ _ _ _ _ R.running counts R.tally after refl last last_made same).1 ∙ R.running.long

        -- elections end with this record, and these words
        pub run_end : (x : State) × (x ≡ state_of r.kept (elected_in r.kept (state_in r) words₀)) × (out ≡ with_state r x)
            × (last ≡ words_with (elected_in r.kept (state_in r) words₀).log words₀) × (held_length r + count ≡ x.held)
        run_end =
            let m = E.run_end _ _ _ _ _ _ R.running counts R.tally after refl last last_made same in
            (after, m.0, out-made, m.1, R.long ∙ sym same)
