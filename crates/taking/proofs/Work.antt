-- The code's work on an accepted message.
--     ready, ready-in              it may be done
--     length-fits, state-fits      no sum wraps
--     take-made                    it is what the definition says
-- Assumes nothing.
use mathlib.Core.Path.{◌≡◌, sym, ap, subst, ◌∙◌}
use mathlib.Core.List.{List, map}
use Prim.Native.Nat.{ℕ, ◌+◌, ◌-◌, ◌<◌, ◌≤◌}
use native.Mathlib.Omega.{arith}
use lib.ListN.{length, take, length-append, length-drop, length-take, length-map}
use Rattle.protocol.specs.Limits.{length_limit}
use Rattle.protocol.specs.Office.{tail}
use Rattle.protocol.specs.Beginning.{comparable}
use Rattle.protocol.specs.Folding as F
use Rattle.protocol.specs.Folding.{note, with_folded_take}
use Rattle.protocol_laws.proofs.Folding.{TakeFound, take_found}
use Rattle.protocol_laws.proofs.FoldedLimits.{FoldedFine, folded-take-fine}
use Rattle.ballots.specs.Ballots.{ballot_of, words_with}
use Rattle.ballots.proofs.Laws.{held_all}
use Rattle.numbers.proofs.Runs.{run_at-length}
use Rattle.spelling.specs.Content.{Content, as_packet}
use Rattle.spelling.specs.Reading.{reading, record_at}
use Rattle.spelling.proofs.Valid.{Valid, settled-length}
use Rattle.spelling.proofs.Laws.{reading-room}
use Rattle.std.specs.Prelude.{Some}
use Rattle.reading.specs.Read.{reading_of}
use Rattle.readings.specs.declared.Reading.{Reading}
use Rattle.intake.specs.Intake.{taken_in, intaken_of, Ready}
use Rattle.acceptance.specs.Acceptance.{packet_in}
use Rattle.intake.specs.declared.Intaken.{Intaken}
use Rattle.intake.proofs.Dropping.{summary-taken, dropped-taken}
use Rattle.elections.specs.declared.State.{State}
use Rattle.summary.specs.Summary.{summary_after}
use Rattle.kept.specs.Kept.{kept_after}
use Rattle.kept.specs.declared.Kept.{Kept}
use Rattle.frame.specs.State.{held_length, state_in, with_held, with_state, with_kept, with_noted, held_by, folded_by, kept_by, holding}
use Rattle.taking.specs.Taking.{take_number, take_places, taken_office, take_of, take_words}
use Rattle.frame.specs.declared.Record.{Record}
use Rattle.taking.specs.declared.Taken.{Taken}
use Rattle.frame.proofs.State as Held
use Rattle.taking.proofs.Takes.{Says, says, valid, rest_of, packet-in, tails-in, done-comparable, Accepted, accepted, packet-fine, taken-office, take-done-is, take-answer}

-- ── the code's work on an accepted message ──
module _ (r : Record) (words s : List ℕ) (m : Reading) (e : take_number r words s ≡ 0) (is : Some m ≡ reading_of (reading s)) where
  taken : Accepted r words s
  taken = accepted r words s e

  abbrev said : Content
  said = taken.content

  says-it : Says m said
  says-it = says m (reading s) said is taken.reads

  valid-it : Valid said
  valid-it = valid s said taken.reads

  is-packet : packet_in (rest_of m s) m ≡ as_packet said
  is-packet = packet-in m s said says-it taken.reads

  -- what the protocol found
  agrees : TakeFound r.own (as_packet said) (folded_by r words)
  agrees = take_found r.own (as_packet said) (folded_by r words) taken.done

  begins-within : m.dropped ≤ r.kept.dropped + held_length r
  unfolding as_packet
  begins-within = omega (arith, says-it.dropped, agrees.reaches, Held.log-length r words taken.sounds)

  pub ready : Ready words (state_in r) r.kept (rest_of m s) m
  unfolding as_packet
  ready =
      let S = taken.sounds in
      let l = reading-room s said taken.reads in
      record {
        sender-below = omega (arith, says-it.sender, valid-it.sender-below, valid-it.few-offices);
        held-within = omega (arith, S.most, S.room);
        theirs-within = omega (arith, says-it.held, valid-it.office.most, S.room);
        records-within = simp (length-take, length-drop) (omega (arith, l, says-it.head, says-it.held));
        begins-within = begins-within;
        ends-past = omega (arith, says-it.dropped, says-it.held, agrees.lasts);
        compared = ap (λ (p : F.Packet). comparable (F.caught_up p (folded_by r words)).log (F.from_there p (folded_by r words)).state.log) is-packet
            ∙ done-comparable r.own _ _ agrees.agrees;
        held = held_all r.n (held_length r) r.ballots S.fine;
        theirs-eight = ap length says-it.ballots ∙ length-map (as_packet said).state.tails ballot_of ∙ valid-it.office.eight;
        theirs-held = ap (map ballot_of) (tails-in m said says-it) ∙ sym says-it.ballots;
        room = Held.room-for r words S (m.dropped - r.kept.dropped) (omega (arith, begins-within));
      }

  -- the same of the state that the code makes
  pub ready-in : (x : State) → x ≡ state_in r → Ready words x r.kept (rest_of m s) m
  ready-in x q = subst (λ (y : State). Ready words y r.kept (rest_of m s) m) (sym q) ready

  -- the office that is made of the message
  abbrev next : F.FoldedOffice
  next = with_folded_take r.own (packet_in (rest_of m s) m) (folded_by r words)

  -- no sum wraps: a length is at most 2^63
  pub length-fits : m.dropped + m.held < 18446744073709551616
  length-fits = omega (arith, settled-length said valid-it, says-it.dropped, says-it.held)

  -- what is made of the message: its log and ballots, what the log has done, what is kept, and the words with that log in front
  module _ (x : State) (is_state : x ≡ state_in r) (q : Intaken) (ws : List ℕ) (eq : q ≡ intaken_of words x r.kept r.own (rest_of m s) m)
      (ew : ws ≡ words_with (taken_in words x r.kept r.own (rest_of m s) m).log words) where
    made : q ≡ intaken_of words (state_in r) r.kept r.own (rest_of m s) m
    made = eq ∙ ap (λ (y : State). intaken_of words y r.kept r.own (rest_of m s) m) is_state

    abbrev after : Intaken
    after = intaken_of words (state_in r) r.kept r.own (rest_of m s) m

    written : ws ≡ words_with next.held.log words
    unfolding with_folded_take
    written = ew ∙ ap (λ (y : State). words_with (taken_in words y r.kept r.own (rest_of m s) m).log words) is_state

    front : m.dropped - r.kept.dropped ≡ r.kept.dropped + (m.dropped - r.kept.dropped) - r.kept.dropped
    front = omega arith

    -- what is kept, and the length
    kept-is : after.kept ≡ kept_by r words next
    unfolding with_folded_take
    kept-is = ap (λ (k : ℕ). kept_after r.kept (take k (held_by r words).log)) front

    dropped-is : after.kept.dropped ≡ r.kept.dropped + (m.dropped - r.kept.dropped)
    dropped-is = dropped-taken words (state_in r) r.kept r.own (rest_of m s) m ready

    settled_is : after.kept.dropped + after.state.held ≡ next.dropped + length next.held.log
    unfolding with_folded_take
    settled_is = ap (λ (k : ℕ). k + after.state.held) dropped-is

    done-is : after.state.summary ≡ summary_after (kept_by r words next).summary next.held.log
    unfolding with_folded_take
    done-is = summary-taken words (state_in r) r.kept r.own (rest_of m s) m ready taken.sounds.done ∙ ap (λ (k : Kept). summary_after k.summary (after-log)) kept-is
      where
        after-log : List ℕ
        after-log = (taken_in words (state_in r) r.kept r.own (rest_of m s) m).log

    -- the sender's length, as the code notes it
    noted-is : note m.sender (m.dropped + m.held) r.noted ≡ next.noted
    unfolding with_folded_take
    noted-is = ap (λ (k : ℕ). note m.sender (m.dropped + k) r.noted) (sym (run_at-length 6 record_at m.held (rest_of m s)))

    held-is : (nn : List ℕ) → nn ≡ note m.sender (m.dropped + m.held) r.noted → (y : Record) → y ≡ with_state (with_noted (with_kept r q.kept) nn) q.state → y ≡ holding r words next
    unfolding with_folded_take
    held-is nn e y p =
        p ∙ ap (λ (z : Intaken). with_state (with_noted (with_kept r z.kept) nn) z.state) made
        ∙ λ i. with_held r (kept-is i) ((e ∙ noted-is) i) (done-is i) (settled_is i) after.state.ballots

    -- no sum wraps
    pub state-fits : q.kept.dropped + q.state.held < 18446744073709551616
    unfolding length_limit
    state-fits =
        let fine =
        folded-take-fine r.n r.own (as_packet said) (folded_by r words) (Held.folded-fine r words taken.sounds)
        (packet-fine r words s taken) taken.sounds.head.member taken.done in
        let x = subst (λ (p : F.Packet). FoldedFine r.n r.own (with_folded_take r.own p (folded_by r words))) (sym is-packet) fine in
        omega (arith, ap (λ (z : Intaken). z.kept.dropped + z.state.held) made, settled_is, x.short 0, length-append next.held.log (tail next.held 0))

    pub take-made : (l : ℕ) → l ≡ take_places r words s → (nn : List ℕ) → nn ≡ note m.sender (m.dropped + m.held) r.noted
        → (y : Record) → y ≡ with_state (with_noted (with_kept r q.kept) nn) q.state
        → (◌≡◌ {A = Taken} (record { number = 0; places = l; «record» = y }) (take_of r words s)) × (ws ≡ take_words r words s)
    take-made l g nn n y p =
        let o : next ≡ taken_office r words s = ap (λ (y : F.Packet). with_folded_take r.own y (folded_by r words)) is-packet ∙ sym (taken-office r words s taken) in
        let d = take-done-is r words s e in (
          take-answer r words s _ l e g (held-is nn n y p ∙ ap (holding r words) o ∙ sym d.0),
          written ∙ ap (λ (y : F.FoldedOffice). words_with y.held.log words) o ∙ sym d.1,
        )
