-- The code's work on a message whose log begins where the own one begins is the protocol's take: `merged`. Assumes nothing.
use mathlib.Core.Path.{◌≡◌, refl, sym, ap, ap₂, ◌∙◌}
use mathlib.Core.Bool.{Bool, true, false, ◌||◌}
use mathlib.Core.Logic.{inl, inr}
use mathlib.Core.List.{List, [], ◌∷◌, map}
use Prim.Native.Nat.{ℕ, zero, suc, ◌<◌}
use native.Mathlib.Nat.{not-suc-le-zero, le_of_suc-le-suc}
use lib.ListN.{length, get_or, take, drop, set, length-map}
use lib.Seq.{take-append_seam}
use Rattle.protocol.specs.Beginning.{begins, comparable}
use Rattle.protocol.specs.Office.{Office, Message}
use Rattle.protocol.specs.Take.{offers}
use Rattle.lists.proofs.Tests.{map-set, get_d_map}
use Rattle.lists.proofs.Walk.{take-from}
use Rattle.protocol_laws.proofs.Beginning.{begins-true}
use Rattle.ballots.specs.declared.Ballot.{Ballot}
use Rattle.ballots.specs.Ballots.{tail_of, ballot_of, off_end, office_in, words_with}
use Rattle.merging.specs.Merging.{past_ballot, adopted_all}
use Rattle.merging.proofs.Laws.{Taking, take_past}
use Rattle.summary.specs.Summary.{summary_after}
use Rattle.summary.specs.declared.Summary.{Summary}
use Rattle.intake.specs.Intake.{aligned_take, merged_of, caught_length, caught_words, Aligned}
use Rattle.elections.specs.declared.State.{State}
use Rattle.intake.proofs.Caught.{Caught, caught, part, Comparable}

get_d_any : {A : Type 0} (l : List A) (i : ℕ) (a b : A) → i < length l → get_or l i a ≡ get_or l i b
get_d_any [] i a b h = absurd (not-suc-le-zero h)
get_d_any (x ∷ l) zero a b h = refl
get_d_any (x ∷ l) (suc i) a b h = get_d_any l i a b (le_of_suc-le-suc h)

compared : (a b : List ℕ) → comparable a b ≡ true → Comparable a b
compared a b = go (begins a b) refl
  where
    go : (x : Bool) → begins a b ≡ x → (x || begins b a) ≡ true → Comparable a b
    go true p e = inl (begins-true a b p)
    go false p e = inr (begins-true b a e)

module _ (words : List ℕ) (s : State) (own : ℕ) (theirs : List ℕ) (sender : ℕ) (offered : List Ballot) (A : Aligned words s theirs sender offered) where
  abbrev message : Message
  message = record { sender = sender; state = record { log = theirs; tails = map tail_of offered } }

  abbrev held : Office
  held = office_in words s.held s.ballots

  abbrev taken : Office
  taken = aligned_take words s own theirs sender offered

  -- the log's words and the held length after the log has caught up
  abbrev new : List ℕ
  new = caught_words words s.held theirs

  abbrev end : ℕ
  end = caught_length s.held theirs

  caught-up : Caught words s.held theirs (part new s.held end) (part new (length theirs) end)
  caught-up = caught words s.held theirs A.held-within A.theirs-within (compared (take s.held words) theirs A.compared)

  taking : Taking own message held (part new s.held end) (part new (length theirs) end)
  taking = take_past own message held (part new s.held end) (part new (length theirs) end) caught-up.whole caught-up.one

  -- the ballots that are offered: the own place has the sender's
  offers-made : map ballot_of (offers own message) ≡ set offered own (get_or offered sender off_end)
  offers-made =
      let ts : List (List ℕ) = map tail_of offered in
      let bs : List Ballot = map ballot_of ts in
      let there : sender < length bs = rw (length-map ts ballot_of, length-map offered tail_of, A.eight) A.sender-below in
      map-set ballot_of ts own (get_or ts sender [])
      ∙ ap (set bs own) (sym (get_d_map ballot_of [] ts sender) ∙ get_d_any bs sender (ballot_of []) off_end there)
      ∙ ap (λ (x : List Ballot). set x own (get_or x sender off_end)) A.offers-tails

  -- the ballots that the code makes of the words ws, whose held length is k, where the message's log has t entries
  abbrev adopted_by : List ℕ → ℕ → ℕ → List Ballot
  adopted_by ws t k = adopted_all (part ws t k) (map (past_ballot (part ws s.held k)) s.ballots) (set offered own (get_or offered sender off_end))

  ballots-made : map ballot_of taken.tails ≡ adopted_by new (length theirs) end
  ballots-made =
      taking.ballots
      ∙ ap₂ (λ (bs qs : List Ballot). adopted_all (part new (length theirs) end) (map (past_ballot (part new s.held end)) bs) qs) A.tails offers-made

  module _ (t k : ℕ) (ws : List ℕ) (et : t ≡ length theirs) (ek : k ≡ end) (ew : ws ≡ new) where
    length-made : k ≡ length taken.log
    length-made = ek ∙ sym (ap length taking.log ∙ caught-up.long)

    words-made : ws ≡ words_with taken.log words
    words-made = ew ∙ sym (ap (λ (l : List ℕ). words_with l words) taking.log ∙ caught-up.kept)

    -- the part of the log that the summary walks
    added : part ws s.held k ≡ drop s.held taken.log
    added = take-from s.held k ws ∙ ap (drop s.held) (ap₂ take length-made words-made ∙ take-append_seam taken.log (drop (length taken.log) words))

    pub merged : (bs : List Ballot) → bs ≡ adopted_by ws t k → (x : Summary) → x ≡ summary_after s.summary (part ws s.held k)
        → (◌≡◌ {A = State} (record { summary = x; held = k; ballots = bs }) (merged_of s taken)) × (ws ≡ words_with taken.log words)
    merged bs eb x ex = (
      (λ i. record {
        summary = (ex ∙ ap (summary_after s.summary) added) i;
        held = length-made i;
        ballots = (eb ∙ (λ j. adopted_by (ew j) (et j) (ek j)) ∙ sym ballots-made) i;
      }),
      words-made,
    )
