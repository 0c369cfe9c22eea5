-- Take: each way out of the call, and what an accepted message is made into.
--     take-refused                      a refused call changes nothing
--     number_at, places-at              the call's number and its places are those that are found by the reading
--     Accepted, accepted                what a message is that the call accepts
-- Assumes nothing.
use mathlib.Core.Path.{◌≡◌, refl, sym, ap, ap₂, subst, ◌∙◌}
use mathlib.Core.Bool.{Bool, true, false, not, cond}
use mathlib.Core.List.{List, [], ◌++◌, map}
use Rattle.std.specs.Prelude.{Option, None, Some}
use Prim.Native.Nat.{ℕ, ◌-◌, ◌*◌, ◌<◌, ◌≤◌}
use native.Mathlib.Omega.{arith}
use lib.Dec.{eqb}
use lib.ListN.{length, take, drop, replicate, length-drop, take-append-drop}
use lib.Seq.{take_at}
use borrow.Author.Tests.{eqb-true, ne_eqb}
use Rattle.lists.specs.Tests.{both, pick, all_b, same}
use Rattle.protocol.specs.Office.{Office, Message}
use Rattle.protocol.specs.Beginning.{comparable}
use Rattle.protocol.specs.Take.{refuse_take}
use Rattle.protocol.specs.Folding as F
use Rattle.protocol.specs.Folding.{with_folded_take, refuse_folded_take}
use Rattle.protocol_laws.proofs.FoldedLimits.{HeldFine, PacketFine, folded-facts}
use Rattle.lists.proofs.Tests.{both-0, pick-false, zeros}
use Rattle.ballots.specs.Ballots.{tail_of, ballot_of, words_with}
use Rattle.lists.proofs.Same.{same_true, same_refl}
use Rattle.ballots.proofs.Laws.{tails-of}
use Rattle.numbers.specs.Numbers.{run_at}
use Rattle.spelling.specs.Content.{Content, as_packet}
use Rattle.spelling.specs.Reading.{reading, record_at}
use Rattle.spelling.specs.Spelling.{head_size}
use Rattle.spelling.proofs.Valid.{Valid, valid-facts, valid-office}
use Rattle.spelling.proofs.Laws.{reading-valid, reading-log, reading-room}
use Rattle.readings.specs.declared.Reading.{Reading}
use Rattle.message_heads.specs.Heads.{eight_weights}
use Rattle.reading.specs.Read.{read_as, reading_of, ballots_of}
use Rattle.std.proofs.lemmas.Option.{none-some, same_Some}
use Rattle.shared_places.specs.FromEnd.{compares}
use Rattle.acceptance.specs.Acceptance.{packet_in, refusal_of, checked_of}
use Rattle.comparing.specs.Checking.{Checked, checked_by}
use Rattle.acceptance.proofs.Numbers.{checked-number, refusal-folded}
use Rattle.reading.proofs.Answers.{rest-of-message}
use Rattle.frame.specs.State.{held_length, folded_by, holding}
use Rattle.frame.specs.Soundness.{sound_b, Sound}
use Rattle.taking.specs.Taking.{same_offices, on_reading, shared_places, take_number, take_places, taken_office, take_of, take_words}
use Rattle.frame.specs.declared.Record.{Record}
use Rattle.taking.specs.declared.Taken.{Taken}
use Rattle.frame.proofs.Sound.{sound, sound-true}

pub take-refused : (r : Record) (words s : List ℕ) (x p : ℕ) → x ≡ take_number r words s → p ≡ take_places r words s → (x ≡ 0 → ⊥)
    → (◌≡◌ {A = Taken} (record { number = x; places = p; «record» = r }) (take_of r words s)) × (words ≡ take_words r words s)
unfolding take_of take_words
take-refused r words s x p e q d =
    let no : eqb (take_number r words s) 0 ≡ false = ne_eqb (take_number r words s) 0 (λ z. d (e ∙ z)) in (
      (λ i. record { number = e i; places = q i; «record» = sym (pick-false (eqb (take_number r words s) 0) (holding r words (taken_office r words s)) r no) i }),
      sym (pick-false (eqb (take_number r words s) 0) _ words no),
    )

-- ── what is read ──
-- the fields of a reading are what the message says
pub record Says (m : Reading) (c : Content) : Type 0 where
  pub sender : m.sender ≡ c.sender
  pub n : m.n ≡ c.n
  pub weights : m.weights ≡ eight_weights c.n c.weights
  pub dropped : m.dropped ≡ c.dropped
  pub held : m.held ≡ length c.log
  pub head : m.head ≡ head_size c.n
  pub ballots : m.ballots ≡ map ballot_of (as_packet c).state.tails

pub says : (m : Reading) (o : Option Content) (c : Content) → Some m ≡ reading_of o → o ≡ Some c → Says m c
unfolding reading_of ballots_of as_packet
says m o c e q =
    let w : m ≡ read_as c = same_Some _ _ (e ∙ ap reading_of q) in
    record {
      sender = ap (λ (x : Reading). x.sender) w;
      n = ap (λ (x : Reading). x.n) w;
      weights = ap (λ (x : Reading). x.weights) w;
      dropped = ap (λ (x : Reading). x.dropped) w;
      held = ap (λ (x : Reading). x.held) w;
      head = ap (λ (x : Reading). x.head) w;
      ballots = ap (λ (x : Reading). x.ballots) w;
    }

-- what was read is within the limits
pub valid : (s : List ℕ) (c : Content) → reading s ≡ Some c → Valid c
valid s c e = valid-facts c (reading-valid s c e)

-- ── the number ──
module _ (r : Record) (words s : List ℕ) where
  pub not_sound : sound_b r words ≡ false → take_number r words s ≡ 1
  unfolding take_number pick
  not_sound e = rw e

  module _ (S : Sound r words) where
    pub not-read : reading s ≡ None → take_number r words s ≡ 7
    unfolding take_number pick
    not-read e = rw (sound-true r words S, e)

    module _ (c : Content) (e : reading s ≡ Some c) where
      pub number_read : take_number r words s ≡ pick (not (same_offices r c)) 8 (refuse_folded_take r.own (as_packet c) (folded_by r words))
      unfolding take_number pick
      number_read = rw (sound-true r words S, e)

      pub other : same_offices r c ≡ false → take_number r words s ≡ 8
      unfolding take_number pick
      other d = rw (sound-true r words S, e, d)

      pub like : same_offices r c ≡ true → take_number r words s ≡ refuse_folded_take r.own (as_packet c) (folded_by r words)
      unfolding take_number pick
      like d = rw (sound-true r words S, e, d)

-- a number that came to no comparison
pub no-places : (r : Record) (words s : List ℕ) → compares (take_number r words s) ≡ false → 0 ≡ take_places r words s
unfolding take_places
no-places r words s e = go (reading s)
  where
    go : (x : Option Content) → ◌≡◌ {A = ℕ} 0 (on_reading x 0 (λ c. pick (compares (take_number r words s)) (shared_places (as_packet c) (folded_by r words)) 0))
    go None = refl
    go (Some c) = sym (pick-false (compares (take_number r words s)) (shared_places (as_packet c) (folded_by r words)) 0 e)

places-said : (r : Record) (words s : List ℕ) (c : Content) → reading s ≡ Some c → take_places r words s ≡ pick (compares (take_number r words s)) (shared_places (as_packet c) (folded_by r words)) 0
unfolding take_places
places-said r words s c e = ap (λ (x : Option Content). on_reading x 0 (λ c. pick (compares (take_number r words s)) (shared_places (as_packet c) (folded_by r words)) 0)) e

-- eight weights with zeros behind the first n are the same as n weights are
eight-take : (n : ℕ) (ws vs : List ℕ) → length ws ≡ n → eight_weights n ws ≡ vs → ws ≡ take n vs
unfolding eight_weights
eight-take n ws vs l e = sym (ap (take n) (sym e) ∙ take_at ws (replicate (8 - n) 0) n l)

take-eight : (n : ℕ) (ws vs : List ℕ) → length vs ≡ 8 → all_b (eqb 0) (drop n vs) ≡ true → ws ≡ take n vs → eight_weights n ws ≡ vs
unfolding eight_weights
take-eight n ws vs l z e =
    let k : length (drop n vs) ≡ 8 - n = length-drop n vs ∙ ap (λ (j : ℕ). j - n) l in
    ap₂ (λ (a b : List ℕ). a ++ b) e (sym (zeros (drop n vs) z ∙ ap (λ (j : ℕ). replicate j 0) k)) ∙ take-append-drop n vs

module _ (r : Record) (c : Content) where
  module _ (words : List ℕ) (S : Sound r words) (L : length c.weights ≡ c.n) (e : c.n ≡ r.n) where
    weights-like : same (eight_weights c.n c.weights) r.weights ≡ same c.weights (take r.n r.weights)
    weights-like = go _ refl _ refl
      where
        go : (a : Bool) → same (eight_weights c.n c.weights) r.weights ≡ a → (b : Bool) → same c.weights (take r.n r.weights) ≡ b → a ≡ b
        go true p true q = refl
        go false p false q = refl
        go true p false q =
            let w : c.weights ≡ take r.n r.weights = subst (λ (k : ℕ). c.weights ≡ take k r.weights) e (eight-take c.n c.weights r.weights L (same_true _ _ p)) in
            sym (sym q ∙ ap (λ (v : List ℕ). same v (take r.n r.weights)) w ∙ same_refl _)
        go false p true q =
            let w : eight_weights r.n c.weights ≡ r.weights = take-eight r.n c.weights r.weights S.head.eight S.head.rest (same_true _ _ q) in
            sym p ∙ ap (λ (k : ℕ). same (eight_weights k c.weights) r.weights) e ∙ ap (λ (v : List ℕ). same v r.weights) w ∙ same_refl _

-- ── the number, as the code finds it ──
-- the part of the message that is lent: its rest after the head; and the log records in it
abbrev pub rest_of : Reading → List ℕ → List ℕ
rest_of m s = take (length s - m.head) (drop m.head s)

abbrev pub log_in : Reading → List ℕ → List ℕ
log_in m s = run_at 6 record_at m.held (rest_of m s)

log-in : (m : Reading) (s : List ℕ) (c : Content) → Says m c → reading s ≡ Some c → log_in m s ≡ c.log
log-in m s c f e = rw (rest-of-message s m.head, f.head, f.held) (reading-log s c e)

pub tails-in : (m : Reading) (c : Content) → Says m c → map tail_of m.ballots ≡ (as_packet c).state.tails
tails-in m c f = ap (map tail_of) f.ballots ∙ tails-of (as_packet c).state.tails

-- what was read is the message
pub packet-in : (m : Reading) (s : List ℕ) (c : Content) → Says m c → reading s ≡ Some c → packet_in (rest_of m s) m ≡ as_packet c
unfolding as_packet
packet-in m s c f e =
    let l = log-in m s c f e in
    let t = tails-in m c f in
    λ i. record { sender = f.sender i; dropped = f.dropped i; state = record { log = l i; tails = t i } }

pub done-comparable : (k : ℕ) (m : Message) (o : Office) → refuse_take k m o ≡ 0 → comparable o.log m.state.log ≡ true
unfolding refuse_take
done-comparable k m o e = go (eqb m.sender k) (comparable o.log m.state.log) e
  where
    go : (a b : Bool) → ◌≡◌ {A = ℕ} (cond a 9 (cond b 0 10)) 0 → b ≡ true
    go true b e = absurd (omega arith)
    go false true e = refl
    go false false e = absurd (omega arith)

-- a message that was read
module _ (r : Record) (words s : List ℕ) (S : Sound r words) (m : Reading) (is : Some m ≡ reading_of (reading s)) where
  -- some message was read
  said : (c : Content) × (reading s ≡ Some c)
  unfolding reading_of
  said = go (reading s) refl
    where
      go : (x : Option Content) → reading s ≡ x → (c : Content) × (reading s ≡ Some c)
      go None e = absurd (none-some m (sym (is ∙ ap reading_of e)))
      go (Some c) e = (c, e)

  module _ (c : Content) (e : reading s ≡ Some c) where
    abbrev message : Says m c
    message = says m (reading s) c is e

    counted : (b : Bool) → eqb c.n r.n ≡ b → both (eqb m.n r.n) (same m.weights r.weights) ≡ same_offices r c
    unfolding same_offices both
    counted true q = rw (message.n, q, message.weights) (weights-like r c words S (valid s c e).weights-length (eqb-true c.n r.n q))
    counted false q = rw (message.n, q)

    number-of-message : refusal_of r.n r.own r.weights r.kept.dropped (take (held_length r) words) (rest_of m s) (Some m) ≡ take_number r words s
    unfolding pick
    number-of-message =
        refusal-folded r.n r.own r.weights r.kept.dropped (take (held_length r) words) (rest_of m s) (Some m) (map tail_of r.ballots) r.noted
        ∙ rw (counted (eqb c.n r.n) refl)
        (ap (λ (p : F.Packet). pick (not (same_offices r c)) 8 (refuse_folded_take r.own p (folded_by r words))) (packet-in m s c message e))
        ∙ sym (number_read r words s S c e)

    places-of-message : (checked_of r.n r.own r.weights r.kept.dropped (take (held_length r) words) (rest_of m s) (Some m)).places ≡ take_places r words s
    unfolding checked_of checked_by compares pick
    places-of-message =
        ap (λ (k : ℕ). pick (compares k) (shared_places (packet_in (rest_of m s) m) (folded_by r words)) 0) number-of-message
        ∙ ap (λ (p : F.Packet). pick (compares (take_number r words s)) (shared_places p (folded_by r words)) 0) (packet-in m s c message e)
        ∙ sym (places-said r words s c e)

  -- the lengths that the code's walks ask
  pub head-within : m.head ≤ length s
  head-within = omega (arith, reading-room s said.0 said.1, (message said.0 said.1).head)

  pub log-within : 6 * m.held ≤ length s - m.head
  log-within = omega (arith, reading-room s said.0 said.1, (message said.0 said.1).held, (message said.0 said.1).head)

-- nothing was read
pub none-read : (s : List ℕ) → None ≡ reading_of (reading s) → reading s ≡ None
unfolding reading_of
none-read s is = go (reading s) refl
  where
    go : (x : Option Content) → reading s ≡ x → reading s ≡ None
    go None e = e
    go (Some c) e = absurd (none-some (read_as c) (is ∙ ap reading_of e))

-- what is lent of the message, by what it was read as: nothing where it is none
abbrev pub rest_in : Option Reading → List ℕ → List ℕ
rest_in None s = []
rest_in (Some m) s = rest_of m s

-- the number and the places that are found by the reading are the call's
module _ (r : Record) (words s : List ℕ) (S : Sound r words) where
  -- with the held log as the code lends it
  abbrev pub checked_with : Option Reading → List ℕ → Checked
  checked_with o log = checked_of r.n r.own r.weights r.kept.dropped log (rest_in o s) o

  abbrev found : Option Reading → ℕ
  found o = refusal_of r.n r.own r.weights r.kept.dropped (take (held_length r) words) (rest_in o s) o

  pub number_at : (o : Option Reading) → o ≡ reading_of (reading s) → found o ≡ take_number r words s
  unfolding refusal_of
  number_at None is = sym (not-read r words s S (none-read s is))
  number_at (Some m) is = let c = said r words s S m is in number-of-message r words s S m is c.0 c.1

  pub places-at : (o : Option Reading) → o ≡ reading_of (reading s) → (checked_with o (take (held_length r) words)).places ≡ take_places r words s
  unfolding checked_of compares pick
  places-at None is = no-places r words s (ap compares (not-read r words s S (none-read s is)))
  places-at (Some m) is = let c = said r words s S m is in places-of-message r words s S m is c.0 c.1

  module _ (o : Option Reading) (is : o ≡ reading_of (reading s)) (log : List ℕ) (h : log ≡ take (held_length r) words) (x : Checked) (q : x ≡ checked_with o log) where
    pub number-found : x.number ≡ take_number r words s
    number-found =
        ap (λ (y : Checked). y.number) (q ∙ ap (checked_with o) h)
        ∙ checked-number r.n r.own r.weights r.kept.dropped (take (held_length r) words) (rest_in o s) o
        ∙ number_at o is

    pub places-found : x.places ≡ take_places r words s
    places-found = ap (λ (y : Checked). y.places) (q ∙ ap (checked_with o) h) ∙ places-at o is

-- ── an accepted message ──
pub record Accepted (r : Record) (words s : List ℕ) : Type 0 where
  pub sounds : Sound r words
  pub content : Content
  pub reads : reading s ≡ Some content
  pub offices : same_offices r content ≡ true
  pub done : refuse_folded_take r.own (as_packet content) (folded_by r words) ≡ 0

pub accepted : (r : Record) (words s : List ℕ) → take_number r words s ≡ 0 → Accepted r words s
unfolding take_number pick
accepted r words s e = go (sound_b r words) refl (reading s) refl e
  where
    behind : Content → ℕ
    behind c = pick (not (same_offices r c)) 8 (refuse_folded_take r.own (as_packet c) (folded_by r words))

    like-offices : (S : sound_b r words ≡ true) (c : Content) → reading s ≡ Some c → (b : Bool) → same_offices r c ≡ b
        → ◌≡◌ {A = ℕ} (pick (not b) 8 (refuse_folded_take r.own (as_packet c) (folded_by r words))) 0 → Accepted r words s
    like-offices S c q true o e = record { sounds = sound r words S; content = c; reads = q; offices = o; done = e }
    like-offices S c q false o e = absurd (omega arith)

    go : (b : Bool) → sound_b r words ≡ b → (x : Option Content) → reading s ≡ x → ◌≡◌ {A = ℕ} (pick (not b) 1 (on_reading x 7 behind)) 0 → Accepted r words s
    go false S x q e = absurd (omega arith)
    go true S None q e = absurd (omega arith)
    go true S (Some c) q e = like-offices S c q (same_offices r c) refl e

-- it is of the record's offices, and within the limits
pub same_count : (r : Record) (words s : List ℕ) (a : Accepted r words s) → a.content.n ≡ r.n
unfolding same_offices
same_count r words s a = eqb-true _ _ (both-0 _ _ a.offices)

pub packet-fine : (r : Record) (words s : List ℕ) (a : Accepted r words s) → PacketFine r.n (as_packet a.content)
unfolding as_packet
packet-fine r words s a =
    let c = a.content in
    let v = reading-valid s c a.reads in
    let n = same_count r words s a in
    let x = subst (λ (k : ℕ). HeldFine k c.dropped (as_packet c).state) n (folded-facts c.n c.dropped (as_packet c).state (valid-office c v)) in
    record { known = subst (λ (k : ℕ). c.sender < k) n (valid-facts c v).sender-below; held = x.held; short = x.short }

pub taken-office : (r : Record) (words s : List ℕ) (a : Accepted r words s) → taken_office r words s ≡ with_folded_take r.own (as_packet a.content) (folded_by r words)
unfolding taken_office
taken-office r words s a = rw a.reads

-- a done call
pub take-done-is : (r : Record) (words s : List ℕ) → take_number r words s ≡ 0
    → ((take_of r words s).«record» ≡ holding r words (taken_office r words s)) × (take_words r words s ≡ words_with (taken_office r words s).held.log words)
unfolding take_of take_words pick
take-done-is r words s e = (rw e, rw e)

pub take-answer : (r : Record) (words s : List ℕ) (next : Record) (p : ℕ) → take_number r words s ≡ 0 → p ≡ take_places r words s → next ≡ (take_of r words s).«record»
    → record { number = 0; places = p; «record» = next } ≡ take_of r words s
unfolding take_of
take-answer r words s next p e l q = λ i. record { number = sym e i; places = l i; «record» = q i }
