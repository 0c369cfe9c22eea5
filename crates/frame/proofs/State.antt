-- A record with its log, and what the office has dropped and holds.
--     log-length, whole_length   the lengths of the held log and of the whole
--     electable       what elections ask of a sound record
--     held            a sound record is the one that holds its office
--     words-kept      the words of a sound record with its own held log in front
--     folded-fine     the office of a sound record is within the protocol's limits
--     kept-stays      a call that drops nothing leaves what is kept
--     folded-by       the office read back from a record and words that hold it
--     sound-of        an office within the limits makes a sound record
-- Assumes nothing.
use mathlib.Core.Path.{◌≡◌, refl, sym, ap, subst, ◌∙◌}
use mathlib.Core.List.{List}
use Prim.Native.Nat.{ℕ, ◌+◌, ◌-◌, ◌<◌, ◌≤◌}
use native.Mathlib.Omega.{arith}
use lib.ListN.{length, get_or, take}
use lib.Seq.{length-take-le}
use borrow.Author.Tests.{leb-true}
use Rattle.lists.proofs.Tests.{both-0, all-at, all_take}
use Rattle.protocol.specs.Entry.{is_entry}
use Rattle.protocol.specs.Office.{tail}
use Rattle.protocol.specs.Folding as F
use Rattle.protocol.specs.Limits.{Head, length_limit, lengths_fine}
use Rattle.protocol_laws.proofs.FoldedLimits.{FoldedFine}
use Rattle.ballots.specs.Ballots.{ballot_fine, tail_of, off_end, office_in, words_with}
use Rattle.ballots.specs.declared.Ballot.{Ballot}
use Rattle.ballots.proofs.Laws as B
use Rattle.summary.specs.Summary.{summary_after}
use Rattle.kept.specs.Kept.{KeptFacts, Roomy, kept_after}
use Rattle.kept.specs.declared.Kept.{Kept}
use Rattle.kept.proofs.Laws.{kept-nil, count-within, roomy, after-fine}
use Rattle.soundness.proofs.Folded as fields
use Rattle.elections.specs.Elections.{Steppable}
use Rattle.elections.proofs.Holding.{Electable}
use Rattle.elections.proofs.Holding as Holding
use Rattle.frame.specs.State.{held_length, held_by, folded_by, state_in, with_held, own_ballot, goes, kept_by, holding_behind, holding}
use Rattle.frame.specs.Soundness.{Sound}
use Rattle.frame.specs.declared.Record.{Record}

pub tail_at : (r : Record) (words : List ℕ) (k : ℕ) → tail (held_by r words) k ≡ tail_of (get_or r.ballots k off_end)
tail_at r words k = B.tail_at r.ballots k

-- the office that a record was made to hold, behind what is kept
pub held-behind : (r : Record) (k : Kept) (f : F.FoldedOffice) → k.dropped ≡ f.dropped → (words : List ℕ) → folded_by (holding_behind r k f) (words_with f.held.log words) ≡ f
held-behind r k f e words =
    let n : f.dropped + length f.held.log - k.dropped ≡ length f.held.log = omega arith in
    let o : held_by (holding_behind r k f) (words_with f.held.log words) ≡ f.held =
    ap (λ (x : ℕ). office_in (words_with f.held.log words) x (holding_behind r k f).ballots) n ∙ Holding.held-by k f.held words in
    λ i. record { dropped = e i; held = o i; noted = f.noted }

-- a record that holds an office within the limits, behind what may be kept, is sound
module _ (r : Record) (k : Kept) (f : F.FoldedOffice) (words : List ℕ) (H : Head r.n r.own r.weights) (K : KeptFacts r.n r.weights k) (e : k.dropped ≡ f.dropped)
    (x : FoldedFine r.n r.own f) (room : 1024 ≤ length words) where
  pub sound-behind : Sound (holding_behind r k f) (words_with f.held.log words)
  sound-behind = fields.sound-of r.n r.own r.weights k f words H K e x room

module _ (r : Record) (words : List ℕ) (S : Sound r words) where
  -- "dropped entries included, length plus tail is at most 2^63"
  pub longest : r.settled ≤ 9223372036854775808
  unfolding lengths_fine length_limit
  longest = leb-true _ _ (both-0 _ _ S.lengths)

  pub within-limit : r.settled ≤ length_limit
  unfolding lengths_fine
  within-limit = leb-true _ _ (both-0 _ _ S.lengths)

  limits : Steppable r.n (state_in r) words
  limits = record { room = S.room; few = S.head.most; most = S.most; entries = S.entries; eight = S.eight; fine = S.fine; rest = S.rest }

  pub electable : Electable r.n r.kept (state_in r) words
  electable = record { limits = limits; done = S.done; countable = λ k. omega (arith, count-within r.n r.weights r.kept S.kept k, S.within, within-limit) }

  pub log-length : length (held_by r words).log ≡ held_length r
  log-length = Holding.log-length _ _ words limits

  -- dropped entries included
  pub whole_length : F.settled_length r.kept.dropped (held_by r words) ≡ r.settled
  whole_length = fields.settled-length r.n r.own r.weights r.kept r.noted r.summary r.settled r.ballots words S

  pub words-kept : words_with (held_by r words).log words ≡ words
  words-kept = Holding.words-kept _ _ words limits

  pub ballot : (k : ℕ) → k < 8 → B.Fine r.n (held_length r) (get_or r.ballots k off_end)
  ballot k h = B.fine _ _ _ (all-at (ballot_fine r.n (held_length r)) off_end r.ballots k S.fine (omega arith))

  pub own-fine : (b : Ballot) → b ≡ own_ballot r → B.Fine r.n (held_length r) b
  own-fine b q = subst (B.Fine r.n (held_length r)) (sym q) (ballot r.own (omega (arith, S.head.member, S.head.most)))

  pub folded-fine : FoldedFine r.n r.own (folded_by r words)
  folded-fine = fields.folded-fine r.n r.own r.weights r.kept r.noted r.summary r.settled r.ballots words S

  -- what dropping so many of the held entries asks
  pub room-for : (k : ℕ) → k ≤ held_length r → Roomy r.kept k
  room-for k h = roomy r.n r.weights r.kept S.kept k (omega (arith, h, S.most)) (omega (arith, h, S.within, longest))

  -- a call that drops nothing
  pub kept-stays : (f : F.FoldedOffice) → f.dropped ≡ r.kept.dropped → kept_by r words f ≡ r.kept
  kept-stays f e =
      let n : f.dropped - r.kept.dropped ≡ 0 = omega arith in
      ap (λ (k : ℕ). kept_after r.kept (take k (held_by r words).log)) n ∙ kept-nil r.kept

  pub held : holding r words (folded_by r words) ≡ r
  held =
      let k = kept-stays (folded_by r words) refl in
      let done = ap (λ (x : Kept). summary_after x.summary (held_by r words).log) k ∙ sym S.done in
      λ i. with_held r (k i) r.noted (done i) (whole_length i) (B.held_all r.n (held_length r) r.ballots S.fine i)

  -- a call that leaves the office as f, which has dropped as much as before or more, and no more than was settled
  module _ (f : F.FoldedOffice) (more : r.kept.dropped ≤ f.dropped) (within : f.dropped ≤ r.settled) where
    goes-length : length (goes r words f) ≡ f.dropped - r.kept.dropped
    goes-length = length-take-le (f.dropped - r.kept.dropped) (held_by r words).log (omega (arith, log-length))

    pub kept-dropped : (kept_by r words f).dropped ≡ f.dropped
    kept-dropped = omega (arith, goes-length, more)

    pub folded-by : folded_by (holding r words f) (words_with f.held.log words) ≡ f
    folded-by = held-behind r (kept_by r words f) f kept-dropped words

    pub sound-of : FoldedFine r.n r.own f → Sound (holding r words f) (words_with f.held.log words)
    sound-of x =
        sound-behind r (kept_by r words f) f words S.head
        (after-fine r.n r.weights r.kept S.kept S.head.most (goes r words f) (all_take (is_entry r.n) (f.dropped - r.kept.dropped) (held_by r words).log S.entries))
        kept-dropped x S.room
