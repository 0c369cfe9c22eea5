-- What take answers of a message, and that it accepts what send writes and no other spelling.
--     take-sound, take-state, take-keeps      the record after a done take is sound and holds the protocol's state; a refused one changes nothing
--     reads-spellings, reads_only             with a sound record, a call is refused with 7 exactly where the bytes spell no valid content
--     accepts-sent                            every message that is accepted is what send writes for some sound record
-- Assumes nothing.
use mathlib.Core.Path.{◌≡◌, refl, sym, ap, ap₂, subst, subst₂, ◌∙◌}
use mathlib.Core.Bool.{Bool, true, false}
use mathlib.Core.Logic.{◌⊎◌, inl, inr}
use mathlib.Core.List.{List, [], ◌++◌, map}
use Rattle.std.specs.Prelude.{Option, None, Some}
use Prim.Native.Nat.{ℕ, ◌+◌, ◌-◌, ◌<◌, ◌≤◌}
use native.Mathlib.Omega.{arith}
use lib.ListN.{length, take, drop, replicate}
use lib.Seq.{take-append_seam, take_at}
use Rattle.protocol.specs.Folding as F
use Rattle.protocol.specs.Folding.{with_folded_take, refuse_folded_take}
use Rattle.lists.proofs.Tests.{both-1, take-map, get_d_replicate}
use Rattle.protocol_laws.proofs.Folding.{take_found, take-values}
use Rattle.protocol_laws.proofs.FoldedLimits.{FoldedFine, PacketFine, folded-take-fine, unfolded-fine}
use Rattle.ballots.specs.Ballots.{tail_of, ballot_of, words_with}
use Rattle.ballots.proofs.Laws.{tails-of}
use Rattle.lists.proofs.Same.{same_true}
use Rattle.numbers.specs.Numbers.{Bytes}
use Rattle.spelling.specs.Content.{Content, as_packet, eight_tails, valid_content}
use Rattle.spelling.specs.Spelling.{spelling}
use Rattle.spelling.specs.Reading.{reading}
use Rattle.spelling.proofs.Valid.{valid-facts}
use Rattle.spelling.proofs.Laws.{reading-spelling, spelling-reading}
use Rattle.writer.specs.Written as written
use Rattle.kept.specs.declared.Kept.{Kept}
use Rattle.frame.specs.State.{folded_by, kept_by, holding_behind, holding, fresh_record}
use Rattle.protocol.specs.Limits.{Head}
use Rattle.frame.specs.Soundness.{Sound}
use Rattle.frame.specs.Message.{content_of, message_of}
use Rattle.taking.specs.Taking.{same_offices, take_number, take_places, take_of, take_words}
use Rattle.frame.specs.declared.Record.{Record}
use Rattle.frame.proofs.State.{whole_length, folded-fine, folded-by, sound-behind, sound-of}
use Rattle.taking.proofs.Ineffective.{ineffective, ineffective-fine}
use Rattle.taking.proofs.Takes.{Accepted, accepted, same_count, packet-fine, take-refused, take-done-is, taken-office, not-read, other, like}

number_is : (r : Record) (words s : List ℕ) → (take_of r words s).number ≡ take_number r words s
unfolding take_of
number_is r words s = refl

-- ── the record after a call ──
pub take-keeps : (r : Record) (words s : List ℕ) → ((take_of r words s).number ≡ 0 → ⊥) → ((take_of r words s).«record» ≡ r) × (take_words r words s ≡ words)
take-keeps r words s h =
    let e = take-refused r words s (take_number r words s) (take_places r words s) refl refl (λ q. h (number_is r words s ∙ q)) in
    (ap (λ t. t.«record») (sym e.0), sym e.1)

-- an accepted message says a content; of bytes it is valid
module _ (r : Record) (words s : List ℕ) (done : (take_of r words s).number ≡ 0) where
  found : Accepted r words s
  found = accepted r words s (sym (number_is r words s) ∙ done)

  abbrev after : F.FoldedOffice
  after = with_folded_take r.own (as_packet found.content) (folded_by r words)

  left : ((take_of r words s).«record» ≡ holding r words after) × (take_words r words s ≡ words_with after.held.log words)
  left =
      let d = take-done-is r words s (sym (number_is r words s) ∙ done) in
      let o = taken-office r words s found in
      (d.0 ∙ ap (holding r words) o, d.1 ∙ ap (λ (x : F.FoldedOffice). words_with x.held.log words) o)

  -- it drops no more than was settled
  more : r.kept.dropped ≤ after.dropped
  unfolding with_folded_take
  more = omega arith

  within : after.dropped ≤ r.settled
  unfolding with_folded_take
  within =
      let t = take_found r.own (as_packet found.content) (folded_by r words) found.done in
      omega (arith, t.reaches, whole_length r words found.sounds, found.sounds.within)

  folded_after : folded_by (take_of r words s).«record» (take_words r words s) ≡ after
  folded_after = ap₂ folded_by left.0 left.1 ∙ folded-by r words found.sounds after more within

  same-content : (c : Content) → reading s ≡ Some c → found.content ≡ c
  same-content c e = let q : Some found.content ≡ Some c = sym found.reads ∙ e in cc

  pub take-state : (c : Content) → reading s ≡ Some c → folded_by (take_of r words s).«record» (take_words r words s) ≡ with_folded_take r.own (as_packet c) (folded_by r words)
  take-state c e = folded_after ∙ ap (λ (d : Content). with_folded_take r.own (as_packet d) (folded_by r words)) (same-content c e)

  pub take-kept : (c : Content) → reading s ≡ Some c → (take_of r words s).«record».kept ≡ kept_by r words (with_folded_take r.own (as_packet c) (folded_by r words))
  take-kept c e = ap (λ (x : Record). x.kept) left.0 ∙ ap (λ (d : Content). kept_by r words (with_folded_take r.own (as_packet d) (folded_by r words))) (same-content c e)

  same-weights : found.content.weights ≡ take r.n r.weights
  unfolding same_offices
  same-weights = same_true _ _ (both-1 _ _ found.offices)

  module _ (bytes : Bytes s) where
    valid : valid_content found.content ≡ true
    valid = (spelling-reading s found.content bytes found.reads).1

    fine-message : PacketFine r.n (as_packet found.content)
    fine-message = packet-fine r words s found

    pub take-sound : Sound (take_of r words s).«record» (take_words r words s)
    take-sound =
        let S = found.sounds in
        let f = folded-take-fine r.n r.own (as_packet found.content) (folded_by r words) (folded-fine r words S) fine-message S.head.member found.done in
        subst₂ Sound (sym left.0) (sym left.1) (sound-of r words S after more within f)

    -- "accepts no other spelling": the message is what send writes for a sound record, the sender's as the message tells it
    sender : Record
    sender = fresh_record r.n found.content.sender r.weights

    sender-head : Head r.n found.content.sender r.weights
    sender-head =
        let H = found.sounds.head in
        record {
          eight = H.eight;
          weights = H.weights;
          some = H.some;
          most = H.most;
          member = subst (λ (n : ℕ). found.content.sender < n) (same_count r words s found) (valid-facts found.content valid).sender-below;
          rest = H.rest;
          total-some = H.total-some;
        }

    abbrev state : F.FoldedOffice
    state = record { dropped = found.content.dropped; held = (as_packet found.content).state; noted = replicate 8 0 }

    -- a sender that has dropped so many entries, all of them office 0's and without effect
    abbrev behind : Kept
    behind = ineffective r.weights found.content.dropped

    sender-fine : FoldedFine r.n found.content.sender state
    unfolding as_packet
    sender-fine = let u = unfolded-fine r.n found.content.sender in record {
      held = fine-message.held;
      short = fine-message.short;
      noted = λ j. omega (arith, get_d_replicate {A = ℕ} 8 0 j);
      eight = u.eight;
      unused = u.unused;
    }

    sender-content : content_of (holding_behind sender behind state) (words_with state.held.log words) ≡ found.content
    unfolding written.content_of written.tails_of as_packet eight_tails sender
    sender-content =
        let c : Content = found.content in
        let ts : List (List ℕ) = c.tails ++ replicate (8 - c.n) [] in
        let l : c.dropped + length c.log - c.dropped ≡ length c.log = omega arith in
        λ i. record {
          sender = c.sender;
          n = sym (same_count r words s found) i;
          weights = sym same-weights i;
          dropped = c.dropped;
          log = (ap (λ (k : ℕ). take k (words_with c.log words)) l ∙ take-append_seam c.log (drop (length c.log) words)) i;
          tails = (
              sym (take-map tail_of r.n (map ballot_of ts)) ∙ ap (take r.n) (tails-of ts)
              ∙ take_at c.tails (replicate (8 - c.n) []) r.n ((valid-facts c valid).tails-length ∙ same_count r words s found)
              ) i;
        }

    pub accepts-sent : (r' : Record) × (words' : List ℕ) × (Sound r' words') × (message_of r' words' ≡ s)
    unfolding sender
    accepts-sent = (
      holding_behind sender behind state,
      words_with state.held.log words,
      sound-behind sender behind state words sender-head (ineffective-fine r.n found.content.sender r.weights sender-head found.content.dropped) refl sender-fine found.sounds.room,
      ap spelling sender-content ∙ (spelling-reading s found.content bytes found.reads).0,
    )

-- ── what is refused with 7 ──
refuse-seven : (k : ℕ) (m : F.Packet) (f : F.FoldedOffice) → refuse_folded_take k m f ≡ 7 → ⊥
refuse-seven k m f e = go (take-values k m f)
  where
    go : (refuse_folded_take k m f ≡ 0) ⊎ ((refuse_folded_take k m f ≡ 9) ⊎ ((refuse_folded_take k m f ≡ 10) ⊎ ((refuse_folded_take k m f ≡ 16) ⊎ (refuse_folded_take k m f ≡ 17)))) → ⊥
    go (inl q) = omega (arith, q, e)
    go (inr (inl q)) = omega (arith, q, e)
    go (inr (inr (inl q))) = omega (arith, q, e)
    go (inr (inr (inr (inl q)))) = omega (arith, q, e)
    go (inr (inr (inr (inr q)))) = omega (arith, q, e)

module _ (r : Record) (words : List ℕ) (S : Sound r words) where
  read-seven : (s : List ℕ) (c : Content) → reading s ≡ Some c → take_number r words s ≡ 7 → ⊥
  read-seven s c e q = go (same_offices r c) refl
    where
      go : (b : Bool) → same_offices r c ≡ b → ⊥
      go true d = refuse-seven r.own (as_packet c) (folded_by r words) (sym (like r words s S c e d) ∙ q)
      go false d = omega (arith, other r words s S c e d, q)

  pub reads-spellings : (c : Content) → valid_content c ≡ true → take_number r words (spelling c) ≡ 7 → ⊥
  reads-spellings c v = read-seven (spelling c) c (reading-spelling c v)

  pub reads_only : (s : List ℕ) → Bytes s → (take_number r words s ≡ 7 → ⊥) → (c : Content) × (valid_content c ≡ true) × (spelling c ≡ s)
  reads_only s bytes h = go (reading s) refl
    where
      go : (x : Option Content) → reading s ≡ x → (c : Content) × (valid_content c ≡ true) × (spelling c ≡ s)
      go None e = absurd (h (not-read r words s S e))
      go (Some c) e = let t = spelling-reading s c bytes e in (c, t.1, t.0)
