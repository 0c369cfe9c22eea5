-- Take at a replica, of a sent message, is the protocol's take of what the message says, refused ones included: the message is read, and has the
-- record's n and weights. Assumes nothing.
use mathlib.Core.Path.{◌≡◌, sym, ap, ap₂, subst₂, ◌∙◌}
use mathlib.Core.Bool.{true}
use mathlib.Core.List.{List}
use Prim.Native.Nat.{ℕ, ◌≤◌}
use native.Mathlib.Omega.{arith}
use lib.Dec.{eqb}
use lib.ListN as L
use borrow.Author.Tests.{eq-eqb}
use Rattle.lists.specs.Tests.{same}
use Rattle.lists.proofs.Tests.{both_true}
use Rattle.lists.proofs.Same.{same_refl}
use Rattle.protocol.specs.Folding.{FoldedOffice, Packet, with_folded_take, refuse_folded_take}
use Rattle.protocol_laws.proofs.Folding.{take_found}
use Rattle.protocol_laws.proofs.FoldedLimits.{HeldFine, FoldedFine, PacketFine, folded-facts, folded-take-fine}
use Rattle.ballots.specs.Ballots.{words_with}
use Rattle.spelling.specs.Content.{Content, as_packet}
use Rattle.spelling.proofs.Laws.{reading-valid}
use Rattle.spelling.proofs.Valid.{valid-facts, valid-office}
use Rattle.frame.specs.State.{folded_by, holding}
use Rattle.frame.specs.Soundness.{Sound}
use Rattle.taking.specs.Taking.{same_offices, taken_office, take_of, take_words}
use Rattle.frame.proofs.State.{whole_length, folded-by, sound-of}
use Rattle.taking.proofs.Takes.{like, take-done-is}
use Rattle.taking.proofs.Accept.{take-keeps}
use Rattle.agreement.specs.World.{Replica, taken}
use Rattle.agreement.proofs.View.{means, SoundReplica, Readable, means-content}
use Rattle.agreement.proofs.Held.{Leaves, Moves, replica-fine, own_below, moves}

-- what is read says an office within the limits
message-fine : (n : ℕ) (ws : List ℕ) (s : List ℕ) (x : Readable n ws s) → PacketFine n (means s)
unfolding as_packet
message-fine n ws s x =
    let c : Content = x.content in
    let v = reading-valid s c x.reads in
    let h : HeldFine c.n c.dropped (as_packet c).state = folded-facts c.n c.dropped (as_packet c).state (valid-office c v) in
    subst₂ PacketFine x.count (sym (means-content n ws s x)) (record { known = (valid-facts c v).sender-below; held = h.held; short = h.short })

module _ (n : ℕ) (ws : List ℕ) (k : ℕ) (d : Replica) (m : SoundReplica n ws k d) (s : List ℕ) (x : Readable n ws s) where
  abbrev refused : ℕ
  refused = refuse_folded_take k (means s) (folded_by d.held d.words)

  abbrev office : FoldedOffice
  office = with_folded_take k (means s) (folded_by d.held d.words)

  same-offices : same_offices d.held x.content ≡ true
  unfolding same_offices
  same-offices =
      let w = d.held.weights in
      let e : x.content.weights ≡ L.take d.held.n w = x.weights ∙ ap₂ L.take (sym m.count) (sym m.weights) in
      both_true (eqb x.content.n d.held.n) (same x.content.weights (L.take d.held.n w))
      (eq-eqb x.content.n d.held.n (x.count ∙ sym m.count))
      (ap (λ (l : List ℕ). same l (L.take d.held.n w)) e ∙ same_refl (L.take d.held.n w))

  pub take-number : (take_of d.held d.words s).number ≡ refused
  unfolding take_of
  take-number =
      like d.held d.words s m.sound x.content x.reads same-offices
      ∙ ap₂ (λ (j : ℕ) (i : Packet). refuse_folded_take j i (folded_by d.held d.words)) m.own (sym (means-content n ws s x))

  office-is : taken_office d.held d.words s ≡ office
  unfolding taken_office
  office-is = rw x.reads (ap₂ (λ (j : ℕ) (i : Packet). with_folded_take j i (folded_by d.held d.words)) m.own (sym (means-content n ws s x)))

  -- an accepted message
  module _ (z : refused ≡ 0) where
    -- no more is dropped than was settled
    more : d.held.kept.dropped ≤ office.dropped
    unfolding with_folded_take
    more = omega arith

    within : office.dropped ≤ d.held.settled
    unfolding with_folded_take
    within =
        let t = take_found k (means s) (folded_by d.held d.words) z in
        omega (arith, t.reaches, whole_length d.held d.words m.sound, m.sound.within)

    office-fine : FoldedFine d.held.n d.held.own office
    office-fine =
        subst₂ (λ (i j : ℕ). FoldedFine i j office) (sym m.count) (sym m.own)
        (folded-take-fine n k (means s) (folded_by d.held d.words) (replica-fine n ws k d m) (message-fine n ws s x) (own_below n ws k d m) z)

    pub take-leaves : Leaves d office (take_of d.held d.words s).«record» (take_words d.held d.words s)
    unfolding take_of
    take-leaves =
        let D = take-done-is d.held d.words s (take-number ∙ z) in
        let made : (take_of d.held d.words s).«record» ≡ holding d.held d.words office = D.0 ∙ ap (holding d.held d.words) office-is in
        let written : take_words d.held d.words s ≡ words_with office.held.log d.words = D.1 ∙ ap (λ (f : FoldedOffice). words_with f.held.log d.words) office-is in
        record {
          made = made;
          written = written;
          state = ap₂ folded_by made written ∙ folded-by d.held d.words m.sound office more within;
          sound = subst₂ Sound (sym made) (sym written) (sound-of d.held d.words m.sound office more within office-fine);
        }

  pub take-moves : Moves n ws k d (taken d s) refused office
  take-moves = moves n ws k d m refused office (take_of d.held d.words s).«record» (take_words d.held d.words s)
      take-leaves (λ h. take-keeps d.held d.words s (λ z. h (sym take-number ∙ z)))
