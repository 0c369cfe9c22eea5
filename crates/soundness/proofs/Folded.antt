-- The fields of a sound record, and the folded office that they hold.
--     folded-fine     the office is within the protocol's limits
--     sound-of        an office within the limits, and what is kept of as many entries, make the fields of a sound record, in words with room
-- Assumes nothing.
use mathlib.Core.Path.{◌≡◌, refl, sym, ap, ap₂, ◌∙◌}
use mathlib.Core.Bool.{true}
use mathlib.Core.List.{List, map}
use mathlib.Core.Logic.{◌⊎◌, inl, inr}
use Prim.Native.Nat.{ℕ, ◌≤◌}
use native.Mathlib.Omega.{arith}
use lib.Dec.{leb}
use lib.ListN.{length, get_or, take, drop, length-append, length-drop}
use lib.Seq.{length-take-le, take-append_seam}
use borrow.Author.Tests.{le-leb}
use Rattle.lists.specs.Tests.{all_b}
use Rattle.lists.proofs.Tests.{both-0, both-1, both_true, all_map}
use Rattle.protocol.specs.Office.{Office}
use Rattle.protocol.specs.Limits.{Head, head_fine, tail_fine, folded_fine, long_enough}
use Rattle.protocol.specs.Folding.{FoldedOffice, settled_length}
use Rattle.protocol_laws.proofs.Limits.{head-true}
use Rattle.protocol_laws.proofs.FoldedLimits.{FoldedFine, folded-facts, folded-of}
use Rattle.ballots.specs.Ballots.{ballot_shape, ballot_of, office_in, words_with}
use Rattle.ballots.specs.declared.Ballot.{Ballot}
use Rattle.eight_ballots.proofs.Eight.{shape_of}
use Rattle.ballots.proofs.Laws as B
use Rattle.summary.specs.Summary.{summary_after}
use Rattle.summary.specs.declared.Summary.{Summary}
use Rattle.kept.specs.Kept.{kept_fine, KeptFacts}
use Rattle.kept.specs.declared.Kept.{Kept}
use Rattle.kept.proofs.Facts.{kept-true}
use Rattle.soundness.specs.Noted.{noted_fine, NotedFacts}
use Rattle.soundness.specs.Soundness.{held_length, shaped, sound_fields, SoundFields}
use Rattle.soundness.proofs.Noted.{noted-true}
use Rattle.soundness.proofs.Facts.{sound-facts, sound-true, follows_of}

module _ (n own : ℕ) (ws : List ℕ) (kept : Kept) (noted : List ℕ) (summary : Summary) (settled : ℕ) (bs : List Ballot) (words : List ℕ)
    (S : SoundFields n own ws kept noted summary settled bs words) where
  abbrev office : Office
  office = office_in words (held_length settled kept.dropped) bs

  held-tests : folded_fine n kept.dropped office ≡ true
  unfolding sound_fields
  held-tests =
      let e1 = both-1 (long_enough words) _ (sound-true n own ws kept noted summary settled bs words S) in
      let e3 = both-1 (kept_fine n ws kept) _ (both-1 (head_fine n own ws) _ e1) in
      let e5 = both-1 (noted_fine n own settled noted) _ (both-1 (leb kept.dropped settled) _ e3) in
      both-0 (folded_fine n kept.dropped office) _ (both-1 (shaped (held_length settled kept.dropped) bs words) _ e5)

  -- the settled length is the dropped count and the length of what is undropped
  pub settled-length : settled_length kept.dropped office ≡ settled
  settled-length = omega (arith, S.within, length-take-le (held_length settled kept.dropped) words (omega (arith, S.most, S.room)))

  pub folded-fine : FoldedFine n own (record { dropped = kept.dropped; held = office; noted = noted })
  folded-fine =
      let F = folded-facts n kept.dropped office held-tests in
      record {
        held = F.held;
        short = F.short;
        noted = λ j. omega (arith, settled-length, S.noted.most j);
        eight = S.noted.eight;
        unused = unused;
      }
    where
      unused : (j : ℕ) → (j ≡ own) ⊎ (n ≤ j) → get_or noted j 0 ≡ 0
      unused j (inl e) = ap (λ (i : ℕ). get_or noted i 0) e ∙ S.noted.none-own
      unused j (inr h) = S.noted.rest j h

module _ (n own : ℕ) (ws : List ℕ) (kept : Kept) (f : FoldedOffice) (words : List ℕ)
    (H : Head n own ws) (K : KeptFacts n ws kept) (all : kept.dropped ≡ f.dropped) (F : FoldedFine n own f) (room : 1024 ≤ length words) where
  abbrev log : List ℕ
  log = f.held.log

  abbrev filled : List ℕ
  filled = words_with log words

  abbrev settled : ℕ
  settled = settled_length f.dropped f.held

  abbrev ballots : List Ballot
  ballots = map ballot_of f.held.tails

  -- what the words hold is the office's log
  held-is : held_length settled kept.dropped ≡ length log
  held-is = omega (arith, all)

  log_is : take (held_length settled kept.dropped) filled ≡ log
  log_is = ap (λ (k : ℕ). take k filled) held-is ∙ take-append_seam log (drop (length log) words)

  office-is : office_in filled (held_length settled kept.dropped) ballots ≡ f.held
  office-is = λ i. record { log = log_is i; tails = B.tails-of f.held.tails i }

  long : length filled ≡ length words
  long = rw (length-append, length-drop) (omega (arith, F.held.most, room))

  noted : NotedFacts n own settled f.noted
  noted = record { eight = F.eight; most = F.noted; none-own = F.unused own (inl refl); rest = λ j h. F.unused j (inr h) }

  in-shape : all_b ballot_shape ballots ≡ true
  in-shape =
      all_map (tail_fine n (length log)) ballot_shape ballot_of (λ t p. shape_of n (length log) (ballot_of t) (B.fine-tail n (length log) t p)) f.held.tails F.held.tails

  pub sound-of : SoundFields n own ws kept f.noted (summary_after kept.summary log) settled ballots filled
  unfolding sound_fields long_enough shaped
  sound-of =
      sound-facts n own ws kept f.noted (summary_after kept.summary log) settled ballots filled
      (both_true _ _ (le-leb 1024 (length filled) (omega (arith, room, long)))
      (both_true _ _ (head-true n own ws H)
      (both_true _ _ (kept-true n ws kept K)
      (both_true _ _ (le-leb kept.dropped settled (omega (arith, all)))
      (both_true _ _ (noted-true n own settled f.noted noted)
      (both_true _ _ (both_true _ _ (le-leb _ (length filled) (omega (arith, held-is, F.held.most, room, long))) in-shape)
      (both_true _ _ (ap₂ (folded_fine n) all office-is ∙ folded-of n f.dropped f.held (record { held = F.held; short = F.short }))
      (follows_of kept.summary (summary_after kept.summary log) _ filled (ap (summary_after kept.summary) (sym log_is))))))))))
