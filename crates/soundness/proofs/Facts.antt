-- Soundness as facts by name, both ways, and as the tests that the code makes.
--     sound-facts, sound-true     the test `sound_fields` and its facts
--     sound-not                   without the facts the test fails
--     sound-tests                 behind the numbers and what is kept: the undropped words, what they have done, the ballots, then the lengths
-- Assumes nothing.
use mathlib.Core.Path.{◌≡◌, refl, sym, ◌∙◌}
use mathlib.Core.Bool.{Bool, true, false}
use mathlib.Core.List.{List, map}
use Prim.Native.Nat.{ℕ, ◌+◌, ◌≤◌}
use native.Mathlib.Omega.{arith}
use lib.Dec.{leb}
use lib.ListN.{length, take, length-map}
use lib.Seq.{length-take-le}
use borrow.Author.Tests.{leb-true, le-leb}
use Rattle.lists.specs.Tests.{both, all_b}
use Rattle.lists.proofs.Tests.{both-0, both-1, both_true, both-comm, both-swap}
use Rattle.protocol.specs.Entry.{is_entry}
use Rattle.protocol.specs.Limits.{head_fine, log_fine, tails_fine, office_fine, lengths_fine, folded_fine, long_enough}
use Rattle.protocol_laws.proofs.Limits.{head, head-true, fine}
use Rattle.ballots.specs.Ballots.{ballot_shape, ballots_fine, tail_of, office_in}
use Rattle.ballots.specs.declared.Ballot.{Ballot}
use Rattle.eight_ballots.proofs.Eight.{places-fine}
use Rattle.summary.specs.Summary.{summary_after}
use Rattle.summary.specs.declared.Summary.{Summary}
use Rattle.summary.proofs.Laws.{same-summary-true, same-summary-refl}
use Rattle.kept.specs.Kept.{kept_fine}
use Rattle.kept.specs.declared.Kept.{Kept}
use Rattle.kept.proofs.Facts.{kept-facts, kept-true}
use Rattle.soundness.specs.Noted.{noted_fine}
use Rattle.soundness.specs.Soundness.{held_length, shaped, follows, sound_fields, SoundFields}
use Rattle.soundness.proofs.Noted.{noted-facts, noted-true}

-- a summary that is its log's passes the test
pub follows_of : (before summary : Summary) (held : ℕ) (words : List ℕ) → summary ≡ summary_after before (take held words) → follows before summary held words ≡ true
unfolding follows
follows_of before summary held words e = rw e (same-summary-refl _)

module _ (n own : ℕ) (ws : List ℕ) (kept : Kept) (noted : List ℕ) (summary : Summary) (settled : ℕ) (bs : List Ballot) (words : List ℕ) where
  abbrev held : ℕ
  held = held_length settled kept.dropped

  -- what the words and the ballots say, as the code tests it
  abbrev pub tests : Bool
  tests = both (all_b (is_entry n) (take held words)) (both (follows kept.summary summary held words) (both (ballots_fine n held bs) (lengths_fine settled (map tail_of bs))))

  -- where the log has room, and the numbers and what is kept are within the limits, the words and the ballots decide
  pub sound-tests : 1024 ≤ length words → head_fine n own ws ≡ true → kept_fine n ws kept ≡ true → kept.dropped ≤ settled → noted_fine n own settled noted ≡ true → held ≤ 1024
      → sound_fields n own ws kept noted summary settled bs words ≡ tests
  unfolding sound_fields long_enough shaped folded_fine office_fine log_fine ballots_fine both
  sound-tests room h k within l most =
      let long : length (take held words) ≡ held = length-take-le held words (omega arith) in
      let all : kept.dropped + held ≡ settled = omega arith in
      rw (le-leb 1024 (length words) room, h, k, le-leb kept.dropped settled within, l, le-leb held (length words) (omega arith), long, all, le-leb held 1024 most)
      (reordered (all_b ballot_shape bs) (all_b (is_entry n) (take held words)) (tails_fine n held _) (lengths_fine settled _) (follows kept.summary summary held words))
    where
      reordered : (s e t l f : Bool) → both s (both (both (both e t) l) f) ≡ both e (both f (both (both s t) l))
      reordered s e t l f = simp (both-comm, both-swap)

  pub sound-facts : sound_fields n own ws kept noted summary settled bs words ≡ true → SoundFields n own ws kept noted summary settled bs words
  unfolding sound_fields long_enough shaped follows folded_fine
  sound-facts e =
      let e1 = both-1 (long_enough words) _ e in
      let e2 = both-1 (head_fine n own ws) _ e1 in
      let e3 = both-1 (kept_fine n ws kept) _ e2 in
      let e4 = both-1 (leb kept.dropped settled) _ e3 in
      let e5 = both-1 (noted_fine n own settled noted) _ e4 in
      let e6 = both-1 (shaped held bs words) _ e5 in
      let room : 1024 ≤ length words = leb-true 1024 (length words) (both-0 _ _ e) in
      let within : kept.dropped ≤ settled = leb-true kept.dropped settled (both-0 _ _ e3) in
      let F = fine n (office_in words held bs) (both-0 (office_fine n (office_in words held bs)) _ (both-0 (folded_fine n kept.dropped (office_in words held bs)) _ e6)) in
      let there : held ≤ length words = leb-true held (length words) (both-0 _ _ (both-0 (shaped held bs words) _ e5)) in
      let long : length (take held words) ≡ held = length-take-le held words there in
      let most : held ≤ 1024 = omega (arith, F.most) in
      let eight : length bs ≡ 8 = sym (length-map bs tail_of) ∙ F.eight in
      let decided = sym (sound-tests room (both-0 _ _ e1) (both-0 _ _ e2) within (both-0 _ _ e4) most) ∙ e in
      let behind = both-1 (all_b (is_entry n) (take held words)) _ decided in
      let cells = both-1 (follows kept.summary summary held words) _ behind in
      let places = sym (places-fine n held bs eight) ∙ both-0 _ _ cells in
      record {
        room = room;
        head = head n own ws (both-0 _ _ e1);
        kept = kept-facts n ws kept (both-0 _ _ e2);
        within = within;
        noted = noted-facts n own settled noted (both-0 _ _ e4);
        most = most;
        entries = F.entries;
        lengths = both-1 (ballots_fine n held bs) _ cells;
        done = same-summary-true summary (summary_after kept.summary (take held words)) (both-0 (follows kept.summary summary held words) _ behind);
        eight = eight;
        fine = both-0 _ _ places;
        rest = both-1 _ _ places;
      }

  pub sound-true : SoundFields n own ws kept noted summary settled bs words → sound_fields n own ws kept noted summary settled bs words ≡ true
  sound-true S =
      sound-tests S.room (head-true n own ws S.head) (kept-true n ws kept S.kept) S.within (noted-true n own settled noted S.noted) S.most
      ∙ both_true _ _ S.entries
      (both_true _ _ (follows_of kept.summary summary held words S.done)
      (both_true _ _ (places-fine n held bs S.eight ∙ both_true _ _ S.fine S.rest) S.lengths))

  pub sound-not : (SoundFields n own ws kept noted summary settled bs words → ⊥) → false ≡ sound_fields n own ws kept noted summary settled bs words
  sound-not f = go (sound_fields n own ws kept noted summary settled bs words) refl
    where
      go : (t : Bool) → sound_fields n own ws kept noted summary settled bs words ≡ t → false ≡ t
      go true e = absurd (f (sound-facts e))
      go false e = refl
