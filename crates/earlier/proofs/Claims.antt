-- The claims of request (x).
--     done            an answer that is done shows for each line named the settled frame of the first p entries, and has read the shortest run
--     whole           where dropped entries left the kept codes, it shows the last edits in these entries and the undropped ones of the first p
--     refused         "A refusal answers 'no edit yet' throughout and 0 words"
--     only-three      it is refused with 1, 3 or 13
-- Assumes nothing.
use mathlib.Core.Path.{◌≡◌, refl, sym, ap, subst, ◌∙◌}
use mathlib.Core.Bool.{Bool, true, false}
use mathlib.Core.Logic.{◌⊎◌, inl, inr}
use mathlib.Core.List.{List, ◌++◌, map}
use Prim.Native.Nat.{ℕ, ◌-◌, ◌≤◌, ◌<◌}
use native.Mathlib.Omega.{arith}
use lib.Dec.{leb}
use lib.ListN.{length, get_or, take, drop, length-map, length-replicate}
use lib.Seq.{length-take-le, take-take}
use borrow.Author.Tests.{leb-true}
use Rattle.lists.specs.Tests.{pick}
use Rattle.lists.proofs.Tests.{both-0, both-1}
use Rattle.lists.proofs.Padded.{padded-at, padded-past}
use Rattle.protocol.specs.Codes.{cell, no_codes, codes_after}
use Rattle.protocol.specs.Frames.{edit_after, last_edit}
use Rattle.protocol_laws.proofs.Codes.{cell-back}
use Rattle.runs.specs.Runs.{of_frame, edits_of, edits_all, shortest_run, Shortest}
use Rattle.backward.specs.Cells.{placed}
use Rattle.runs.proofs.WalkReads.{kept-front, none_kept}
use Rattle.runs.proofs.Runs.{shortest-is}
use Rattle.backward.proofs.Placed.{named-at, get_or-mapped}
use Rattle.frame.specs.State.{held_length}
use Rattle.frame.specs.Soundness.{sound_b}
use Rattle.shown_edits.specs.Shown.{stored_edit}
use Rattle.both_frames.specs.Frames.{kept_edit, frame_of, settled_frame_of}
use Rattle.frame.specs.declared.Record.{Record}
use Rattle.frame.proofs.Sound.{sound}
use Rattle.frame.proofs.State.{log-length}
use Rattle.both_frames.proofs.Shown.{shown-done, frame-shown}
use Rattle.earlier.specs.Earlier.{first_of, earlier_done, earlier_refused, readable, earlier_of}
use Rattle.earlier.specs.Claims.{shown_at, run_edits, Claims}
use Rattle.earlier.specs.declared.Earlier.{Earlier}
use Rattle.earlier.proofs.Made.{earlier-done}

module _ (r : Record) (words : List ℕ) (p : ℕ) (lines : List ℕ) where
  -- the answer by its three tests
  by : Bool → Bool → Bool → Earlier
  by a b c = pick a (pick b (pick c (earlier_done r words p lines) (earlier_refused 13)) (earlier_refused 3)) (earlier_refused 1)

  pub only-three : ((earlier_of r words p lines).number ≡ 0)
      ⊎ (((earlier_of r words p lines).number ≡ 1) ⊎ (((earlier_of r words p lines).number ≡ 3) ⊎ ((earlier_of r words p lines).number ≡ 13)))
  unfolding earlier_of pick by
  only-three = go (sound_b r words) (of_frame lines) (readable r p lines)
    where
      go : (a b c : Bool) → ((by a b c).number ≡ 0) ⊎ (((by a b c).number ≡ 1) ⊎ (((by a b c).number ≡ 3) ⊎ ((by a b c).number ≡ 13)))
      go true true true = inl refl
      go true true false = inr (inr (inr refl))
      go true false c = inr (inr (inl refl))
      go false b c = inr (inl refl)

  pub refused : ((earlier_of r words p lines).number ≡ 0 → ⊥) → earlier_of r words p lines ≡ earlier_refused (earlier_of r words p lines).number
  unfolding earlier_of pick by
  refused h = go (sound_b r words) (of_frame lines) (readable r p lines) h
    where
      go : (a b c : Bool) → ((by a b c).number ≡ 0 → ⊥) → by a b c ≡ earlier_refused (by a b c).number
      go true true true n = absurd (n refl)
      go true true false n = refl
      go true false c n = refl
      go false b c n = refl

  -- a done answer: the record is sound, the lines are of the frame, and p and their number are within the limits
  done-means : (earlier_of r words p lines).number ≡ 0 → (sound_b r words ≡ true) × ((of_frame lines ≡ true) × (readable r p lines ≡ true))
  unfolding earlier_of pick by
  done-means h = go (sound_b r words) (of_frame lines) (readable r p lines) h
    where
      go : (a b c : Bool) → (by a b c).number ≡ 0 → (a ≡ true) × ((b ≡ true) × (c ≡ true))
      go true true true e = (refl, (refl, refl))
      go true true false e = absurd (omega (arith, e))
      go true false c e = absurd (omega (arith, e))
      go false b c e = absurd (omega (arith, e))

  module _ (q : sound_b r words ≡ true) (each : of_frame lines ≡ true) (can : readable r p lines ≡ true) where
    abbrev first : List ℕ
    first = first_of r words p

    -- the edit of a line in them, or else the kept one
    abbrev shown : ℕ → ℕ
    shown line = cell (edit_after line (kept_edit r line) first)

    is : earlier_of r words p lines ≡ earlier_done r words p lines
    is = sym (earlier-done r words p lines q each can)

    past-dropped : r.kept.dropped ≤ p
    unfolding readable
    past-dropped = leb-true r.kept.dropped p (both-0 _ _ can)

    within : p ≤ r.settled
    unfolding readable
    within = leb-true p r.settled (both-0 (leb p r.settled) (leb (length lines) 64) (both-1 _ _ can))

    few : length lines ≤ 64
    unfolding readable
    few = leb-true (length lines) 64 (both-1 (leb p r.settled) (leb (length lines) 64) (both-1 _ _ can))

    -- the stored edit at place i
    edit-at : (i : ℕ) → i < length lines → get_or (earlier_of r words p lines).edits i 0 ≡ shown (get_or lines i 0)
    edit-at i h =
        ap (λ (a : Earlier). get_or a.edits i 0) is
        ∙ padded-at 64 0 (edits_of lines r.kept.summary.codes first) i (omega (arith, length-map lines shown))
        ∙ get_or-mapped shown lines i h

    frames : (i : ℕ) → i < length lines → shown_at r words p lines i ≡ frame_of r words (get_or lines i 0) (first_of r words p)
    frames i h =
        let line : ℕ = get_or lines i 0 in
        shown-done line (kept_edit r line) first (named-at lines (record { few = few; each = each }) i h) (stored_edit (get_or (earlier_of r words p lines).edits i 0))
        (ap stored_edit (edit-at i h) ∙ cell-back (edit_after line (kept_edit r line) first))
        ∙ frame-shown r words line first q

    settled : p ≡ r.settled → (i : ℕ) → i < length lines → shown_at r words p lines i ≡ settled_frame_of r words (get_or lines i 0)
    settled e i h =
        frames i h ∙ ap (frame_of r words (get_or lines i 0)) (ap (λ (k : ℕ). take (k - r.kept.dropped) (take (held_length r) words)) e ∙ take-take (held_length r) (held_length r) words (omega arith))

    past : (i : ℕ) → length lines ≤ i → get_or (earlier_of r words p lines).edits i 0 ≡ 0
    past i h =
        ap (λ (a : Earlier). get_or a.edits i 0) is
        ∙ padded-past 64 0 (edits_of lines r.kept.summary.codes first) i (omega (arith, length-map lines shown))

    read : Shortest (p - r.kept.dropped) (run_edits r words p lines) (earlier_of r words p lines).words
    read = subst (Shortest (p - r.kept.dropped) (run_edits r words p lines)) (ap (λ (a : Earlier). a.words) (sym is))
        (subst (λ (n : ℕ). Shortest n (λ (s : ℕ). edits_all lines (drop (n - s) first)) (shortest_run lines first))
        (length-take-le (p - r.kept.dropped) (take (held_length r) words) (omega (arith, within, log-length r words (sound r words q))))
        (shortest-is lines first))

    -- the entries that were dropped, if the kept codes are what they left
    edits-whole : (former : List ℕ) → r.kept.summary.codes ≡ codes_after no_codes former
        → (earlier_of r words p lines).edits ≡ placed (map (λ (line : ℕ). cell (last_edit line (former ++ first_of r words p))) lines)
    edits-whole former e =
        ap (λ (a : Earlier). a.edits) is
        ∙ ap placed (ap (λ (codes : List ℕ). edits_of lines codes first) e ∙ kept-front lines no_codes former first each (length-replicate {A = ℕ} 64 0) ∙ none_kept lines (former ++ first))

  pub done : (earlier_of r words p lines).number ≡ 0 → Claims r words p lines
  done h =
      let m = done-means h in
      let q = m.0 in
      let each = m.1.0 in
      let can = m.1.1 in
      record {
        past-dropped = past-dropped q each can;
        within = within q each can;
        few = few q each can;
        frames = frames q each can;
        settled = settled q each can;
        past = past q each can;
        read = read q each can;
      }

  pub whole : (earlier_of r words p lines).number ≡ 0 → (former : List ℕ) → r.kept.summary.codes ≡ codes_after no_codes former
      → (earlier_of r words p lines).edits ≡ placed (map (λ (line : ℕ). cell (last_edit line (former ++ first_of r words p))) lines)
  whole h = let m = done-means h in edits-whole m.0 m.1.0 m.1.1
