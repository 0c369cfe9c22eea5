-- Request (ix): the claims of specs/Edits. What is shown is the last edit, and that is none or a code exactly as claimed (`protocol`, Frames).
-- Assumes nothing.
use mathlib.Core.Path.{◌≡◌, refl, sym, ap, ap₂, ◌∙◌}
use mathlib.Core.Bool.{Bool, true, false, true≢false}
use mathlib.Core.List.{List}
use mathlib.Core.Logic.{◌⊎◌, inl, inr, ⊎_elim}
use Rattle.std.specs.Prelude.{Option, None, Some}
use Prim.Native.Nat.{ℕ, ◌≤◌}
use Rattle.lists.specs.Tests.{pick}
use Rattle.lists.proofs.Tests.{get_d_replicate}
use Rattle.protocol.specs.Limits.{head_fine, long_enough}
use Rattle.protocol.specs.Vote.{is_none}
use Rattle.protocol.specs.Frames.{edit_after, last_edit, or_else}
use Rattle.protocol.specs.Office.{path}
use Rattle.protocol_laws.proofs.Frames.{edit-none, edit-some, edit-behind}
use Rattle.frame.specs.State.{held_by, fresh_record, zero_record}
use Rattle.frame.specs.Soundness.{sound_b}
use Rattle.frame.specs.Founding.{found_of}
use Rattle.shown_edits.specs.Shown.{stored_edit}
use Rattle.both_frames.specs.Frames.{kept_edit, shown_in}
use Rattle.frame.specs.declared.Record.{Record}
use Rattle.both_frames.specs.Framed.{Framed}
use Rattle.frame.proofs.Sound.{sound}
use Rattle.both_frames.proofs.Shown.{shown-done, frame-shown, lines-frames, stored-shown}
use Rattle.promises.specs.Edits.{settled_edit, tentative_edit, line_edit, stored_at, ShowsEdits}

-- ── what is shown, and the last edit ──
none_or : (o p : Option ℕ) → or_else o p ≡ None → (p ≡ None) × (o ≡ None)
none_or None p e = (e, refl)
none_or (Some c) p e = absurd (true≢false (sym (ap is_none e)))

some_or : (o p : Option ℕ) (code : ℕ) → or_else o p ≡ Some code → (o ≡ Some code) ⊎ ((p ≡ Some code) × (o ≡ None))
some_or None p code e = inr (e, refl)
some_or (Some c) p code e = inl e

-- behind what is kept
shows : (shown : ℕ → Option ℕ) (kept : ℕ → Option ℕ) (entries : List ℕ) → ((line : ℕ) → line ≤ 63 → shown line ≡ edit_after line (kept line) entries) → ShowsEdits shown kept entries
shows shown kept entries e line h = (
  (
    λ s. let x = none_or last before (said None s) in (x.0, (edit-none line entries).0 x.1),
    λ x. shown-as None (ap₂ or_else ((edit-none line entries).1 x.1) x.0),
  ),
  λ code. (
    λ s. ⊎_elim (λ o. inl ((edit-some line entries code).0 o)) (λ x. inr (x.0, (edit-none line entries).0 x.1)) (some_or last before code (said (Some code) s)),
    ⊎_elim (λ l. shown-as (Some code) (ap (λ (o : Option ℕ). or_else o before) ((edit-some line entries code).1 l)))
        (λ x. shown-as (Some code) (ap₂ or_else ((edit-none line entries).1 x.1) x.0)),
  ),
)
  where
    last : Option ℕ
    last = last_edit line entries

    before : Option ℕ
    before = kept line

    is : shown line ≡ or_else last before
    is = e line h ∙ edit-behind line before entries

    said : (o : Option ℕ) → shown line ≡ o → or_else last before ≡ o
    said o s = sym is ∙ s

    shown-as : (o : Option ℕ) → or_else last before ≡ o → shown line ≡ o
    shown-as o s = is ∙ s

-- ── every sound record ──
module _ (r : Record) (words : List ℕ) (q : sound_b r words ≡ true) where
  in_frame : (line : ℕ) (p : List ℕ) → line ≤ 63 → (f : Framed) → shown_in line (kept_edit r line) p ≡ f → f.edit ≡ edit_after line (kept_edit r line) p
  in_frame line p h f e = sym (ap (λ (x : Framed). x.edit) (shown-done line (kept_edit r line) p h (edit_after line (kept_edit r line) p) refl ∙ e))

  settled_is : (line : ℕ) → line ≤ 63 → settled_edit r words line ≡ edit_after line (kept_edit r line) (held_by r words).log
  settled_is line h = in_frame line (held_by r words).log h _ (frame-shown r words line (held_by r words).log q)

  pub settled-shows : ShowsEdits (settled_edit r words) (kept_edit r) (held_by r words).log
  settled-shows = shows (settled_edit r words) (kept_edit r) (held_by r words).log settled_is

  pub tentative-shows : ShowsEdits (tentative_edit r words) (kept_edit r) (path (held_by r words) r.own)
  tentative-shows = shows (tentative_edit r words) (kept_edit r) (path (held_by r words) r.own)
      (λ line h. in_frame line (path (held_by r words) r.own) h _ (frame-shown r words line (path (held_by r words) r.own) q))

  pub lines-show : ShowsEdits (line_edit r words) (kept_edit r) (held_by r words).log
  lines-show = shows (line_edit r words) (kept_edit r) (held_by r words).log (λ line h. ap (λ (f : Framed). f.edit) (lines-frames r words line h) ∙ settled_is line h)

  pub stored-shows : ShowsEdits (stored_at r) (kept_edit r) (held_by r words).log
  stored-shows = shows (stored_at r) (kept_edit r) (held_by r words).log (stored-shown r words (sound r words q))

-- ── every founding ──
pub founded-none : (n own : ℕ) (ws words : List ℕ) (line : ℕ) → stored_at (found_of n own ws words).record line ≡ None
unfolding found_of pick
founded-none n own ws words line = go (long_enough words) (head_fine n own ws)
  where
    go : (a b : Bool) → stored_at (pick a (pick b (fresh_record n own ws) zero_record) zero_record) line ≡ None
    go true true = ap stored_edit (get_d_replicate 64 0 line)
    go true false = ap stored_edit (get_d_replicate 64 0 line)
    go false b = ap stored_edit (get_d_replicate 64 0 line)
